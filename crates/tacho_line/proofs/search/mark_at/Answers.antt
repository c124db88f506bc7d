use Rattle.std.proofs.Common.{drop, sym, ◌∙◌, arith}
use Rattle.std.proofs.lemmas.Grind.{common_steps}
use Rattle.tacho_line.proofs.SearchLemmas.{first_and_rest, no_first}
use Rattle.tacho_line.proofs.LineLemmas.{found_mark, no_mark, no_span}
use Rattle.tacho_line.proofs.search.mark_at.Goals as goal

pub returns-in_default : goal.returns-in_default
returns-in_default c = sym (no_span c.args.minute c.args.spans.now (sym c.behind.ensures ∙ no_first c.behind.result.now c.in_default.len_below))

pub returns-then-le : goal.returns-then-le
returns-then-le c =
    let found = c.behind.result.now in
    let s = c.span-item.result in
    sym (found_mark c.args.minute c.args.spans.now s (drop 1 found) (sym c.behind.ensures ∙ first_and_rest found s c.in-len1-up.len_at_least c.span-item.is) (grind (arith, common_steps)))

pub returns-else-le : goal.returns-else-le
returns-else-le c =
    let found = c.behind.result.now in
    let s = c.span-item.result in
    sym (no_mark c.args.minute c.args.spans.now s (drop 1 found) c.requires (sym c.behind.ensures ∙ first_and_rest found s c.in-len1-up.len_at_least c.span-item.is) (grind (arith, common_steps)))
