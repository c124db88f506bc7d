use Rattle.std.proofs.Common.{rules, ◌≡◌, ◌+◌, ◌-◌, ◌≤◌, ℕ, List, subst, arith}
use Rattle.tacho_time.specs.declared.span.Span.{Span}
use Rattle.tacho_time.specs.Spans.{IsCanonicalOf}
use Rattle.tacho_line.specs.Line.{HoldsWithin}
use Rattle.tacho_sheet.specs.Amounts.{AreAmounts}
use Rattle.tacho_sheet.proofs.AmountLemmas.{slice_from, slice_amounts}
use Rattle.tacho_sheet.proofs.amounts.amounts_of_range.Goals as goal

pub amounts_of-requires : goal.amounts_of-requires
amounts_of-requires c =
    let spans : List Span = c.in_ok-spans.spans.items in
    let held : IsCanonicalOf (HoldsWithin c.args.line.now c.args.start c.args.past) spans = search rules in
    rw c.deref.ensures.value (slice_from c.args.line.now spans c.args.start c.args.past held c.requires)

pub returns : goal.returns
returns c =
    let spans : List Span = c.in_ok-spans.spans.items in
    let start : ℕ = c.args.start in
    let past : ℕ = c.args.past in
    let held : IsCanonicalOf (HoldsWithin c.args.line.now start past) spans = search rules in
    let early : start ≤ past = c.requires in
    let e : past ≡ start + (past - start) = omega arith in
    let counted : AreAmounts c.deref.result.now start (past - start) c.amounts_of.result = c.amounts_of.ensures in
    slice_amounts c.args.line.now spans start (past - start) c.amounts_of.result
    (subst (λ (n : ℕ). IsCanonicalOf (HoldsWithin c.args.line.now start n) spans) e held) (rw c.deref.ensures.value at counted)
