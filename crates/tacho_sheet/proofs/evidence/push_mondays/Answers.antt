use Rattle.std.proofs.Common.{◌∙◌, ◌+◌, ◌*◌, ◌++◌, ℕ, List, ap, codes, string_bytes, sym, append_assoc}
use Rattle.tacho_sheet.specs.Evidence.{date_text, mondays_text}
use Rattle.tacho_sheet.proofs.EvidenceLemmas.{mondays_more}
use Rattle.tacho_sheet.proofs.evidence.push_mondays.Goals as goal

pub loop-place-preserved : goal.loop-place-preserved
loop-place-preserved c =
    let place : ℕ = c.loop-place.place in
    let old : List ℕ = string_bytes c.args.text.now in
    let week : List ℕ = codes " " ++ date_text (c.args.first + 10080 * place) in
    c.in_ok-write.ensures.bytes
    ∙ ap (λ (t : List ℕ). t ++ week) c.loop-place.invariant
    ∙ append_assoc old (mondays_text c.args.first place) week
    ∙ ap (λ (t : List ℕ). old ++ t) (sym (mondays_more c.args.first place))
