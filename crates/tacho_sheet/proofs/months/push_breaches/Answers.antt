use Rattle.std.proofs.Common.{rules, ◌≡◌, ◌&&◌, nat_le, nat_lt, ◌++◌, ◌∙◌, ap, sym, get_or, string_bytes, ℕ, List, Bool, true, false}
use Rattle.tacho_law.specs.declared.breach.Breach.{Breach}
use Rattle.tacho_sheet.specs.Months.{incident_row}
use Rattle.tacho_sheet.proofs.TextLemmas.{one_more_kept, none_more_kept}
use Rattle.tacho_sheet.proofs.months.push_breaches.Goals as goal
use Rattle.tacho_sheet.proofs.months.push_breaches.Goals.{then-is_within+in_ok-push_incident, else-is_within}

pub loop-breach-preserved : goal.loop-breach-preserved
loop-breach-preserved c =
    let row : Breach → List ℕ = incident_row c.args.number c.args.name.now in
    let p : Breach → Bool = λ b. nat_le c.args.start b.moment && nat_lt b.moment c.args.past in
    let xs : List Breach = c.args.breaches.now in
    let i : ℕ = c.loop-breach.breach-index in
    let b : Breach = c.breach-item.result in
    let item : b ≡ get_or xs i b = c.breach-item.is in
    let tested : p (get_or xs i b) ≡ c.is_within.result = ap p (sym item) ∙ sym c.is_within.ensures in
    let old : List ℕ = string_bytes c.loop-breach.text in
    let new : List ℕ = string_bytes c.if-is_within.text in
    elim c.if-is_within.branch [
      | then-is_within+in_ok-push_incident w ↦
          let pushed : new ≡ old ++ row b = search rules in
          let kept : c.is_within.result ≡ true = search rules in
          one_more_kept row p xs i b (string_bytes c.args.text.now) old new c.loop-breach-test.true (tested ∙ kept) c.loop-breach.invariant
          (pushed ∙ ap (λ (x : Breach). old ++ row x) item)
      | else-is_within w ↦
          let same : new ≡ old = search rules in
          let left : c.is_within.result ≡ false = search rules in
          none_more_kept row p xs i b (string_bytes c.args.text.now) old new c.loop-breach-test.true (tested ∙ left)
          c.loop-breach.invariant same
    ]
