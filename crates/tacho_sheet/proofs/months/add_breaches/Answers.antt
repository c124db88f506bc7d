use Rattle.std.proofs.Common.{rules, ◌≡◌, ◌&&◌, nat_le, nat_lt, ◌++◌, ◌∷◌, [], ◌∙◌, ap, sym, get_or, ℕ, List, Bool, true, false}
use Rattle.tacho_law.specs.declared.breach.Breach.{Breach}
use Rattle.tacho_sheet.proofs.TextLemmas.{one_more_of, none_more_of}
use Rattle.tacho_sheet.proofs.months.add_breaches.Goals as goal
use Rattle.tacho_sheet.proofs.months.add_breaches.Goals.{then-is_within+in_ok-push, else-is_within}

pub loop-breach-preserved : goal.loop-breach-preserved
loop-breach-preserved c =
    let p : Breach → Bool = λ b. nat_le c.args.start b.moment && nat_lt b.moment c.args.past in
    let xs : List Breach = c.args.breaches.now in
    let i : ℕ = c.loop-breach.breach-index in
    let b : Breach = c.breach-item.result in
    let item : b ≡ get_or xs i b = c.breach-item.is in
    let tested : p (get_or xs i b) ≡ c.is_within.result = ap p (sym item) ∙ sym c.is_within.ensures in
    let old : List Breach = c.loop-breach.found.items in
    let new : List Breach = c.if-is_within.found.items in
    elim c.if-is_within.branch [
      | then-is_within+in_ok-push w ↦
          let pushed : new ≡ old ++ b ∷ [] = search rules in
          let kept : c.is_within.result ≡ true = search rules in
          one_more_of p xs i b c.args.found.now.items old new c.loop-breach-test.true (tested ∙ kept) c.loop-breach.invariant
          (pushed ∙ ap (λ (x : Breach). old ++ x ∷ []) item)
      | else-is_within w ↦
          let same : new ≡ old = search rules in
          let left : c.is_within.result ≡ false = search rules in
          none_more_of p xs i b c.args.found.now.items old new c.loop-breach-test.true (tested ∙ left) c.loop-breach.invariant same
    ]
