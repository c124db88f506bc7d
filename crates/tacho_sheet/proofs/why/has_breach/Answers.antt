use Rattle.std.proofs.Common.{◌≡◌, ◌∙◌, ◌&&◌, nat_le, nat_lt, ap, get_or, sym, Bool, true, List, ℕ}
use Rattle.tacho_law.specs.declared.breach.Breach.{Breach}
use Rattle.tacho_sheet.proofs.WhyLemmas.{some_kept}
use Rattle.tacho_sheet.proofs.why.has_breach.Goals as goal

pub returns-then-is_within-clause-some : goal.returns-then-is_within-clause-some
returns-then-is_within-clause-some c =
    let p : Breach → Bool = λ b. nat_le c.args.start b.moment && nat_lt b.moment c.args.past in
    let xs : List Breach = c.args.breaches.now in
    let i : ℕ = c.loop-breach.breach-index in
    let b : Breach = c.breach-item.result in
    let item : b ≡ get_or xs i b = c.breach-item.is in
    let kept : p (get_or xs i b) ≡ true = ap p (sym item) ∙ sym c.is_within.ensures ∙ c.if-is_within.true in
    λ _ none. some_kept p xs i b c.loop-breach-test.true kept none
