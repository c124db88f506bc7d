-- A range has at most one breach of too much driving, and has one only if more is driven than allowed.
use Rattle.std.proofs.Common.{◌≡◌, ℕ, ◌+◌, ◌<◌, ◌≤◌, sym, ◌∙◌, arith}
use Rattle.tacho_law.specs.declared.breach.Breach.{Breach}
use Rattle.tacho_law.specs.declared.breach.Kind.{Kind}
use Rattle.tacho_law.specs.Line.{Line}
use Rattle.tacho_law.specs.Driving.{driving}
use Rattle.tacho_law.proofs.DrivingLemmas.{driving_minute_only, driving_reaches}
use Rattle.tacho_law.proofs.OrderLemmas.{same_breach}
use Rattle.tacho_law.specs.Breaches.{IsDrivingBreach}

-- a range has at most one breach of a kind
pub too_much_only : (line : Line) (kind : Kind) (limit from to : ℕ) (a b : Breach)
    → IsDrivingBreach line kind limit from to a → IsDrivingBreach line kind limit from to b → a ≡ b
too_much_only line kind limit from to a b p q = same_breach a b
    (p.kind_is ∙ sym q.kind_is)
    (driving_minute_only line from to (limit + 1) a.moment b.moment p.over.moment q.over.moment)
    (p.since ∙ sym q.since)
    (
    let e : a.amount + limit ≡ driving line from to = p.over.amount in
    let f : b.amount + limit ≡ driving line from to = q.over.amount in
    omega arith)

-- if no more is driven than allowed, there is none
pub too_little : (line : Line) (kind : Kind) (limit from to : ℕ) (breach : Breach)
    → driving line from to ≤ limit → IsDrivingBreach line kind limit from to breach → ⊥
too_little line kind limit from to breach few p =
    let m : limit + 1 ≤ driving line from to = driving_reaches line from to (limit + 1) breach.moment p.over.moment in
    omega arith

-- if there is such a breach, more is driven than allowed
pub too_much_reaches : (line : Line) (kind : Kind) (limit from to : ℕ) (breach : Breach)
    → IsDrivingBreach line kind limit from to breach → limit < driving line from to
too_much_reaches line kind limit from to breach p =
    let m : limit + 1 ≤ driving line from to = driving_reaches line from to (limit + 1) breach.moment p.over.moment in
    omega arith
