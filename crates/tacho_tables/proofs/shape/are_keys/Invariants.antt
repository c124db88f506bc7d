use Rattle.std.proofs.Common.{◌≡◌, ◌↔◌, ℕ, List, map, length}
use Rattle.std.specs.Borrow.{Bor}
use Rattle.tacho_tables.proofs.shape.are_keys.Given as goal

abbrev pub invariant-loop-keys : goal.invariant-loop-keys
invariant-loop-keys l = (l.fn.keys ≡ map (λ (places : Bor (List ℕ)). places.now) l.fn.wanted) ↔ (l.keys ≡ map (λ (places : Bor (List ℕ)). places.now) l.wanted)

abbrev pub decreases-loop-keys : goal.decreases-loop-keys
decreases-loop-keys l = length l.keys
