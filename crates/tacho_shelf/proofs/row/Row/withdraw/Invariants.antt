use Rattle.std.proofs.Common.{ℕ, ◌<◌, ◌≤◌}
use Rattle.tacho_shelf.specs.Shelf.{IsEntered}
use Rattle.tacho_shelf.proofs.RangeLemmas.{HasMarked}
use Rattle.tacho_shelf.proofs.row.Row.withdraw.Given as goal

-- the entries up to this number can be withdrawn
abbrev pub invariant-loop-number : goal.invariant-loop-number
invariant-loop-number l = (i : ℕ) → i < l.number → l.first ≤ i → IsEntered l.self.entries i

-- those before this number are withdrawn, and the others can be
abbrev pub invariant-loop-number-2 : goal.invariant-loop-number-2
invariant-loop-number-2 l = HasMarked l.first l.number l.last l.initial.self l.self
