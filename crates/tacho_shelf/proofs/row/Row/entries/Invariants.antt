use Rattle.std.proofs.Common.{◌≡◌, ◌+◌, ◌≤◌, ◌++◌, drop, length}
use Rattle.tacho_state.specs.Steps.{numbered_from}
use Rattle.tacho_shelf.proofs.row.Row.entries.Given as goal

-- the entries listed so far, followed by those of the remaining hours; and the number of the next entry
abbrev pub invariant-loop-hours : goal.invariant-loop-hours
invariant-loop-hours l =
    (l.entries.items ++ numbered_from l.number (drop l.hours-index l.hours-items) ≡ numbered_from 1 l.self.entries)
    × (l.number ≡ l.hours-index + 1) × (length l.hours-items ≤ 1000000)
