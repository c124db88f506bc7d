use Rattle.std.proofs.Common.{◌≡◌, ◌++◌, drop}
use Rattle.tacho_check.specs.Hours.{entered_hours}
use Rattle.tacho_check.proofs.hours.enter.Given as goal

-- the spans so far, followed by those of the remaining rows, are the first ones, followed by those of all rows
abbrev pub invariant-loop-row : goal.invariant-loop-row
invariant-loop-row l = l.given.items ++ entered_hours (drop l.row-index l.rows) ≡ l.fn.given.items ++ entered_hours l.rows
