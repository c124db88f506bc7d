use Rattle.std.proofs.Common.{◌≡◌, ◌+◌, ◌↔◌, drop, map}
use Rattle.tacho_check.specs.Parsed.{GoOn}
use Rattle.tacho_check.proofs.parsing.are_counted.Given as goal

-- all numbers go on from 1 if the remaining ones go on from the next
abbrev pub invariant-loop-row : goal.invariant-loop-row
invariant-loop-row g l =
    let number_of = g.T.Numbered.number_of in
    (l.number ≡ l.row-index) × (GoOn 1 (map number_of l.rows) ↔ GoOn (l.number + 1) (map number_of (drop l.row-index l.rows)))
