use Rattle.std.proofs.Common.{◌≡◌, List, map, drop, ◌++◌}
use Rattle.tacho_tables.proofs.rows.made.Given as goal

-- what is made of the rest of the rows, after what was made already, is what is made of all
abbrev pub invariant-loop-row : goal.invariant-loop-row
invariant-loop-row g l =
    (shown : List g.T.FromRow.Shown) → l.rows ≡ map g.T.FromRow.columns shown
    → (rest : List g.T.FromRow.Shown) × (drop l.row-index l.rows ≡ map g.T.FromRow.columns rest)
    × (map g.T.FromRow.told l.found.items ++ map g.T.FromRow.meant rest ≡ map g.T.FromRow.meant shown)
