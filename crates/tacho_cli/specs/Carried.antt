-- Trusted: What `tacho carry` prints.
use Rattle.std.specs.Prelude.{ℕ, List, ◌++◌, codes, decimal}
use Rattle.tacho_carry.specs.declared.archive.Carried.{Carried}

-- how many of the old archive's drivers the new one has
abbrev pub carried_line : Carried → List ℕ
carried_line done = codes "carried " ++ (decimal done.carried ++ (codes " of " ++ (decimal done.all ++ codes " drivers\n")))
