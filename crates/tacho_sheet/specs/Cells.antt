-- Trusted: Rows of CSV with cells that may be empty.
use Rattle.std.specs.Prelude.{ℕ, nat_lt, List, [], ◌++◌, Option, None, Some, codes, flat_map, if◌then◌else◌}
use Rattle.tacho_time.specs.Text.{minute_text}

-- cells, each after a comma
abbrev pub cells_text : List (List ℕ) → List ℕ
cells_text cells = flat_map (λ cell. codes "," ++ cell) cells

-- a row: its first cell, and the others
abbrev pub row_text : List ℕ → List (List ℕ) → List ℕ
row_text first others = first ++ (cells_text others ++ codes "\n")

-- a minute, or nothing
abbrev pub minute_cell : Option ℕ → List ℕ
minute_cell None = []
minute_cell (Some m) = minute_text m

-- the end of what is held, if anything is held from the base on
abbrev pub held_to : ℕ → ℕ → Option ℕ
held_to base end = if nat_lt base end then Some end else None
