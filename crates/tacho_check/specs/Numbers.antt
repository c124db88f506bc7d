-- Private to tacho_check: The numbers of all drivers.
use Rattle.std.specs.Prelude.{◌≡◌, ℤ, List, [], ◌∷◌, map, Option, None, Some, IsPermutation, IsSorted}
use Rattle.std.specs.Ordering.{int_cmp}
use Rattle.sqlite.specs.declared.types.Value.TheVariants.{Int}
use Rattle.sqlite.specs.Order.{Row, column}
use Rattle.tacho_tables.specs.Ask.{number_shown}

-- the number that a row shows
abbrev pub IsDriverNumber : Row → Option ℤ → Type 0
IsDriverNumber row None = ⊥
IsDriverNumber row (Some n) = column row 0 ≡ Int n

-- the row that shows a number
abbrev pub number_row : ℤ → Row
number_row n = Int n ∷ []

-- the numbers of these rows of `drivers`, the lowest first
pub record AreAllNumbers (rows : List Row) (numbers : List ℤ) : Type 0 where
  pub all : IsPermutation (map number_shown rows) (map number_row numbers)
  pub sorted : IsSorted int_cmp numbers
