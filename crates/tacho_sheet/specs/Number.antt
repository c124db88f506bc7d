-- Trusted: The texts of numbers: decimal, without leading zeros.
use Rattle.std.specs.Prelude.{◌≡◌, ℕ, ◌≤◌, List, decimal}

-- the text of a number from 1 to `most`
pub record IsNumberText (most : ℕ) (text : List ℕ) (n : ℕ) : Type 0 where
  pub written : text ≡ decimal n
  pub least : 1 ≤ n
  pub greatest : n ≤ most

-- the text is that of no such number
abbrev pub HasNoNumber : ℕ → List ℕ → Type 0
HasNoNumber most text = (n : ℕ) → ¬ (IsNumberText most text n)
