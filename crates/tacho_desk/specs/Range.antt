-- Trusted: The numbers of a range of entries, and the days of a period.
use Rattle.std.specs.Prelude.{ℕ, ◌+◌, ◌&&◌, nat_le, nat_lt, Bool}

-- the numbers of the first and the last entry
pub record Numbers : Type 0 where
  pub first : ℕ
  pub last : ℕ

-- the first day, and the day after the last
pub record Days : Type 0 where
  pub from : ℕ
  pub past : ℕ

-- a period has at least one day, and at most 366: 527,040 minutes
abbrev pub is_period : ℕ → ℕ → Bool
is_period from past = nat_lt from past && nat_le past (from + 366)
