-- Trusted: Where the examination of a timeline can begin again, and where what is held ends.
use Rattle.std.specs.Prelude.{◌≡◌, ℕ, ◌+◌, ◌<◌, ◌≤◌, ◌⊎◌, List, Option, None, Some}
use Rattle.tacho_time.specs.declared.span.Mark.{Mark}
use Rattle.tacho_time.specs.declared.span.Span.{Span}
use Rattle.tacho_line.specs.Line.{mark_at, Holds, IsSingle}
use Rattle.tacho_law.specs.Line.{IsBase}

-- the first minute of a Monday, after a minute, that is held without a second driver
pub record IsStart (line : List Span) (after m : ℕ) : Type 0 where
  pub later : after < m
  pub monday : IsBase m
  pub single : IsSingle (mark_at line m)

-- the earliest such minute, or none if there is none
abbrev pub IsNextStart : List Span → ℕ → Option ℕ → Type 0
IsNextStart line after None = (m : ℕ) → ¬ (IsStart line after m)
IsNextStart line after (Some monday) = IsStart line after monday × ((m : ℕ) → IsStart line after m → monday ≤ m)

-- the line holds the minute, with some mark
abbrev pub IsHeld : List Span → ℕ → Type 0
IsHeld line m = (mark : Mark) × Holds line m mark

-- no minute from `end` on is held. The minute before `end` is held; or `end` is the base.
pub record IsEndOfHeld (line : List Span) (base end : ℕ) : Type 0 where
  pub from : base ≤ end
  pub after : (m : ℕ) → end ≤ m → ¬ (IsHeld line m)
  pub last : (end ≡ base) ⊎ ((m : ℕ) × (end ≡ m + 1) × IsHeld line m)
