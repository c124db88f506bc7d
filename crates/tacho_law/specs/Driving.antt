-- Trusted: Driving time (Regulation (EC) No 561/2006, Articles 4(j) and 4(l)), counted in minutes.
use Rattle.std.specs.Prelude.{◌≡◌, ℕ, ◌+◌, ◌<◌, ◌≤◌, ◌&&◌, Bool, true, false, nat_le, if◌then◌else◌}
use Rattle.std.proofs.Common.{zero, suc}
use Rattle.tacho_time.specs.declared.span.Activity.{Activity}
use Rattle.tacho_time.specs.declared.span.Activity.TheVariants.{Rest, Available, Work, Drive}
use Rattle.tacho_law.specs.Line.{Line}

-- true for driving; other work, availability and rest aren't driving
abbrev pub is_drive : Activity → Bool
is_drive Drive = true
is_drive Rest = false
is_drive Available = false
is_drive Work = false

-- the number of driving minutes in a range
unfoldable pub driving : Line → ℕ → ℕ → ℕ
driving line from zero = 0
driving line from (suc m) = driving line from m + (if nat_le from m && is_drive (line m) then 1 else 0)

-- m is the k-th driving minute of a range, counted from 1
pub record IsDrivingMinute (line : Line) (from to k m : ℕ) : Type 0 where
  pub above : from ≤ m
  pub below : m < to
  pub drives : line m ≡ Drive
  pub earlier : driving line from m + 1 ≡ k

-- more driving than the limit in a range: m is the first driving minute above the limit, and n is the number of minutes above it
pub record IsDrivingAbove (line : Line) (limit from to m n : ℕ) : Type 0 where
  pub moment : IsDrivingMinute line from to (limit + 1) m
  pub amount : n + limit ≡ driving line from to
