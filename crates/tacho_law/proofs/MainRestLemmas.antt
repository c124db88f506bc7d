-- Each minute is in one week, so a rest is the main rest of at most one week.
use Rattle.std.proofs.Common.{◌≡◌, ℕ, arith}
use Rattle.tacho_law.specs.Weeks.{IsInWeek}

-- a minute is in only one week
pub one_week : (w v m : ℕ) → IsInWeek w m → IsInWeek v m → w ≡ v
one_week w v m (low, high) (low', high') = omega arith
