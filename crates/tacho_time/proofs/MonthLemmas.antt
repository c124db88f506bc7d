-- The first days of months.
use Rattle.std.proofs.Common.{◌≡◌, ℕ, ◌+◌, ◌/◌, ◌%◌, ◌<◌, ◌≤◌, ◌⊎◌, inl, inr, refl, sym, ap, ◌∙◌, arith, ℤ, pos, ◌≤ℤ◌, negsuc, unsigned_abs, w16, w32, to_z, of_z, FitsSigned}
use Rattle.std.proofs.lemmas.Bool.{cases_order}
use Rattle.std.proofs.lemmas.Int.{to_z_pos, to_z-of_z}
use Rattle.jiff_core.specs.Calendar.{day_count, days_from_civil, IsCivilDate}
use Rattle.jiff_core.proofs.SignedLemmas.{signed_arith}
use Rattle.jiff_core.proofs.MarchLemmas.{day_count-early}
use Rattle.jiff_core.proofs.CalendarLemmas.{days_from_civil-day_count, days_in_month_bounds, day_count-lt_year, day_count-lt_month}
use Rattle.tacho_time.specs.Reading.{month_start}

-- the calendar's day count of the first day of a month
abbrev month_count : ℕ → ℕ
month_count n = day_count (pos (n / 12)) (n % 12 + 1) 1

-- the calendar has the first day of each month
first_is_date : (n : ℕ) → n ≤ 25200 → IsCivilDate (pos (n / 12)) (n % 12 + 1) 1
first_is_date n h =
    let days = days_in_month_bounds (pos (n / 12)) (n % 12 + 1) in
    ((omega (arith, signed_arith), omega (arith, signed_arith)), (omega arith, omega arith), (omega arith, omega (arith, days)))

-- a later month begins on a later day
month_rises : (a b : ℕ) → a < b → b ≤ 25200 → month_count a < month_count b
month_rises a b lt high =
    let date = first_is_date a (omega arith) in
    elim (cases_order (a / 12) (b / 12)) [
      | inr (inl years) ↦ day_count-lt_year (pos (a / 12)) (a % 12 + 1) 1 (pos (b / 12)) (b % 12 + 1) 1 date (omega arith) (omega (arith, signed_arith))
      | inl year ↦ rw (← year) (day_count-lt_month (pos (a / 12)) (a % 12 + 1) 1 (b % 12 + 1) 1 date (omega arith) (omega arith))
      | inr (inr gt) ↦ absurd (omega arith)
    ]

-- the day count of 2000-01-01
first_count : month_count 24000 ≡ 4382910
first_count = day_count-early (pos 2000) 11999 1 1 refl (omega arith) (omega arith) (omega arith)

-- the day count of 2100-01-01
last_count : month_count 25200 ≡ 4419435
last_count = day_count-early (pos 2100) 12099 1 1 refl (omega arith) (omega arith) (omega arith)

-- months from 2000-01 to 2100-01 begin between these two days
count_bounds : (n : ℕ) → 24000 ≤ n → n ≤ 25200 → (4382910 ≤ month_count n) × (month_count n ≤ 4419435)
count_bounds n low high = (from (cases_order 24000 n), to (cases_order n 25200)) where
  from : (24000 ≡ n) ⊎ ((24000 < n) ⊎ (n < 24000)) → 4382910 ≤ month_count n
  from (inl e) = rw (← e) (omega (arith, first_count))
  from (inr (inl lt)) = let rise = month_rises 24000 n lt high in omega (arith, first_count)
  from (inr (inr gt)) = absurd (omega arith)

  to : (n ≡ 25200) ⊎ ((n < 25200) ⊎ (25200 < n)) → month_count n ≤ 4419435
  to (inl e) = rw e (omega (arith, last_count))
  to (inr (inl lt)) = let rise = month_rises n 25200 lt (omega arith) in omega (arith, last_count)
  to (inr (inr gt)) = absurd (omega arith)

-- an integer from 0 to k as a natural number
natural : (z : ℤ) (k : ℕ) → pos 0 ≤ℤ z → z ≤ℤ pos k → (z ≡ pos (unsigned_abs z)) × (unsigned_abs z ≤ k)
natural (pos n) k low high = (refl, omega (arith, signed_arith))
natural (negsuc n) k low high = absurd (omega (arith, signed_arith))

-- `z` is the first day of the month n, and fits the type that the code computes it in
pub record IsFirst (n : ℕ) (z : ℤ) : Type 0 where
  pub start : month_start n ≡ pos (unsigned_abs z)
  pub cast : to_z w32 (of_z w32 z) ≡ pos (unsigned_abs z)
  pub within : unsigned_abs z ≤ 47482

-- the day that the code computes is the first day of the month
pub is_first : (n : ℕ) (z : ℤ) → 24000 ≤ n → n ≤ 25200 → z ≡ days_from_civil (to_z w16 (n / 12)) (n % 12 + 1) 1 → IsFirst n z
is_first n z low high e =
    let year : to_z w16 (n / 12) ≡ pos (n / 12) = to_z_pos w16 (n / 12) (omega arith) in
    let is : z ≡ month_start n = e ∙ ap (λ (y : ℤ). days_from_civil y (n % 12 + 1) 1) year in
    let count = days_from_civil-day_count (pos (n / 12)) (n % 12 + 1) 1 in
    let bounds = count_bounds n low high in
    let number = natural z 47482 (omega (arith, signed_arith)) (omega (arith, signed_arith)) in
    let fits : FitsSigned w32 z = omega (arith, signed_arith) in
    record { start = sym is ∙ number.0; cast = to_z-of_z w32 z fits ∙ number.0; within = number.1 }

-- a later month starts on a later day
pub starts_rise : (a b m n : ℕ) → a < b → b ≤ 25200 → pos m ≡ month_start a → pos n ≡ month_start b → m < n
starts_rise a b m n lt high first next =
    let here = days_from_civil-day_count (pos (a / 12)) (a % 12 + 1) 1 in
    let there = days_from_civil-day_count (pos (b / 12)) (b % 12 + 1) 1 in
    let rise = month_rises a b lt high in
    omega (arith, signed_arith)
