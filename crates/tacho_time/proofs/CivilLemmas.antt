-- The date of a day number.
use Rattle.std.proofs.Common.{◌≡◌, ℕ, zero, suc, ◌+◌, ◌-◌, ◌*◌, ◌<◌, ◌≤◌, ◌%◌, nat_lt, Bool, true, false, cond, ℤ, pos, ◌+ℤ◌, unsigned_abs, w16, to_z, of_z, FitsSigned, refl, sym, ap, ◌∙◌, subst, arith}
use Rattle.std.proofs.lemmas.Bool.Decides.{nat_tests}
use Rattle.std.proofs.lemmas.Int.{to_z-of_z}
use Rattle.jiff.proofs.SpanFacts.{signed_arith}
use Rattle.jiff_core.specs.Calendar.{days_in_year, days_in_month, days_of_months, day_count, days_from_civil, weekday_number, IsCivilDate}
use Rattle.jiff_core.specs.declared.civil.date.Date.{Date}
use Rattle.jiff_core.specs.declared.civil.weekday.Weekday.{Weekday}
use Rattle.jiff_core.specs.Date.{epoch_day, weekday_of}
use Rattle.jiff_core.specs.Weekday.{monday_zero}
use Rattle.jiff_core.proofs.CalendarLemmas.{day_count-epoch, days_from_civil-day_count, days_in_year_bounds, days_of_months-zero, days_of_months_more, days_of_months_all, day_count-day_of_year, day_count-next_year, weekday_number-parts}
use Rattle.jiff_core.proofs.DateLemmas.{epoch_day_injective}
use Rattle.tacho_time.specs.Calendar.{year_after, month_after, Civil, civil, HasNumber}

-- a year and a day in it, reached from the year y and n days, with the same day count
record YearOf (f y n : ℕ) (r : ℕ × ℕ) : Type 0 where
  same : day_count (pos y) 1 1 + n ≡ day_count (pos r.0) 1 1 + r.1
  within : r.1 < days_in_year (pos r.0)
  from : y ≤ r.0
  to : r.0 ≤ y + f

next_year : (y : ℕ) → day_count (pos (y + 1)) 1 1 ≡ day_count (pos y) 1 1 + days_in_year (pos y)
next_year y = day_count-next_year (pos y) (pos (y + 1)) (omega (arith, signed_arith)) (omega (arith, signed_arith))

year_is : (f y n : ℕ) → n < 365 * f → YearOf f y n (year_after f y n)
unfolding year_after
year_is zero y n h = absurd (omega (arith, h))
year_is (suc f) y n h = go (nat_lt n (days_in_year (pos y))) refl (year_is f (y + 1) (n - days_in_year (pos y))) where
  len : 365 ≤ days_in_year (pos y)
  len = (days_in_year_bounds (pos y)).1

  go : (b : Bool) → nat_lt n (days_in_year (pos y)) ≡ b → (n - days_in_year (pos y) < 365 * f → YearOf f (y + 1) (n - days_in_year (pos y)) (year_after f (y + 1) (n - days_in_year (pos y)))) → YearOf (suc f) y n (cond b (y, n) (year_after f (y + 1) (n - days_in_year (pos y))))
  go true e more = record { same = refl; within = grind (arith, nat_tests); from = omega arith; to = omega arith }
  go false e more =
      let past : days_in_year (pos y) ≤ n = grind (arith, nat_tests) in
      let r = more (omega (arith, len, past, h)) in
      let next = next_year y in
      record { same = omega (arith, r.same, next, past); within = r.within; from = omega (arith, r.from); to = omega (arith, r.to) }

record MonthOf (y m n : ℕ) (r : ℕ × ℕ) : Type 0 where
  same : days_of_months (pos y) (m - 1) + n ≡ days_of_months (pos y) (r.0 - 1) + r.1
  within : r.1 < days_in_month (pos y) r.0
  from : 1 ≤ r.0
  to : r.0 ≤ 12

month_is : (f y m n : ℕ) → 1 ≤ m → m + f ≡ 13 → days_of_months (pos y) (m - 1) + n < days_of_months (pos y) 12 → MonthOf y m n (month_after f y m n)
unfolding month_after
month_is zero y m n l e h =
    let twelve : m - 1 ≡ 12 = omega (arith, e) in
    let h' = subst (λ (k : ℕ). days_of_months (pos y) k + n < days_of_months (pos y) 12) twelve h in
    absurd (omega (arith, h'))
month_is (suc f) y m n l e h = go (nat_lt n (days_in_month (pos y) m)) refl (month_is f y (m + 1) (n - days_in_month (pos y) m)) where
  more_days : days_of_months (pos y) m ≡ days_of_months (pos y) (m - 1) + days_in_month (pos y) m
  more_days = days_of_months_more (pos y) m l

  shifted : days_of_months (pos y) ((m + 1) - 1) ≡ days_of_months (pos y) m
  shifted = ap (days_of_months (pos y)) (omega arith)

  go : (b : Bool) → nat_lt n (days_in_month (pos y) m) ≡ b → (1 ≤ m + 1 → (m + 1) + f ≡ 13 → days_of_months (pos y) ((m + 1) - 1) + (n - days_in_month (pos y) m) < days_of_months (pos y) 12 → MonthOf y (m + 1) (n - days_in_month (pos y) m) (month_after f y (m + 1) (n - days_in_month (pos y) m))) → MonthOf y m n (cond b (m, n) (month_after f y (m + 1) (n - days_in_month (pos y) m)))
  go true t more = record { same = refl; within = grind (arith, nat_tests); from = l; to = omega (arith, e) }
  go false t more =
      let past : days_in_month (pos y) m ≤ n = grind (arith, nat_tests) in
      let days = more_days in
      let same = shifted in
      let r = more (omega arith) (omega (arith, e)) (omega (arith, h, past, days, same)) in
      record { same = omega (arith, r.same, days, same, past); within = r.within; from = r.from; to = r.to }

date_is : (n : ℕ) (r q : ℕ × ℕ) → YearOf 131 1970 n r → MonthOf r.0 1 r.1 q → IsCivilDate (pos r.0) q.0 (q.1 + 1) × (days_from_civil (pos r.0) q.0 (q.1 + 1) ≡ pos n)
date_is n r q y m =
    let first = days_of_months-zero (pos r.0) in
    let same : days_of_months (pos r.0) (1 - 1) ≡ days_of_months (pos r.0) 0 = ap (days_of_months (pos r.0)) (omega arith) in
    let count = day_count-day_of_year (pos r.0) q.0 (q.1 + 1) (omega arith) in
    let epoch = day_count-epoch in
    let total : day_count (pos r.0) q.0 (q.1 + 1) ≡ n + 4371953 = omega (arith, y.same, m.same, first, same, count, epoch) in
    let number = days_from_civil-day_count (pos r.0) q.0 (q.1 + 1) in
    (((omega (arith, signed_arith), omega (arith, signed_arith, y.to)), (m.from, m.to), (omega arith, omega (arith, m.within))), omega (arith, signed_arith, number, total))

-- `civil n` is a date of the calendar, and its number is n
civil_date : (n : ℕ) → n ≤ 47520 → IsCivilDate (pos (civil n).year) (civil n).month (civil n).day × (days_from_civil (pos (civil n).year) (civil n).month (civil n).day ≡ pos n)
unfolding civil
civil_date n h =
    let y = year_is 131 1970 n (omega (arith, h)) in
    let r = year_after 131 1970 n in
    let first = days_of_months-zero (pos r.0) in
    let same : days_of_months (pos r.0) (1 - 1) ≡ days_of_months (pos r.0) 0 = ap (days_of_months (pos r.0)) (omega arith) in
    let all = days_of_months_all (pos r.0) in
    let m = month_is 12 r.0 1 r.1 (omega arith) refl (omega (arith, first, same, all, y.within)) in
    date_is n r (month_after 12 r.0 1 r.1) y m

pub civil_number : (n : ℕ) → n ≤ 47520 → HasNumber (civil n) n
civil_number n h = let c = civil_date n h in record { dated = c.0; number = c.1 }

-- a date of jiff has these parts
pub record IsCivil (d : Date) (c : Civil) : Type 0 where
  pub year : unsigned_abs (to_z w16 (of_z w16 d.year)) ≡ c.year
  pub month : d.month ≡ c.month
  pub day : d.day ≡ c.day

pub civil_parts : (n : ℕ) (d : Date) → n ≤ 47520 → epoch_day d ≡ pos n → IsCivil d (civil n)
civil_parts n d h e =
    let c = civil_date n h in
    let own : Date = record { year = pos (civil n).year; month = (civil n).month; day = (civil n).day; year_in = c.0.0; month_in = c.0.1; day_in = c.0.2 } in
    let parts = epoch_day_injective d own (e ∙ sym c.1) in
    let year = d.year_in in
    let fits : FitsSigned w16 d.year = omega (arith, signed_arith) in
    record { year = ap unsigned_abs (to_z-of_z w16 d.year fits ∙ parts.0); month = parts.1; day = parts.2 }

-- a day count since the calendar's first day, as a day number
pub since_first : (n : ℕ) (z : ℤ) → z +ℤ pos 4371587 ≡ pos (n + 4371587) → z ≡ pos n
since_first n z h = omega (arith, signed_arith)

-- the weekday computed from a day number is that of the date with this number
pub weekday_of_date : (date : Date) (n : ℕ) (given : Weekday) → epoch_day date ≡ pos n → monday_zero given ≡ (n + 3) % 7
    → monday_zero given ≡ weekday_of date
weekday_of_date date n given number is =
    let parts : weekday_number (pos n) ≡ (n + 3) % 7 = omega (arith, signed_arith, weekday_number-parts (pos n)) in
    is ∙ (sym parts ∙ ap weekday_number (sym number))
