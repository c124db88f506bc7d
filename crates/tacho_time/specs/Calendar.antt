-- Trusted: The date of a day number, by years and months of the Gregorian calendar.
use Rattle.std.specs.Prelude.{◌≡◌, ℕ, zero, suc, ◌+◌, ◌-◌, nat_lt, pos, if◌then◌else◌}
use Rattle.jiff_core.specs.Calendar.{days_in_year, days_in_month, days_from_civil, IsCivilDate}

-- a date: its year, its month from 1 and its day from 1
pub record Civil : Type 0 where
  pub year : ℕ
  pub month : ℕ
  pub day : ℕ

-- the year that is n days after the first day of the year y, and the remaining days; at most f years are passed
unfoldable pub year_after : ℕ → ℕ → ℕ → ℕ × ℕ
year_after zero y n = (y, n)
year_after (suc f) y n = if nat_lt n (days_in_year (pos y)) then (y, n) else year_after f (y + 1) (n - days_in_year (pos y))

-- likewise for the months of a year
unfoldable pub month_after : ℕ → ℕ → ℕ → ℕ → ℕ × ℕ
month_after zero y m n = (m, n)
month_after (suc f) y m n = if nat_lt n (days_in_month (pos y) m) then (m, n) else month_after f y (m + 1) (n - days_in_month (pos y) m)

-- the date n days after 1 January 1970, up to the year 2100
unfoldable pub civil : ℕ → Civil
civil n =
    let y = year_after 131 1970 n in
    let m = month_after 12 y.0 1 y.1 in
    record { year = y.0; month = m.0; day = m.1 + 1 }

-- the calendar has this date, and its number is n
pub record HasNumber (c : Civil) (n : ℕ) : Type 0 where
  pub dated : IsCivilDate (pos c.year) c.month c.day
  pub number : days_from_civil (pos c.year) c.month c.day ≡ pos n
