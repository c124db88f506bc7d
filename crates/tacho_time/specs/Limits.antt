-- Trusted: The range of days that are read, and the greatest numbers of a day, a minute and a week.
use Rattle.std.specs.Prelude.{ℕ}

-- 2000-01-03, a Monday: the first day that is read
abbrev pub first_day : ℕ
first_day = 10959

-- 2099-12-31: the last
abbrev pub last_day : ℕ
last_day = 47481

-- the greatest number of a day: 2100-02-08
abbrev pub greatest_day : ℕ
greatest_day = 47520

-- the greatest number of a minute: the first of that day
abbrev pub greatest_minute : ℕ
greatest_minute = 68428800

-- the greatest number of a week: the one that begins on 2100-02-08
abbrev pub greatest_week : ℕ
greatest_week = 6788
