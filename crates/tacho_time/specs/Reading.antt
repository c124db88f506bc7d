-- Trusted in part: What texts of days, minutes and months are read as: the value, if the text has the written form and is in range, or the
-- first fault.
use Rattle.std.specs.Prelude.{ℕ, ◌+◌, ◌-◌, ◌*◌, ◌/◌, ◌%◌, ◌&&◌, ◌==◌, ◌<◌, nat_lt, nat_le, Bool, List, [], ◌∷◌, length, take, drop, Option, None, Some, Result, Ok, Err, ℤ, pos, negsuc, if◌then◌else◌, slice_index}
use Rattle.std.specs.Char.{is_ascii_digit}
use Rattle.jiff_core.specs.Calendar.{days_from_civil, days_in_month}
use Rattle.tacho_time.specs.declared.read.DateParts.{DateParts}
use Rattle.tacho_time.specs.declared.fault.TimeFault.{TimeFault}
use Rattle.tacho_time.specs.declared.fault.TimeFault.TheVariants.{Shape, NoSuchDate, OutOfRange}
use Rattle.tacho_time.specs.Limits.{first_day, last_day}

-- the number that the digits so far (n) and these bytes spell; none if a byte isn't a digit
abbrev pub digits_from : ℕ → List ℕ → Option ℕ
digits_from n [] = Some n
digits_from n (c ∷ cs) = if is_ascii_digit c then digits_from (n * 10 + (c - 48)) cs else None

-- the number that a text of digits spells
abbrev pub digits_at : List ℕ → Option ℕ
digits_at text = digits_from 0 text

-- true if a year has this month
abbrev pub is_month : ℕ → Bool
is_month month = nat_le 1 month && nat_le month 12

-- true if the calendar has this date
abbrev pub is_date : ℕ → ℕ → ℕ → Bool
is_date year month day = is_month month && nat_le 1 day && nat_le day (days_in_month (pos year) month)

-- true if a day has this hour and minute
abbrev pub is_time : ℕ → ℕ → Bool
is_time hour minute = nat_lt hour 24 && nat_lt minute 60

-- the day, if it is from 2000-01-03 to 2099-12-31; else Z3
abbrev pub read_day : ℤ → Result ℕ TimeFault
read_day (pos n) = if nat_le first_day n && nat_le n last_day then Ok n else Err OutOfRange
read_day (negsuc n) = Err OutOfRange

-- the day of a date; Z2 if there is no such date, or Z3
abbrev pub day_of_date : ℕ → ℕ → ℕ → Result ℕ TimeFault
day_of_date year month day = if is_date year month day then read_day (days_from_civil (pos year) month day) else Err NoSuchDate

-- the parts of a date fit into four, two and two digits
pub record AreWritten (d : DateParts) : Type 0 where
  pub year : d.year < 10000
  pub month : d.month < 100
  pub day : d.day < 100

-- the parts of a date, if all three numbers are present; else Z1
abbrev pub date_parts : Option ℕ → Option ℕ → Option ℕ → Option DateParts
date_parts (Some year) (Some month) (Some day) = Some (record { year = year; month = month; day = day })
date_parts (Some year) (Some month) None = None
date_parts (Some year) None day = None
date_parts None month day = None

-- the parts of a date that is written in ten bytes `YYYY-MM-DD`
abbrev pub date_at : List ℕ → Option DateParts
date_at text =
    if (length text == 10) && (slice_index text 4 == 45) && (slice_index text 7 == 45)
    then date_parts (digits_at (take 4 text)) (digits_at (take 2 (drop 5 text))) (digits_at (drop 8 text))
    else None

-- the day of a date's parts; Z1 if there are none
abbrev pub day_of_parts : Option DateParts → Result ℕ TimeFault
day_of_parts None = Err Shape
day_of_parts (Some d) = day_of_date d.year d.month d.day

-- the day that a text is read as
abbrev pub day_at : List ℕ → Result ℕ TimeFault
day_at text = day_of_parts (date_at text)

-- the minute of a day at this time; a fault of the day is passed on
abbrev pub minute_of_day : Result ℕ TimeFault → ℕ → ℕ → Result ℕ TimeFault
minute_of_day (Ok day) hour minute = Ok (1440 * day + 60 * hour + minute)
minute_of_day (Err fault) hour minute = Err fault

-- the minute of a date and a time, or the first of Z1, Z2 and Z3
abbrev pub minute_of_parts : Option DateParts → Option ℕ → Option ℕ → Result ℕ TimeFault
minute_of_parts (Some d) (Some hour) (Some minute) =
    if is_date d.year d.month d.day && is_time hour minute then minute_of_day (day_of_date d.year d.month d.day) hour minute
    else Err NoSuchDate
minute_of_parts (Some d) (Some hour) None = Err Shape
minute_of_parts (Some d) None minute = Err Shape
minute_of_parts None hour minute = Err Shape

-- the minute that sixteen bytes `YYYY-MM-DD HH:MM` are read as
abbrev pub minute_at : List ℕ → Result ℕ TimeFault
minute_at text =
    if (length text == 16) && (slice_index text 10 == 32) && (slice_index text 13 == 58)
    then minute_of_parts (date_at (take 10 text)) (digits_at (take 2 (drop 11 text))) (digits_at (drop 14 text))
    else Err Shape

-- the number of a month: twelve times its year, and the number of months of that year before it
abbrev pub month_number : ℕ → ℕ → ℕ
month_number year month = 12 * year + (month - 1)

-- the month of a year and a month of that year, or the first of Z1, Z2 and Z3
abbrev pub month_of_parts : Option ℕ → Option ℕ → Result ℕ TimeFault
month_of_parts (Some year) (Some month) =
    if is_month month then (if nat_le 2000 year && nat_le year 2099 then Ok (month_number year month) else Err OutOfRange)
    else Err NoSuchDate
month_of_parts (Some year) None = Err Shape
month_of_parts None month = Err Shape

-- the month that seven bytes `YYYY-MM` are read as
abbrev pub month_at : List ℕ → Result ℕ TimeFault
month_at text =
    if (length text == 7) && (slice_index text 4 == 45)
    then month_of_parts (digits_at (take 4 text)) (digits_at (drop 5 text))
    else Err Shape

-- the first day of the month with a number
abbrev pub month_start : ℕ → ℤ
month_start number = days_from_civil (pos (number / 12)) (number % 12 + 1) 1
