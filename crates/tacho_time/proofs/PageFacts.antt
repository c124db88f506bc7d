-- Values that the documents print, by computation: texts of dates, and what texts are read as.
use Rattle.std.proofs.Common.{◌≡◌, codes, false, Ok, Err, refl, sym, arith}
use Rattle.tacho_time.specs.declared.fault.TimeFault.TheVariants.{Shape, NoSuchDate}
use Rattle.tacho_time.specs.declared.span.Activity.TheVariants.{Work}
use Rattle.tacho_time.specs.Calendar.{year_after, month_after, civil}
use Rattle.tacho_time.specs.Text.{day_text, minute_text, month_text, span_line}
use Rattle.tacho_time.proofs.ReadBackLemmas.{day_texts}
use Rattle.tacho_time.specs.Reading.{day_at, minute_at, month_at}

-- Monday, 4 March 2024, and its first minute
monday : day_text 19786 ≡ codes "2024-03-04"
unfolding civil year_after month_after
monday = refl

its_minute : minute_text 28491840 ≡ codes "2024-03-04 00:00"
unfolding civil year_after month_after
its_minute = refl

its_month : month_text 24290 ≡ codes "2024-03"
its_month = refl

-- the last minute that can be read
last_minute : minute_text 68374079 ≡ codes "2099-12-31 23:59"
unfolding civil year_after month_after
last_minute = refl

-- two hours of work alone
two_hours : span_line (record { start = 28492320; past = 28492440; mark = record { activity = Work; crew = false } }) ≡ codes "2024-03-04 08:00 2024-03-04 10:00 work single\n"
unfolding civil year_after month_after
two_hours = refl

-- a leap day is read from its text
leap_text : day_text 19782 ≡ codes "2024-02-29"
unfolding civil year_after month_after
leap_text = refl

leap_day : day_at (codes "2024-02-29") ≡ Ok 19782
leap_day = (day_texts (codes "2024-02-29") 19782).1 (omega arith, omega arith, sym leap_text)

-- a day that doesn't exist, and a text with another shape
no_such_day : day_at (codes "2023-02-29") ≡ Err NoSuchDate
no_such_day = refl

other_shape : day_at (codes "2024-3-04") ≡ Err Shape
other_shape = refl

-- an hour that doesn't exist
no_such_hour : minute_at (codes "2024-03-04 24:00") ≡ Err NoSuchDate
no_such_hour = refl

-- a month
march : month_at (codes "2024-03") ≡ Ok 24290
march = refl
