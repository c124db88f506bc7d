-- Trusted: The numbers of Regulation (EC) No 561/2006 (8(6) and 8(6b) as amended by (EU) 2020/1054), each with its Article, in minutes
-- unless another unit is named.
use Rattle.std.specs.Prelude.{ℕ}

-- Article 7: a break of 45 minutes; or a first part of 15, and then one of 30
abbrev pub whole_break : ℕ
whole_break = 45

abbrev pub first_part_of_break : ℕ
first_part_of_break = 15

abbrev pub last_part_of_break : ℕ
last_part_of_break = 30

-- Article 7: four and a half hours of driving
abbrev pub driving_before_break : ℕ
driving_before_break = 270

-- Article 8(2): 24 hours
abbrev pub minutes_of_day : ℕ
minutes_of_day = 1440

-- Article 4(g): a regular daily rest of eleven hours; or a first part of three, and then one of nine, which is also the length of a reduced
-- daily rest
abbrev pub regular_daily_rest : ℕ
regular_daily_rest = 660

abbrev pub first_part_of_daily_rest : ℕ
first_part_of_daily_rest = 180

abbrev pub daily_rest : ℕ
daily_rest = 540

-- Article 8(4): three reduced daily rests between two weekly ones
abbrev pub reduced_daily_rests : ℕ
reduced_daily_rests = 3

-- Article 6(1): nine hours of driving in a day; ten on two days of a week
abbrev pub driving_in_day : ℕ
driving_in_day = 540

abbrev pub driving_in_extended_day : ℕ
driving_in_extended_day = 600

abbrev pub extended_days : ℕ
extended_days = 2

-- Article 6(2): 56 hours of driving in a week
abbrev pub driving_in_week : ℕ
driving_in_week = 3360

-- Article 6(3): 90 hours in two neighbouring weeks
abbrev pub driving_in_two_weeks : ℕ
driving_in_two_weeks = 5400

-- Article 4(h): a weekly rest of 24 hours, and a regular one of 45
abbrev pub weekly_rest : ℕ
weekly_rest = 1440

abbrev pub regular_weekly_rest : ℕ
regular_weekly_rest = 2700

-- Article 8(6): six days
abbrev pub six_days : ℕ
six_days = 8640

-- Article 8(6b): before the end of the third week following the week, which is the first minute of the fourth
abbrev pub weeks_to_pay : ℕ
weeks_to_pay = 4

-- Article 4(i): a week's minutes, and the first minute of week 0, that of Monday 1970-01-05
abbrev pub minutes_of_week : ℕ
minutes_of_week = 10080

abbrev pub first_week : ℕ
first_week = 5760

-- The examined range is from 2000-01-03 00:00 to 2100-01-01 00:00; no Article prescribes this.
abbrev pub first_base : ℕ
first_base = 15780960

abbrev pub latest : ℕ
latest = 68374080
