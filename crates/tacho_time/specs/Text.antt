-- Trusted: The texts of days, minutes, months and spans, as bytes.
use Rattle.std.specs.Prelude.{ℕ, ◌+◌, ◌/◌, ◌%◌, Bool, true, false, List, [], ◌∷◌, ◌++◌, codes}
use Rattle.tacho_time.specs.declared.span.Activity.{Activity}
use Rattle.tacho_time.specs.declared.span.Activity.TheVariants.{Rest, Available, Work, Drive}
use Rattle.tacho_time.specs.declared.span.Span.{Span}
use Rattle.tacho_time.specs.Calendar.{civil}

-- a number below 100 in two digits
abbrev pub two_digits : ℕ → List ℕ
two_digits n = (48 + n / 10) ∷ (48 + n % 10) ∷ []

-- `YYYY-MM-DD`
abbrev pub day_text : ℕ → List ℕ
day_text n =
    two_digits ((civil n).year / 100) ++ two_digits ((civil n).year % 100) ++ codes "-"
    ++ two_digits (civil n).month ++ codes "-" ++ two_digits (civil n).day

-- `YYYY-MM-DD HH:MM`
abbrev pub minute_text : ℕ → List ℕ
minute_text n = day_text (n / 1440) ++ codes " " ++ two_digits (n % 1440 / 60) ++ codes ":" ++ two_digits (n % 60)

-- `YYYY-MM`, of a month by its number: twelve times its year, and the number of months of that year before it
abbrev pub month_text : ℕ → List ℕ
month_text n = two_digits (n / 12 / 100) ++ two_digits (n / 12 % 100) ++ codes "-" ++ two_digits (n % 12 + 1)

-- the name of an activity
abbrev pub activity_name : Activity → List ℕ
activity_name Rest = codes "rest"
activity_name Available = codes "available"
activity_name Work = codes "work"
activity_name Drive = codes "drive"

-- `crew` if there is a second driver, else `single`
abbrev pub manning_name : Bool → List ℕ
manning_name true = codes "crew"
manning_name false = codes "single"

-- start, past, activity and manning, with spaces between them, and a line feed
abbrev pub span_line : Span → List ℕ
span_line s =
    minute_text s.start ++ codes " " ++ minute_text s.past ++ codes " "
    ++ activity_name s.mark.activity ++ codes " " ++ manning_name s.mark.crew ++ codes "\n"
