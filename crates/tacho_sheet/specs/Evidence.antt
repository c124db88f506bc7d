-- Trusted: The lines of the evidence for a breach.
use Rattle.std.specs.Prelude.{ℕ, zero, suc, ◌+◌, ◌-◌, ◌/◌, ◌==◌, ◌&&◌, ◌||◌, nat_le, nat_lt, List, [], ◌++◌, codes, decimal, flat_map, if◌then◌else◌, min}
use Rattle.tacho_time.specs.Limits.{greatest_minute}
use Rattle.tacho_time.specs.Text.{day_text, minute_text}
use Rattle.tacho_law.specs.declared.run.Run.{Run}
use Rattle.tacho_law.specs.Limits.{minutes_of_day, minutes_of_week}
use Rattle.tacho_evidence.specs.declared.line.EvidenceLine.{EvidenceLine}
use Rattle.tacho_evidence.specs.declared.line.EvidenceLine.TheVariants.{Break, Rest, Drive, Day, Limit, DailyRest, Weekly, Reduced, Week, WeekDrive, Date, Extended, From, WeekAtRest, WeeklyIn, Owes, Main, Room}
use Rattle.tacho_evidence.specs.OfReport.{Shown}
use Rattle.tacho_sheet.specs.Reports.{amount_text, breach_line}

-- a minute, or `-` where there is none: the first rest run of all has no start, and the last one has no past
abbrev pub time_text : ℕ → List ℕ
time_text m = if nat_lt 0 m && nat_le m greatest_minute then minute_text m else codes "-"

-- the day of a minute
abbrev pub date_text : ℕ → List ℕ
date_text m = if nat_le m greatest_minute then day_text (m / minutes_of_day) else codes "-"

-- a length in hours and minutes, which has a sign if it is below zero: `has` less `lacks`
abbrev pub signed_text : ℕ → ℕ → List ℕ
signed_text has lacks = if nat_le lacks has then amount_text (has - lacks) else codes "-" ++ amount_text (lacks - has)

-- a run's start, past and length; a run without a start or a past has no length
abbrev pub length_text : Run → List ℕ
length_text run = if (run.start == 0) || nat_lt greatest_minute run.past then codes "-" else amount_text (run.past - run.start)

abbrev pub run_text : Run → List ℕ
run_text run = time_text run.start ++ (codes " " ++ (time_text run.past ++ (codes " " ++ length_text run)))

-- n weeks by their Mondays, the first of which is a minute
abbrev pub mondays_text : ℕ → ℕ → List ℕ
mondays_text monday zero = []
mondays_text monday (suc n) = codes " " ++ (date_text monday ++ mondays_text (monday + minutes_of_week) n)

-- a line of evidence, without its margin
abbrev pub line_text : EvidenceLine → List ℕ
line_text (Break run) = codes "break " ++ run_text run
line_text (Rest run) = codes "rest " ++ run_text run
line_text (Drive span) = codes "drive " ++ (run_text span.run ++ (codes " " ++ amount_text span.total))
line_text (Day start past) = codes "day " ++ (time_text start ++ (codes " " ++ time_text past))
line_text (Limit minute) = codes "limit " ++ time_text minute
line_text (DailyRest rest limit) = codes "rest " ++ (run_text rest ++ (codes " portion " ++ signed_text (min rest.past limit) rest.start))
line_text (Weekly run) = codes "weekly " ++ run_text run
line_text (Reduced ordinal rest day) =
    codes "reduced " ++ (decimal ordinal ++ (codes " " ++ (run_text rest ++ (codes " day " ++ (time_text day
    ++ (codes " portion " ++ signed_text (min rest.past (day + minutes_of_day)) rest.start))))))
line_text (Week week) = codes "week " ++ date_text week
line_text (WeekDrive week drive) = codes "week " ++ (date_text week ++ (codes " drive " ++ amount_text drive))
line_text (Date date drive total) =
    codes "date " ++ (date_text date ++ (codes " drive " ++ (amount_text drive ++ (codes " " ++ amount_text total))))
line_text (Extended ordinal start past drive) =
    codes "day " ++ (decimal ordinal ++ (codes " " ++ (time_text start ++ (codes " " ++ (time_text past
    ++ (codes " drive " ++ amount_text drive))))))
line_text (From week) = codes "from " ++ date_text week
line_text (WeekAtRest week) = codes "week " ++ (date_text week ++ codes " at rest")
line_text (WeeklyIn rest first last) =
    codes "weekly " ++ (run_text rest ++ (codes " in" ++ mondays_text first ((last - first) / minutes_of_week + 1)))
line_text (Owes week amount deadline) =
    codes "owes " ++ (date_text week ++ (codes " " ++ (amount_text amount ++ (codes " by " ++ time_text deadline))))
line_text (Main run) = codes "main " ++ run_text run
line_text (Room rest has keeps) = codes "rest " ++ (run_text rest ++ (codes " room " ++ signed_text has keeps))

-- a line of evidence, indented
abbrev pub evidence_line : EvidenceLine → List ℕ
evidence_line line = codes "  " ++ (line_text line ++ codes "\n")

-- the line of a breach, and the lines of its evidence
abbrev pub shown_text : Shown → List ℕ
shown_text s = breach_line s.breach ++ flat_map evidence_line s.lines
