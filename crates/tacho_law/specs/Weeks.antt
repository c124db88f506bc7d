-- Trusted: Weeks and weekly rests (Regulation (EC) No 561/2006, Articles 4(h) and 4(i)).
use Rattle.std.specs.Prelude.{◌≡◌, ℕ, ◌+◌, ◌*◌, ◌<◌, ◌≤◌}
use Rattle.tacho_time.specs.declared.span.Activity.TheVariants.{Rest}
use Rattle.tacho_law.specs.declared.run.Run.{Run}
use Rattle.tacho_law.specs.Line.{Line}
use Rattle.tacho_law.specs.Runs.{IsRestOf}
use Rattle.tacho_law.specs.Limits.{weekly_rest, minutes_of_week, first_week}

-- Article 4(i): the first minute of a week, on a Monday at 00:00; week 0 is that of 1970-01-05
abbrev pub week_start : ℕ → ℕ
week_start w = first_week + minutes_of_week * w

-- the minute is in the week: from the week's first minute to before that of the next week
abbrev pub IsInWeek : ℕ → ℕ → Type 0
IsInWeek w m = (week_start w ≤ m) × (m < week_start (w + 1))

-- the run has a minute in the week
abbrev pub Touches : Run → ℕ → Type 0
Touches run w = (run.start < week_start (w + 1)) × (week_start w < run.past)

-- each minute of a week is at rest
abbrev pub IsWhollyAtRest : Line → ℕ → Type 0
IsWhollyAtRest line w = (m : ℕ) → IsInWeek w m → line m ≡ Rest

-- Article 4(h): 24 hours (1440 minutes) or more
abbrev pub IsWeeklyRest : Line → Run → Type 0
IsWeeklyRest line run = IsRestOf line weekly_rest run
