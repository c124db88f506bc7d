-- Private to tacho_check: Stored entries, without their authors and notes.
use Rattle.std.specs.Prelude.{ℕ, ◌+◌, ◌<◌, ◌≤◌, false, List, [], ◌∷◌, ◌++◌, if◌then◌else◌}
use Rattle.tacho_time.specs.declared.span.Span.{Span}
use Rattle.tacho_check.specs.declared.hours.HoursRow.{HoursRow}

-- minutes of an entry: they lie within 2000-01-03 to the end of 2099, and are at least one and at most 366 days
abbrev pub HasHours : ℕ → ℕ → Type 0
HasHours start past = (15780960 ≤ start) × (start < past) × (past ≤ start + 527040) × (past ≤ 68374080)

-- the span of a row: the driver is alone
abbrev pub hours_span : HoursRow → Span
hours_span r = record { start = r.start; past = r.past; mark = record { activity = r.activity; crew = false } }

-- what a row gives: nothing, if it is withdrawn
abbrev pub kept_hours : HoursRow → List Span
kept_hours r = if r.withdrawn then [] else hours_span r ∷ []

-- what all rows give
abbrev pub entered_hours : List HoursRow → List Span
entered_hours [] = []
entered_hours (r ∷ rows) = kept_hours r ++ entered_hours rows
