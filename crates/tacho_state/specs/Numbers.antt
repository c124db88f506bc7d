-- Trusted: The numbers that an archive stores for parts of card files, activities and marks.
use Rattle.std.specs.Prelude.{ℕ, ◌+◌, ◌==◌, ◌<◌, nat_lt, true, false, if◌then◌else◌}
use Rattle.tacho_time.specs.declared.span.Mark.{Mark}
use Rattle.tacho_time.specs.declared.span.Activity.{Activity}
use Rattle.tacho_time.specs.declared.span.Activity.TheVariants.{Rest, Available, Work, Drive}
use Rattle.tacho_card.specs.declared.file.Part.{Part}
use Rattle.tacho_card.specs.declared.file.Part.TheVariants as part

-- the number of a part: 0 both generations, 1 the first, 2 the second
abbrev pub part_number : Part → ℕ
part_number part.Both = 0
part_number part.First = 1
part_number part.Second = 2

-- the number of an activity: 0 rest, 1 available, 2 work, 3 drive
abbrev pub activity_number : Activity → ℕ
activity_number Rest = 0
activity_number Available = 1
activity_number Work = 2
activity_number Drive = 3

-- the number of a mark: that of its activity, and 4 more for crew
abbrev pub mark_number : Mark → ℕ
mark_number k = activity_number k.activity + (if k.crew then 4 else 0)

-- the activity with a number; a number above 3 is read as drive, but is no activity's number
abbrev pub numbered_activity : ℕ → Activity
numbered_activity n = if n == 0 then Rest else (if n == 1 then Available else (if n == 2 then Work else Drive))

-- the mark with a number
abbrev pub numbered_mark : ℕ → Mark
numbered_mark n =
    if nat_lt n 4 then record { activity = numbered_activity n; crew = false }
    else record { activity = (if n == 4 then Rest else (if n == 5 then Available else (if n == 6 then Work else Drive))); crew = true }

-- the numbers of marks; a greater number is read as a mark too, but is no mark's number
abbrev pub IsMark : ℕ → Type 0
IsMark n = n < 8
