-- Trusted: ActivityChangeInfo (Annex IC, Appendix 1): the sixteen bits `scpaattttttttttt` of a word.
use Rattle.std.specs.Prelude.{ℕ, ◌/◌, ◌%◌, ◌==◌, Bool, true, false, Option, Some, None, if◌then◌else◌}
use Rattle.tacho_time.specs.declared.span.Activity.{Activity}
use Rattle.tacho_time.specs.declared.span.Activity.TheVariants.{Rest, Available, Work, Drive}
use Rattle.tacho_time.specs.declared.span.Mark.{Mark}

-- `c`: while the card is in, 1 for crew; while it is out, 1 if the activity was entered by hand
abbrev pub driving_status : ℕ → ℕ
driving_status word = word / 16384 % 2

-- `p`: 0 while the card is in, 1 while it is out
abbrev pub card_status : ℕ → ℕ
card_status word = word / 8192 % 2

-- `aa`: the activity
abbrev pub activity_of : ℕ → Activity
activity_of word =
    let code = word / 2048 % 4 in
    if code == 0 then Rest else (if code == 1 then Available else (if code == 2 then Work else Drive))

-- `ttttttttttt`: the minute of the day from which the word holds
abbrev pub time_of : ℕ → ℕ
time_of word = word % 2048

-- the mark of an activity, given whether the card is out and whether `c` is 1
abbrev pub mark_by : Activity → Bool → Bool → Option Mark
mark_by activity false crew = Some (record { activity = activity; crew = crew })
mark_by activity true true = Some (record { activity = activity; crew = false })
mark_by activity true false = None

-- the mark of a word; none if the card is out and nothing was entered by hand
abbrev pub mark_of : ℕ → Option Mark
mark_of word = mark_by (activity_of word) (card_status word == 1) (driving_status word == 1)
