-- Values that the page on timelines prints, by computation: the line that is drawn there.
use Rattle.std.proofs.Common.{◌≡◌, List, [], ◌∷◌, false, None, Some, refl}
use Rattle.tacho_time.specs.declared.span.Activity.TheVariants.{Rest, Work, Drive}
use Rattle.tacho_time.specs.declared.span.Span.{Span}
use Rattle.tacho_line.specs.declared.horizon.Cause.TheVariants.{Unknown}
use Rattle.tacho_line.specs.Line.{mark_at, first_empty}
use Rattle.tacho_line.specs.Walk.{gaps_from, horizon_from}

-- work from 480, drive from 510 to 1020, rest from 1200 to 1440
abbrev drawn : List Span
drawn =
    record { start = 480; past = 510; mark = record { activity = Work; crew = false } }
    ∷ record { start = 510; past = 1020; mark = record { activity = Drive; crew = false } }
    ∷ record { start = 1200; past = 1440; mark = record { activity = Rest; crew = false } }
    ∷ []

-- a span has its first minute, but not the minute `past`
last_of_work : mark_at drawn 509 ≡ Some (record { activity = Work; crew = false })
last_of_work = refl

first_of_drive : mark_at drawn 510 ≡ Some (record { activity = Drive; crew = false })
first_of_drive = refl

nothing : mark_at drawn 1020 ≡ None
nothing = refl

-- the gap and the horizon of the line
one_gap : gaps_from 480 1440 drawn ≡ record { start = 1020; past = 1200 } ∷ []
one_gap = refl

unknown : horizon_from 480 drawn ≡ record { minute = 1020; cause = Unknown }
unknown = refl

-- L2: the second of these spans is empty
second : first_empty (record { start = 480; past = 510; mark = record { activity = Work; crew = false } } ∷ record { start = 510; past = 510; mark = record { activity = Work; crew = false } } ∷ []) ≡ Some 1
second = refl
