-- Trusted: The names of activities.
use Rattle.std.specs.Prelude.{ℕ, List, Option, Some, None, if◌then◌else◌, bytes_eq, codes}
use Rattle.tacho_time.specs.declared.span.Activity.{Activity}
use Rattle.tacho_time.specs.declared.span.Activity.TheVariants.{Rest, Available, Work, Drive}
use Rattle.tacho_sheet.specs.declared.fault.LeftOut.{LeftOut}
use Rattle.tacho_sheet.specs.declared.fault.LeftOut.TheVariants.{Crew, Ferry, Out, Derogation}

abbrev pub activity_of_text : List ℕ → Option Activity
activity_of_text word =
    if bytes_eq word (codes "rest") then Some Rest
    else if bytes_eq word (codes "available") then Some Available
    else if bytes_eq word (codes "work") then Some Work
    else if bytes_eq word (codes "drive") then Some Drive
    else None

-- the activity that is left out, if the text names one
abbrev pub left_out_of : List ℕ → Option LeftOut
left_out_of word =
    if bytes_eq word (codes "crew") then Some Crew
    else if bytes_eq word (codes "ferry") then Some Ferry
    else if bytes_eq word (codes "out") then Some Out
    else if bytes_eq word (codes "derogation") then Some Derogation
    else None
