-- Trusted in part: What spans give that a line doesn't hold.
use Rattle.std.specs.Prelude.{◌≡◌, ℕ, nat_lt, List, [], ◌∷◌, ◌++◌, Option, Some, None, if◌then◌else◌}
use Rattle.tacho_time.specs.declared.span.Span.{Span}
use Rattle.tacho_time.specs.declared.span.Mark.{Mark}
use Rattle.tacho_time.specs.Spans.{IsFirstConflict}
use Rattle.tacho_time.specs.declared.canonical.SpanFault.{SpanFault}
use Rattle.tacho_time.specs.declared.canonical.SpanFault.TheVariants as span_fault
use Rattle.tacho_time.specs.Merge.{same_mark}
use Rattle.tacho_time.specs.OrMemory.{OrMemory}
use Rattle.tacho_line.specs.declared.line.LineFault.{LineFault}
use Rattle.tacho_line.specs.declared.line.LineFault.TheVariants.{Contradiction, Memory}
use Rattle.tacho_line.specs.Search.{overlap}
use Rattle.tacho_line.specs.Walk.{later_of}

-- the first minute of a run for which spans that overlap it have another mark
abbrev pub conflict_in : Span → List Span → Option ℕ
conflict_in r [] = None
conflict_in r (s ∷ ss) = if same_mark s.mark r.mark then conflict_in r ss else Some (later_of s.start r.start)

-- the first minute if there is one, else the second
abbrev pub first_or : Option ℕ → Option ℕ → Option ℕ
first_or (Some m) rest = Some m
first_or None rest = rest

-- the first minute for which a line and runs have two marks
abbrev pub conflict_of : List Span → List Span → Option ℕ
conflict_of line [] = None
conflict_of line (r ∷ runs) = first_or (conflict_in r (overlap line r.start r.past)) (conflict_of line runs)

-- the span between two minutes, if it is not empty
abbrev pub span_between : Mark → ℕ → ℕ → List Span
span_between mark start past = if nat_lt start past then record { start = start; past = past; mark = mark } ∷ [] else []

-- the parts from minute m to before `past` that held spans don't cover, with this mark
abbrev pub new_from : Mark → ℕ → ℕ → List Span → List Span
new_from mark m past [] = span_between mark m past
new_from mark m past (s ∷ ss) = span_between mark m s.start ++ new_from mark s.past past ss

-- the parts of runs that held spans don't cover
abbrev pub lacking_of : List Span → List Span → List Span
lacking_of held [] = []
lacking_of held (r ∷ runs) = new_from r.mark r.start r.past (overlap held r.start r.past) ++ lacking_of held runs

-- the fault of a line and spans together, if the spans alone have a fault
abbrev pub line_fault : SpanFault → LineFault
line_fault (span_fault.Contradiction m) = Contradiction m
line_fault span_fault.Memory = Memory

-- the fault is the first minute with two marks, or out of memory
abbrev pub IsConflictOf : (ℕ → Mark → Type 0) → LineFault → Type 0
IsConflictOf P fault = OrMemory Memory fault ((m : ℕ) × (fault ≡ Contradiction m) × IsFirstConflict P m)
