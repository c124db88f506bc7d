-- Trusted in part: Spans in order of their starts, merged into runs.
use Rattle.std.specs.Prelude.{◌≡◌, ℕ, ◌&&◌, ◌||◌, ◌==◌, nat_lt, not, Bool, true, false, List, [], ◌∷◌, ◌++◌, Result, Ok, Err, if◌then◌else◌}
use Rattle.tacho_time.specs.Spans.{Gives, IsCanonical, GiveSame, IsFirstConflict}
use Rattle.tacho_time.specs.declared.span.Span.{Span}
use Rattle.tacho_time.specs.declared.span.Mark.{Mark}
use Rattle.tacho_time.specs.declared.span.Activity.{Activity}
use Rattle.tacho_time.specs.declared.span.Activity.TheVariants.{Rest, Available, Work, Drive}
use Rattle.tacho_time.specs.declared.canonical.SpanFault.{SpanFault}
use Rattle.tacho_time.specs.declared.canonical.SpanFault.TheVariants.{Contradiction, Memory}

-- a number for each activity
abbrev pub activity_code : Activity → ℕ
activity_code Rest = 0
activity_code Available = 1
activity_code Work = 2
activity_code Drive = 3

-- true if both are true, or both false
abbrev pub same_bool : Bool → Bool → Bool
same_bool true b = b
same_bool false b = not b

-- true if two marks are the same
abbrev pub same_mark : Mark → Mark → Bool
same_mark a b = (activity_code a.activity == activity_code b.activity) && same_bool a.crew b.crew

-- puts runs before later runs
abbrev pub with_front : List Span → Result (List Span) ℕ → Result (List Span) ℕ
with_front front (Ok xs) = Ok (front ++ xs)
with_front front (Err m) = Err m

-- true if the span doesn't join the last run: it starts later, or touches it with another mark
abbrev pub is_apart : Span → Span → Bool
is_apart last s = nat_lt last.past s.start || ((last.past == s.start) && not (same_mark s.mark last.mark))

-- the last run, extended to the end of a span
abbrev pub extend_to : Span → Span → Span
extend_to last s = record last { past = (if nat_lt last.past s.past then s.past else last.past) }

-- the runs from the last one on, or the first minute with two marks
abbrev pub merged_from : Span → List Span → Result (List Span) ℕ
merged_from last [] = Ok (last ∷ [])
merged_from last (s ∷ ss) =
    if is_apart last s then with_front (last ∷ []) (merged_from s ss)
    else (if not (same_mark s.mark last.mark) then Err s.start
    else merged_from (extend_to last s) ss)

-- the runs of spans, or the first minute with two marks
abbrev pub merge_spans : List Span → Result (List Span) ℕ
merge_spans [] = Ok []
merge_spans (s ∷ ss) = merged_from s ss

-- the function's fault is the first minute with two marks, unless it ran out of memory
abbrev pub IsMergeFault : SpanFault → Result (List Span) ℕ → Type 0
IsMergeFault (Contradiction m) wanted = wanted ≡ Err m
IsMergeFault Memory wanted = Unit {0}

-- the result is the canonical list of the spans, or the first minute with two marks
abbrev pub IsMerged : List Span → Result (List Span) ℕ → Type 0
IsMerged spans (Ok runs) = IsCanonical runs × GiveSame runs spans
IsMerged spans (Err m) = IsFirstConflict (Gives spans) m

-- the fault is the first minute with two marks, or out of memory
abbrev pub IsFirstFault : (ℕ → Mark → Type 0) → SpanFault → Type 0
IsFirstFault P (Contradiction m) = IsFirstConflict P m
IsFirstFault P Memory = Unit {0}

-- true if the span isn't empty
abbrev pub is_full : Span → Bool
is_full s = nat_lt s.start s.past
