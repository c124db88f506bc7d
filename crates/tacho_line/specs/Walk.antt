-- Trusted in part: What one pass over spans in order finds.
use Rattle.std.specs.Prelude.{ℕ, nat_lt, List, [], ◌∷◌, ◌++◌, if◌then◌else◌}
use Rattle.tacho_time.specs.declared.span.Span.{Span}
use Rattle.tacho_line.specs.declared.gap.Gap.{Gap}
use Rattle.tacho_line.specs.declared.horizon.Cause.TheVariants.{Unknown, Crew}
use Rattle.tacho_line.specs.declared.horizon.Horizon.{Horizon}

-- the first minute from m on that the spans don't hold, or that is crew
abbrev pub horizon_from : ℕ → List Span → Horizon
horizon_from m [] = record { minute = m; cause = Unknown }
horizon_from m (s ∷ ss) =
    if nat_lt m s.start then record { minute = m; cause = Unknown }
    else (if s.mark.crew then record { minute = m; cause = Crew }
    else horizon_from s.past ss)

-- the gap between two minutes, if it isn't empty
abbrev pub gap_between : ℕ → ℕ → List Gap
gap_between start past = if nat_lt start past then record { start = start; past = past } ∷ [] else []

-- the gaps of the spans from minute m to before `past`
abbrev pub gaps_from : ℕ → ℕ → List Span → List Gap
gaps_from m past [] = gap_between m past
gaps_from m past (s ∷ ss) = gap_between m s.start ++ gaps_from s.past past ss

-- the later of two minutes
abbrev pub later_of : ℕ → ℕ → ℕ
later_of a b = if nat_lt a b then b else a

-- the earlier of two minutes
abbrev pub earlier_of : ℕ → ℕ → ℕ
earlier_of a b = if nat_lt a b then a else b

-- a span cut to a range
abbrev pub cut_to : ℕ → ℕ → Span → Span
cut_to start past s = record { start = later_of s.start start; past = earlier_of s.past past; mark = s.mark }
