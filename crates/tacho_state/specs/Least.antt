-- Trusted: The least minute with two marks, and whether all pairs of some spans are given by others, as functions. They search minute by
-- minute and are never run; laws show that they agree with the relations.
use Rattle.std.specs.Prelude.{ℕ, zero, suc, ◌+◌, ◌&&◌, ◌||◌, not, Bool, false, List, [], ◌∷◌, Option, Some, None, is_some, if◌then◌else◌}
use Rattle.tacho_time.specs.declared.span.Span.{Span}
use Rattle.tacho_time.specs.declared.span.Mark.{Mark}
use Rattle.tacho_time.specs.Merge.{same_mark}
use Rattle.tacho_line.specs.Line.{covers}

-- the first of `count` minutes from `m` on that passes the test
abbrev pub first_from : (ℕ → Bool) → ℕ → ℕ → Option ℕ
first_from p m zero = None
first_from p m (suc count) = if p m then Some m else first_from p (m + 1) count

-- the spans give the minute this mark
abbrev pub gives : List Span → ℕ → Mark → Bool
gives [] m k = false
gives (s ∷ ss) m k = (covers s m && same_mark s.mark k) || gives ss m k

-- the spans give the minute another mark
abbrev pub gives_other : List Span → ℕ → Mark → Bool
gives_other [] m k = false
gives_other (s ∷ ss) m k = (covers s m && not (same_mark s.mark k)) || gives_other ss m k

-- some span of the first list gives the minute a mark, and the other list gives it a different one
abbrev pub clash_at : List Span → List Span → ℕ → Bool
clash_at [] ys m = false
clash_at (s ∷ ss) ys m = (covers s m && gives_other ys m s.mark) || clash_at ss ys m

-- some span gives the minute a mark that the others do not give it
abbrev pub lacks_at : List Span → List Span → ℕ → Bool
lacks_at [] ys m = false
lacks_at (s ∷ ss) ys m = (covers s m && not (gives ys m s.mark)) || lacks_at ss ys m

-- a bound: no span has a minute at or after it
abbrev pub bound : List Span → ℕ
bound [] = 0
bound (s ∷ ss) = s.past + bound ss

-- the least minute to which the spans give two marks
abbrev pub least_conflict : List Span → Option ℕ
least_conflict spans = first_from (clash_at spans spans) 0 (bound spans)

-- all pairs of the first are pairs of the second
abbrev pub is_within : List Span → List Span → Bool
is_within spans others = not (is_some (first_from (lacks_at spans others) 0 (bound spans)))
