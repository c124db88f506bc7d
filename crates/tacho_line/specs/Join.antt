-- Trusted in part: Merging two lists of spans into one.
use Rattle.std.specs.Prelude.{ℕ, ◌&&◌, ◌==◌, ◌<◌, ◌≤◌, ◌⊎◌, nat_lt, nat_le, Bool, List, [], ◌∷◌, ◌++◌, if◌then◌else◌}
use Rattle.tacho_time.specs.declared.span.Span.{Span}
use Rattle.tacho_time.specs.declared.span.Mark.{Mark}
use Rattle.tacho_time.specs.Spans.{Gives}
use Rattle.tacho_time.specs.Merge.{same_mark}
use Rattle.tacho_line.specs.Search.{front_of, rest_of, before}

-- no minute is given by both lists
abbrev pub ShareNone : List Span → List Span → Type 0
ShareNone xs ys = (m : ℕ) (j k : Mark) → Gives xs m j → Gives ys m k → ⊥

-- what either list gives
abbrev pub EitherGives : List Span → List Span → ℕ → Mark → Type 0
EitherGives xs ys m k = Gives xs m k ⊎ Gives ys m k

-- the list starts at the span's end or later
abbrev pub StartsAfter : Span → List Span → Type 0
StartsAfter s [] = Unit {0}
StartsAfter s (t ∷ ts) = s.past ≤ t.start

-- in order, disjoint, none empty; two that touch may have the same mark
abbrev pub AreSpansInOrder : List Span → Type 0
AreSpansInOrder [] = Unit {0}
AreSpansInOrder (s ∷ ss) = (s.start < s.past) × StartsAfter s ss × AreSpansInOrder ss

-- the spans that start at minute m or later
abbrev pub starting_from : ℕ → List Span → List Span
starting_from m spans = rest_of (λ s. nat_lt s.start m) spans

-- the spans of both lists in the order of their starts
abbrev pub in_order : List Span → List Span → List Span
in_order held [] = held
in_order held (s ∷ ss) = before s.start held ++ s ∷ in_order (starting_from s.start held) ss

-- the span starts where the last one ends, and has the same mark
abbrev pub touches : Span → Span → Bool
touches last s = (last.past == s.start) && same_mark s.mark last.mark

-- the spans, with those joined that touch and have the same mark
abbrev pub joined_from : Span → List Span → List Span
joined_from last [] = last ∷ []
joined_from last (s ∷ ss) = if touches last s then joined_from (record last { past = s.past }) ss else last ∷ joined_from s ss

-- likewise for a list that may be empty
abbrev pub join_spans : List Span → List Span
join_spans [] = []
join_spans (s ∷ ss) = joined_from s ss

-- ---- the list around the added spans

-- the spans that end before a minute
abbrev pub ending_before : ℕ → List Span → List Span
ending_before start spans = front_of (λ s. nat_lt s.past start) spans

-- the other spans, starting with the first that ends at this minute or later
abbrev pub ending_from : ℕ → List Span → List Span
ending_from start spans = rest_of (λ s. nat_lt s.past start) spans

-- the spans that start at or before a minute
abbrev pub starting_by : ℕ → List Span → List Span
starting_by past spans = front_of (λ s. nat_le s.start past) spans

-- the other spans, starting with the first that starts after this minute
abbrev pub starting_after : ℕ → List Span → List Span
starting_after past spans = rest_of (λ s. nat_le s.start past) spans
