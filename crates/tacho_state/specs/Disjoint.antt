-- Trusted in part: Stored spans that keep a set of pairs (a minute and a mark), in any order, and changes of them within a range.
use Rattle.std.specs.Prelude.{ℕ, ◌<◌, ◌≤◌, ◌⊎◌, ◌&&◌, nat_lt, not, Bool, List, [], ◌∷◌, ◌++◌, filter}
use Rattle.tacho_time.specs.declared.span.Span.{Span}
use Rattle.tacho_time.specs.declared.span.Mark.{Mark}
use Rattle.tacho_time.specs.Spans.{Gives, SamePairs, IsFirstConflict}
use Rattle.tacho_line.specs.Join.{ShareNone}
use Rattle.tacho_line.specs.Line.{IsWithin, Together, AreGains}
use Rattle.tacho_line.specs.Gains.{span_between}

-- no span is empty, and no minute is in two of them
abbrev pub AreDisjoint : List Span → Type 0
AreDisjoint [] = Unit {0}
AreDisjoint (s ∷ ss) = (s.start < s.past) × ShareNone (s ∷ []) ss × AreDisjoint ss

-- the spans are disjoint and give exactly these pairs
pub record GiveExactly (spans : List Span) (P : ℕ → Mark → Type 0) : Type 0 where
  pub disjoint : AreDisjoint spans
  pub same : SamePairs (Gives spans) P

-- the span overlaps the range
abbrev pub is_near : ℕ → ℕ → Span → Bool
is_near start past s = nat_lt s.start past && nat_lt start s.past

-- the spans that overlap a range
abbrev pub near : ℕ → ℕ → List Span → List Span
near start past spans = filter (is_near start past) spans

-- the spans that don't overlap a range
abbrev pub far : ℕ → ℕ → List Span → List Span
far start past spans = filter (λ s. not (is_near start past s)) spans

-- the minute is outside the range
abbrev pub IsOutside : ℕ → ℕ → ℕ → Type 0
IsOutside start past m = (m < start) ⊎ (past ≤ m)

-- the parts, outside a range, of spans that overlap it
abbrev pub outside : ℕ → ℕ → List Span → List Span
outside start past [] = []
outside start past (s ∷ ss) = (span_between s.mark s.start start ++ span_between s.mark past s.past) ++ outside start past ss

-- the spans, with all within a range replaced by `inside`
abbrev pub with_range_replaced : ℕ → ℕ → List Span → List Span → List Span
with_range_replaced start past spans inside = far start past spans ++ (outside start past (near start past spans) ++ inside)

-- all minutes of the spans are in the range
abbrev pub AreInRange : ℕ → ℕ → List Span → Type 0
AreInRange start past spans = (m : ℕ) (k : Mark) → Gives spans m k → IsWithin start past m

-- all pairs of the first set are in the second
abbrev pub AllWithin : (ℕ → Mark → Type 0) → (ℕ → Mark → Type 0) → Type 0
AllWithin P Q = (m : ℕ) (k : Mark) → P m k → Q m k

-- a set of pairs together with the pairs that spans give
abbrev pub With : (ℕ → Mark → Type 0) → List Span → ℕ → Mark → Type 0
With P spans m k = P m k ⊎ Gives spans m k

-- the spans give a pair that the line doesn't hold, or contradict the line
abbrev pub HasNews : List Span → List Span → Type 0
HasNews line spans =
    ((first : Span) × (others : List Span) × AreGains line spans (first ∷ others))
    ⊎ ((m : ℕ) × IsFirstConflict (Together line spans) m)
