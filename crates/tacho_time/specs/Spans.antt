-- Trusted in part: What spans give to minutes, as a set of pairs of a minute and a mark.
use Rattle.std.specs.Prelude.{◌≡◌, ◌≢◌, ℕ, ◌<◌, ◌≤◌, ◌⊎◌, ◌↔◌, List, [], ◌∷◌}
use Rattle.tacho_time.specs.declared.span.Span.{Span}
use Rattle.tacho_time.specs.declared.span.Mark.{Mark}

-- the minute lies in the span
abbrev pub Covers : Span → ℕ → Type 0
Covers s m = (s.start ≤ m) × (m < s.past)

-- some span gives this mark to the minute
abbrev pub Gives : List Span → ℕ → Mark → Type 0
Gives [] m mark = ⊥
Gives (s ∷ ss) m mark = (Covers s m × (s.mark ≡ mark)) ⊎ Gives ss m mark

-- two sets have the same pairs
abbrev pub SamePairs : (ℕ → Mark → Type 0) → (ℕ → Mark → Type 0) → Type 0
SamePairs P Q = (m : ℕ) (mark : Mark) → P m mark ↔ Q m mark

-- both lists give the same marks to the same minutes
abbrev pub GiveSame : List Span → List Span → Type 0
GiveSame xs ys = SamePairs (Gives xs) (Gives ys)

-- the list starts after the span; if they touch, it starts with another mark
abbrev pub GoesOn : Span → List Span → Type 0
GoesOn s [] = Unit {0}
GoesOn s (t ∷ ts) = (s.past ≤ t.start) × (s.past ≡ t.start → s.mark ≢ t.mark)

-- in order, disjoint, none empty; two that touch have different marks
abbrev pub IsCanonical : List Span → Type 0
IsCanonical [] = Unit {0}
IsCanonical (s ∷ ss) = (s.start < s.past) × GoesOn s ss × IsCanonical ss

-- the spans are the canonical list of a set of pairs
pub record IsCanonicalOf (P : ℕ → Mark → Type 0) (spans : List Span) : Type 0 where
  pub canonical : IsCanonical spans
  pub same : SamePairs (Gives spans) P

-- the set has two marks for the minute
abbrev pub Conflicts : (ℕ → Mark → Type 0) → ℕ → Type 0
Conflicts P m = (a : Mark) × (b : Mark) × P m a × P m b × (a ≢ b)

-- the minute is the least one with two marks
abbrev pub IsFirstConflict : (ℕ → Mark → Type 0) → ℕ → Type 0
IsFirstConflict P m = Conflicts P m × ((n : ℕ) → n < m → ¬ (Conflicts P n))

-- no span is empty, the first starts at n or later, and none starts before its predecessor
abbrev pub StartsFrom : ℕ → List Span → Type 0
StartsFrom n [] = Unit {0}
StartsFrom n (s ∷ ss) = (n ≤ s.start) × (s.start < s.past) × StartsFrom s.start ss
