-- Private to tacho_check: Whether disjoint spans give what other spans give.
use Rattle.std.specs.Prelude.{◌≡◌, ℕ, ◌<◌, ◌≤◌, List, [], ◌∷◌, Option, None, Some, Vec}
use Rattle.std.specs.declared.alloc.Global.{Global}
use Rattle.tacho_time.specs.declared.span.Span.{Span}
use Rattle.tacho_time.specs.Spans.{Gives, IsCanonicalOf, IsFirstConflict}

-- no span is empty, the first starts at n or later, and each starts where the one before it ends, or later
abbrev pub Rise : ℕ → List Span → Type 0
Rise n [] = Unit {0}
Rise n (s ∷ ss) = (n ≤ s.start) × (s.start < s.past) × Rise s.past ss

-- the canonical list of what spans give, or none if a minute has two marks
abbrev pub IsListOf : List Span → Option (Vec Span Global) → Type 0
IsListOf spans None = (m : ℕ) × IsFirstConflict (Gives spans) m
IsListOf spans (Some runs) = IsCanonicalOf (Gives spans) runs.items

-- both lists are there and are the same
abbrev pub AreSame : Option (Vec Span Global) → Option (Vec Span Global) → Type 0
AreSame (Some a) (Some b) = a.items ≡ b.items
AreSame (Some a) None = ⊥
AreSame None b = ⊥
