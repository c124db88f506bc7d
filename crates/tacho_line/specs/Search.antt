-- Private to tacho_line: The spans of an ordered list that overlap some minutes.
use Rattle.std.specs.Prelude.{ℕ, nat_lt, nat_le, Bool, List, [], ◌∷◌, if◌then◌else◌}
use Rattle.tacho_time.specs.declared.span.Span.{Span}

-- the spans before the first one that fails the test
abbrev pub front_of : (Span → Bool) → List Span → List Span
front_of p [] = []
front_of p (s ∷ ss) = if p s then s ∷ front_of p ss else []

-- the first span that fails the test, and those after it
abbrev pub rest_of : (Span → Bool) → List Span → List Span
rest_of p [] = []
rest_of p (s ∷ ss) = if p s then rest_of p ss else s ∷ ss

-- the spans that end after a minute
abbrev pub from_minute : ℕ → List Span → List Span
from_minute m spans = rest_of (λ s. nat_le s.past m) spans

-- the spans that start before a minute
abbrev pub before : ℕ → List Span → List Span
before m spans = front_of (λ s. nat_lt s.start m) spans

-- the spans that overlap a range
abbrev pub overlap : List Span → ℕ → ℕ → List Span
overlap spans start past = before past (from_minute start spans)
