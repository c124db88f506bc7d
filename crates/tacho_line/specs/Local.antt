-- Trusted: Statements about a line near some minutes only.
use Rattle.std.specs.Prelude.{ℕ, ◌≤◌, List, All}
use Rattle.tacho_time.specs.declared.span.Span.{Span}

-- each span is within the range
abbrev pub AreWithin : ℕ → ℕ → List Span → Type 0
AreWithin start past spans = All (λ s. (start ≤ s.start) × (s.past ≤ past)) spans
