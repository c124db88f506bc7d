-- The spans of an examined line are within its range: cut to the range, they stay the same.
use Rattle.std.proofs.Common.{◌≡◌, ℕ, ◌≤◌, List, [], ◌∷◌, map, refl, arith}
use Rattle.std.proofs.lemmas.Bool.Decides.{nat_tests}
use Rattle.tacho_time.specs.declared.span.Span.{Span}
use Rattle.tacho_line.specs.Walk.{cut_to, later_of, earlier_of}
use Rattle.tacho_law.specs.Line.{Joined}
use Rattle.tacho_law.proofs.RunsLemmas.{joined_le}

-- a span within the range, cut to it, stays the same
cut_one : (base past : ℕ) (s : Span) → base ≤ s.start → s.past ≤ past → cut_to base past s ≡ s
cut_one base past s low high =
    let start : later_of s.start base ≡ s.start = grind (arith, nat_tests) in
    let end : earlier_of s.past past ≡ s.past = grind (arith, nat_tests) in
    rw (start, end) refl

pub cut_none : (spans : List Span) (base past place : ℕ) → base ≤ place → Joined spans place past
    → map (cut_to base past) spans ≡ spans
cut_none [] base past place low joined = refl
cut_none (s ∷ spans) base past place low (e, some, rest) =
    let high : s.past ≤ past = joined_le spans s.past past rest in
    rw (cut_one base past s (omega arith) high, cut_none spans base past s.past (omega arith) rest) refl
