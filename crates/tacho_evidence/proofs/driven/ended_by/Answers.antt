use Rattle.std.proofs.Common.{rules, ◌≡◌, ◌≤◌, ◌<◌, ◌+◌, ◌-◌, ℕ, List, length, take, drop, get_or, inl, inr, ap, arith}
use Rattle.std.proofs.Math.Dec.{leb}
use Rattle.std.specs.List.{AllPairs}
use Rattle.std.proofs.lemmas.Bool.{cases_lt, leb-true, leb-false}
use Rattle.std.proofs.lemmas.List.{get_or-take, length-take-le, get_or-drop, length-drop}
use Rattle.std.proofs.lemmas.List.Sorted.{IsPartitionPoint-from_clause, IsPartitionedBy-leb}
use Rattle.tacho_time.specs.declared.span.Span.{Span}
use Rattle.tacho_evidence.proofs.driven.ended_by.Goals as goal

-- ends that rise are in order, also where both are the same
rise : (xs : List Span) (i k : ℕ) (d : Span) → AllPairs (λ (a b : Span). a.past ≤ b.past) xs
    → i ≤ k → k < length xs → (get_or xs i d).past ≤ (get_or xs k d).past
rise xs i k d h le within = elim (cases_lt i k) [
  | inl lt ↦ h i k d lt within
  | inr ge ↦
      let e : i ≡ k = omega arith in
      let f : (get_or xs i d).past ≡ (get_or xs k d).past = ap (λ (n : ℕ). (get_or xs n d).past) e in
      omega arith
]

pub returns : goal.returns
returns c =
    let xs : List Span = c.args.spans.now in
    let n : ℕ = c.partition_point.result in
    let bound : n ≤ length xs = c.partition_point.ensures.bound in
    let found =
    IsPartitionPoint-from_clause (λ (s : Span). leb s.past c.args.minute) xs n c.partition_point.ensures.partitioned
    (IsPartitionedBy-leb (λ (s : Span). s.past) xs c.args.minute (λ i j d le lt. rise xs i j d c.requires le lt))
    (λ a b f' called. search rules) in
    record {
      within = bound;
      ended = λ k d within.
          let l : length (take n xs) ≡ n = length-take-le n xs bound in
          let e : get_or (take n xs) k d ≡ get_or xs k d = get_or-take n xs k d (omega arith) in
          rw e (leb-true (get_or xs k d).past c.args.minute (found.0 k d (omega arith) (omega arith)));
      later = λ k d within.
          let l : length (drop n xs) ≡ length xs - n = length-drop n xs in
          let e : get_or (drop n xs) k d ≡ get_or xs (n + k) d = get_or-drop n xs k d in
          rw e (leb-false (get_or xs (n + k) d).past c.args.minute (found.1 (n + k) d (omega arith) (omega arith)));
    }
