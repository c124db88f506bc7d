use Rattle.std.proofs.Common.{rules, ◌≡◌, ◌≤◌, ◌+◌, ◌-◌, ℕ, List, length, take, drop, get_or, arith}
use Rattle.std.proofs.Math.Dec.{ltb}
use Rattle.std.proofs.lemmas.Bool.{ltb-true, ltb-false}
use Rattle.std.proofs.lemmas.List.{get_or-take, length-take-le, get_or-drop, length-drop}
use Rattle.std.proofs.lemmas.List.Sorted.{IsPartitionPoint-from_clause, IsPartitionedBy-ltb}
use Rattle.tacho_law.specs.declared.run.Run.{Run}
use Rattle.tacho_periods.proofs.DaysLemmas.{pasts_rise}
use Rattle.tacho_evidence.proofs.late.ended_before.Goals as goal

pub returns : goal.returns
returns c =
    let xs : List Run = c.args.runs.now in
    let n : ℕ = c.partition_point.result in
    let bound : n ≤ length xs = c.partition_point.ensures.bound in
    let found =
    IsPartitionPoint-from_clause (λ (r : Run). ltb r.past c.args.minute) xs n c.partition_point.ensures.partitioned
    (IsPartitionedBy-ltb (λ (r : Run). r.past) xs c.args.minute
    (λ i j d le lt. pasts_rise xs c.requires.some c.requires.in_order i j d le lt))
    (λ a b f' called. search rules) in
    record {
      within = bound;
      ended = λ k d within.
          let l : length (take n xs) ≡ n = length-take-le n xs bound in
          let e : get_or (take n xs) k d ≡ get_or xs k d = get_or-take n xs k d (omega arith) in
          rw e (ltb-true (get_or xs k d).past c.args.minute (found.0 k d (omega arith) (omega arith)));
      later = λ k d within.
          let l : length (drop n xs) ≡ length xs - n = length-drop n xs in
          let e : get_or (drop n xs) k d ≡ get_or xs (n + k) d = get_or-drop n xs k d in
          rw e (ltb-false (get_or xs (n + k) d).past c.args.minute (found.1 (n + k) d (omega arith) (omega arith)));
    }
