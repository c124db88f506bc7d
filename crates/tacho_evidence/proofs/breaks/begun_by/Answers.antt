use Rattle.std.proofs.Common.{rules, ◌≡◌, ◌≤◌, ◌+◌, ◌-◌, ℕ, List, length, take, drop, get_or, arith}
use Rattle.std.proofs.Math.Dec.{leb}
use Rattle.std.proofs.lemmas.Bool.{leb-true, leb-false}
use Rattle.std.proofs.lemmas.List.{get_or-take, length-take-le, get_or-drop, length-drop}
use Rattle.std.proofs.lemmas.List.Sorted.{IsPartitionPoint-from_clause, IsPartitionedBy-leb}
use Rattle.tacho_law.specs.declared.run.Run.{Run}
use Rattle.tacho_periods.proofs.DaysLemmas.{starts_rise}
use Rattle.tacho_evidence.proofs.breaks.begun_by.Goals as goal

pub returns : goal.returns
returns c =
    let xs : List Run = c.args.runs.now in
    let n : ℕ = c.partition_point.result in
    let bound : n ≤ length xs = c.partition_point.ensures.bound in
    let found =
    IsPartitionPoint-from_clause (λ (r : Run). leb r.start c.args.minute) xs n c.partition_point.ensures.partitioned
    (IsPartitionedBy-leb (λ (r : Run). r.start) xs c.args.minute
    (λ i j d le lt. starts_rise xs c.requires.some c.requires.in_order i j d le lt))
    (λ a b f' called. search rules) in
    record {
      within = bound;
      begun = λ k d within.
          let l : length (take n xs) ≡ n = length-take-le n xs bound in
          let e : get_or (take n xs) k d ≡ get_or xs k d = get_or-take n xs k d (omega arith) in
          rw e (leb-true (get_or xs k d).start c.args.minute (found.0 k d (omega arith) (omega arith)));
      later = λ k d within.
          let l : length (drop n xs) ≡ length xs - n = length-drop n xs in
          let e : get_or (drop n xs) k d ≡ get_or xs (n + k) d = get_or-drop n xs k d in
          rw e (leb-false (get_or xs (n + k) d).start c.args.minute (found.1 (n + k) d (omega arith) (omega arith)));
    }
