use Rattle.std.proofs.Common.{rules, ◌<◌, ℕ, List}
use Rattle.std.proofs.Math.Dec.{ltb}
use Rattle.std.specs.List.{AllPairs}
use Rattle.std.proofs.lemmas.List.Sorted.{IsPartitionPoint-from_clause, IsPartitionedBy-ltb}
use Rattle.std.proofs.lemmas.List.Elements.{Contains-get_or}
use Rattle.tacho_law.specs.declared.run.Run.{Run}
use Rattle.tacho_evidence.proofs.DaysInTimeLemmas.{no_run, rise, pasts_rise, place_of_sought}
use Rattle.tacho_evidence.proofs.daily.rest_until.Goals as goal

pub bounds-runs-partition_point : goal.bounds-runs-partition_point
bounds-runs-partition_point c =
    let xs : List Run = c.args.runs.now in
    let n : ℕ = c.partition_point.result in
    let up : AllPairs (λ (a b : Run). a.past < b.past) xs = pasts_rise xs c.requires.runs in
    let found =
    IsPartitionPoint-from_clause (λ (run : Run). ltb run.past c.args.past) xs n c.partition_point.ensures.partitioned
    (IsPartitionedBy-ltb (λ (run : Run). run.past) xs c.args.past
    (λ i j d le lt. rise (λ (run : Run). run.past) xs up i j d le lt))
    (λ a b f' called. search rules) in
    (place_of_sought (λ (run : Run). run.past) xs n c.args.past up found c.requires.there.0 c.requires.there.1
    c.requires.there.2).0

pub returns-clause-among : goal.returns-clause-among
returns-clause-among c =
    let xs : List Run = c.args.runs.now in
    let n : ℕ = c.partition_point.result in
    let up : AllPairs (λ (a b : Run). a.past < b.past) xs = pasts_rise xs c.requires.runs in
    let found =
    IsPartitionPoint-from_clause (λ (run : Run). ltb run.past c.args.past) xs n c.partition_point.ensures.partitioned
    (IsPartitionedBy-ltb (λ (run : Run). run.past) xs c.args.past
    (λ i j d le lt. rise (λ (run : Run). run.past) xs up i j d le lt))
    (λ a b f' called. search rules) in
    Contains-get_or xs n no_run
    ((place_of_sought (λ (run : Run). run.past) xs n c.args.past up found c.requires.there.0 c.requires.there.1
    c.requires.there.2).0)

pub returns-clause-ends : goal.returns-clause-ends
returns-clause-ends c =
    let xs : List Run = c.args.runs.now in
    let n : ℕ = c.partition_point.result in
    let up : AllPairs (λ (a b : Run). a.past < b.past) xs = pasts_rise xs c.requires.runs in
    let found =
    IsPartitionPoint-from_clause (λ (run : Run). ltb run.past c.args.past) xs n c.partition_point.ensures.partitioned
    (IsPartitionedBy-ltb (λ (run : Run). run.past) xs c.args.past
    (λ i j d le lt. rise (λ (run : Run). run.past) xs up i j d le lt))
    (λ a b f' called. search rules) in
    (place_of_sought (λ (run : Run). run.past) xs n c.args.past up found c.requires.there.0 c.requires.there.1
    c.requires.there.2).1 no_run
