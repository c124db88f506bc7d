use Rattle.std.proofs.Common.{rules, ◌<◌, ℕ, List}
use Rattle.std.proofs.Math.Dec.{ltb}
use Rattle.std.specs.List.{AllPairs}
use Rattle.std.proofs.lemmas.List.Sorted.{IsPartitionPoint-from_clause, IsPartitionedBy-ltb}
use Rattle.std.proofs.lemmas.List.Elements.{Contains-get_or}
use Rattle.tacho_law.specs.declared.days.DutyDay.{DutyDay}
use Rattle.tacho_evidence.proofs.DaysInTimeLemmas.{no_day, rise, starts_rise, place_of_sought}
use Rattle.tacho_evidence.proofs.daily.day_from.Goals as goal

pub bounds-days-partition_point : goal.bounds-days-partition_point
bounds-days-partition_point c =
    let xs : List DutyDay = c.args.days.now in
    let n : ℕ = c.partition_point.result in
    let up : AllPairs (λ (a b : DutyDay). a.start < b.start) xs = starts_rise xs c.requires.days in
    let found =
    IsPartitionPoint-from_clause (λ (day : DutyDay). ltb day.start c.args.start) xs n c.partition_point.ensures.partitioned
    (IsPartitionedBy-ltb (λ (day : DutyDay). day.start) xs c.args.start
    (λ i j d le lt. rise (λ (day : DutyDay). day.start) xs up i j d le lt))
    (λ a b f' called. search rules) in
    (place_of_sought (λ (day : DutyDay). day.start) xs n c.args.start up found c.requires.there.0 c.requires.there.1
    c.requires.there.2).0

pub returns-clause-among : goal.returns-clause-among
returns-clause-among c =
    let xs : List DutyDay = c.args.days.now in
    let n : ℕ = c.partition_point.result in
    let up : AllPairs (λ (a b : DutyDay). a.start < b.start) xs = starts_rise xs c.requires.days in
    let found =
    IsPartitionPoint-from_clause (λ (day : DutyDay). ltb day.start c.args.start) xs n c.partition_point.ensures.partitioned
    (IsPartitionedBy-ltb (λ (day : DutyDay). day.start) xs c.args.start
    (λ i j d le lt. rise (λ (day : DutyDay). day.start) xs up i j d le lt))
    (λ a b f' called. search rules) in
    Contains-get_or xs n no_day
    ((place_of_sought (λ (day : DutyDay). day.start) xs n c.args.start up found c.requires.there.0 c.requires.there.1
    c.requires.there.2).0)

pub returns-clause-begins : goal.returns-clause-begins
returns-clause-begins c =
    let xs : List DutyDay = c.args.days.now in
    let n : ℕ = c.partition_point.result in
    let up : AllPairs (λ (a b : DutyDay). a.start < b.start) xs = starts_rise xs c.requires.days in
    let found =
    IsPartitionPoint-from_clause (λ (day : DutyDay). ltb day.start c.args.start) xs n c.partition_point.ensures.partitioned
    (IsPartitionedBy-ltb (λ (day : DutyDay). day.start) xs c.args.start
    (λ i j d le lt. rise (λ (day : DutyDay). day.start) xs up i j d le lt))
    (λ a b f' called. search rules) in
    (place_of_sought (λ (day : DutyDay). day.start) xs n c.args.start up found c.requires.there.0 c.requires.there.1
    c.requires.there.2).1 no_day
