use Rattle.std.proofs.Common.{rules}
use Rattle.std.proofs.Math.Dec.{leb}
use Rattle.std.proofs.lemmas.List.Elements.{Contains-get_or}
use Rattle.std.proofs.lemmas.List.Sorted.{IsPartitionPoint-from_clause, IsPartitionedBy-leb}
use Rattle.tacho_law.specs.declared.run.Run.{Run}
use Rattle.tacho_periods.proofs.DaysLemmas.{HaveEnded, pasts_rise}
use Rattle.tacho_periods.proofs.RunsLemmas.{no_run}
use Rattle.tacho_ahead.proofs.UsedLemmas.{has_ended, last_has_ended, last_is_last, last_within}
use Rattle.tacho_ahead.proofs.used.last_ended.Goals as goal

-- the partition point that was found
found : (c : goal.After-partition_point) → HaveEnded c.args.runs.now c.args.minute c.partition_point.result
found c =
    IsPartitionPoint-from_clause (λ (run : Run). leb run.past c.args.minute) c.args.runs.now c.partition_point.result
    c.partition_point.ensures.partitioned
    (IsPartitionedBy-leb (λ (run : Run). run.past) c.args.runs.now c.args.minute
    (λ i j d le lt. pasts_rise c.args.runs.now c.requires.runs.some c.requires.runs.in_order i j d le lt))
    (λ a b f' called. search rules)

pub overflow_sub-result : goal.overflow_sub-result
overflow_sub-result c =
    has_ended c.args.runs.now c.requires.runs c.args.minute c.partition_point.result (found c) c.requires.some

pub returns-clause-among : goal.returns-clause-among
returns-clause-among c =
    Contains-get_or c.args.runs.now _ no_run
    (last_within c.args.runs.now c.requires.runs c.args.minute c.partition_point.result (found c.before) c.requires.some
    c.partition_point.ensures.bound)

pub returns-clause-ended : goal.returns-clause-ended
returns-clause-ended c =
    last_has_ended c.args.runs.now c.requires.runs c.args.minute c.partition_point.result (found c.before) c.requires.some
    c.partition_point.ensures.bound

pub returns-clause-last : goal.returns-clause-last
returns-clause-last c =
    last_is_last c.args.runs.now c.requires.runs c.args.minute c.partition_point.result (found c.before) c.requires.some
    c.partition_point.ensures.bound
