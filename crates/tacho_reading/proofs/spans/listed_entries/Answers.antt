use Rattle.std.proofs.Common.{refl}
use Rattle.tacho_tables.specs.Tables.{told_entry}
use Rattle.tacho_reading.specs.Standing.{IsListed}
use Rattle.tacho_reading.proofs.TakingLemmas.{all_left, one_more}
use Rattle.tacho_reading.proofs.spans.listed_entries.Goals as goal

pub returns-in_default-clause-cause : goal.returns-in_default-clause-cause
returns-in_default-clause-cause c store all =
    c.in_default.ensures.none.0 refl (all_left told_entry _ _ _ c.in-Some.ensures.steps.0 IsListed (c.loop-row.invariant.fit all)).0

pub loop-row-preserved : goal.loop-row-preserved
loop-row-preserved c = record {
  listed = one_more told_entry _ _ _ c.in-Some.ensures.steps.0 _ _ _ c.in-Some-listed_entry.entry _ c.in_ok-push.ensures.items
      c.in-Some-listed_entry.ensures.some c.loop-row.invariant.listed;
  fit = λ all. (all_left told_entry _ _ _ c.in-Some.ensures.steps.0 IsListed (c.loop-row.invariant.fit all)).1;
}
