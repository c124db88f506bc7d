use Rattle.std.proofs.Common.{◌∙◌, ◌∷◌, [], refl, ap, map}
use Rattle.std.proofs.lemmas.List.{map-append}
use Rattle.tacho_state.specs.Summaries.{told_summary}
use Rattle.tacho_tables.specs.Tables.{told_driver}
use Rattle.tacho_reading.specs.Standing.{HasBaseDay}
use Rattle.tacho_reading.proofs.TakingLemmas.{all_left, one_more}
use Rattle.tacho_reading.proofs.spans.summaries_of.Goals as goal

pub returns-in_default-clause-cause : goal.returns-in_default-clause-cause
returns-in_default-clause-cause c store all =
    c.in_default.ensures.none.0 refl (all_left told_driver _ _ _ c.in-Some.ensures.steps.0 HasBaseDay (c.loop-row.invariant.fit all)).0

pub loop-row-preserved : goal.loop-row-preserved
loop-row-preserved c = record {
  listed = one_more told_driver _ _ _ c.in-Some.ensures.steps.0 _ _ _ (told_summary c.in-Some-summary_of.summary) _
      (ap (map told_summary) c.in_ok-push.ensures.items
      ∙ map-append told_summary c.loop-row.drivers.items (c.in-Some-summary_of.summary ∷ []))
      c.in-Some-summary_of.ensures.some c.loop-row.invariant.listed;
  fit = λ all. (all_left told_driver _ _ _ c.in-Some.ensures.steps.0 HasBaseDay (c.loop-row.invariant.fit all)).1;
}
