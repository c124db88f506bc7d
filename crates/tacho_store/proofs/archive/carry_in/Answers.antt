use Rattle.std.proofs.Common.{rules}
use Rattle.tacho_reading.proofs.MappedLemmas.{on_ok_mapped}
use Rattle.tacho_store.proofs.OldLemmas.{carried_over}
use Rattle.tacho_store.proofs.archive.carry_in.Goals as goal

pub returns-clause-carries : goal.returns-clause-carries
returns-clause-carries g c = record {
  stays = search rules;
  keeps = search rules;
  carried = λ clean schema s stood.
      on_ok_mapped c.carry.result c.map_err.result _ _ _ (λ it. carried_over _ _ s it stood) c.map_err.ensures.cases
      (c.carry.ensures.carried clean schema);
}
