use Rattle.std.proofs.Common.{rules}
use Rattle.tacho_reading.proofs.MappedLemmas.{on_ok_mapped}
use Rattle.tacho_store.proofs.EmptyLemmas.{empty_stands}
use Rattle.tacho_store.proofs.archive.make_in.Goals as goal

pub returns-clause-makes : goal.returns-clause-makes
returns-clause-makes g c = record {
  stays = search rules;
  keeps = search rules;
  made = λ clean blank.
      on_ok_mapped c.make_all.result c.map_err.result _ _ _ (λ both. (both.0, empty_stands _ both.1)) c.map_err.ensures.cases
      (c.make_all.ensures.made clean blank);
}
