use Rattle.tacho_carry.proofs.LimitLemmas.{carried_within, created_within, entered_within, imported_within, ordered_within}
use Rattle.tacho_carry.proofs.LimitLemmas.{rebased_within, registered_within, rekeyed_within, renamed_within, withdrawn_within}
use Rattle.tacho_carry.proofs.laws.states_stay_within_limits.Goals as goal

pub returns : goal.returns
returns c = record {
  created = created_within;
  registered = registered_within;
  imported = imported_within;
  entered = entered_within;
  withdrawn = withdrawn_within;
  rebased = rebased_within;
  rekeyed = rekeyed_within;
  renamed = renamed_within;
  carried = carried_within;
  ordered = ordered_within;
}
