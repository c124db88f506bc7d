use Rattle.tacho_carry.proofs.SoundLemmas.{carried_sound, ordered_sound}
use Rattle.tacho_carry.proofs.StepLemmas.{created_sound, entered_sound, imported_sound, rebased_sound, registered_sound}
use Rattle.tacho_carry.proofs.StepLemmas.{rekeyed_sound, renamed_sound, withdrawn_sound}
use Rattle.tacho_carry.proofs.laws.states_are_sound.Goals as goal

pub returns : goal.returns
returns c = record {
  created = created_sound;
  registered = registered_sound;
  imported = imported_sound;
  entered = entered_sound;
  withdrawn = withdrawn_sound;
  rebased = rebased_sound;
  rekeyed = rekeyed_sound;
  renamed = renamed_sound;
  carried = carried_sound;
  ordered = ordered_sound;
}
