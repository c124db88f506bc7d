use Rattle.tacho_tables.specs.declared.table.TableName.TheVariants.{Held}
use Rattle.tacho_check.proofs.OwnLemmas.{sound_own, own_sound}
use Rattle.tacho_check.proofs.laws.judged_rows.Goals as goal

pub returns-clause-sound : goal.returns-clause-sound
returns-clause-sound c layout db n it = own_sound layout db Held n it

pub returns-clause-unsound : goal.returns-clause-unsound
returns-clause-unsound c layout db n k it = record {
  unsound = λ sound. it.0 (sound_own layout db k n sound);
  before = λ j first. own_sound layout db j n (it.1 j first);
}
