use Rattle.tacho_reading.proofs.KeyLemmas.{is_nobodys, is_theirs}
use Rattle.tacho_reading.proofs.laws.a_changed_key.Goals as goal

pub returns : goal.returns
returns c = record { theirs = is_theirs; before = is_nobodys }
