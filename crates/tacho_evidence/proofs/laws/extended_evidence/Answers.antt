use Rattle.tacho_evidence.proofs.ExistLemmas.{driven_exist}
use Rattle.tacho_evidence.proofs.ExtendedLemmas.{extended_sound, extended_whole, extended_one}
use Rattle.tacho_evidence.proofs.laws.extended_evidence.Goals as goal

pub returns-clause-sound : goal.returns-clause-sound
returns-clause-sound c = extended_sound

pub returns-clause-whole : goal.returns-clause-whole
returns-clause-whole c = extended_whole driven_exist

pub returns-clause-one : goal.returns-clause-one
returns-clause-one c = extended_one
