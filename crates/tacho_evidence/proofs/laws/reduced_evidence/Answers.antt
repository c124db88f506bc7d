use Rattle.tacho_evidence.proofs.ReducedLemmas.{reduced_sound, reduced_whole, reduced_one}
use Rattle.tacho_evidence.proofs.laws.reduced_evidence.Goals as goal

pub returns-clause-sound : goal.returns-clause-sound
returns-clause-sound c = reduced_sound

pub returns-clause-whole : goal.returns-clause-whole
returns-clause-whole c = reduced_whole

pub returns-clause-one : goal.returns-clause-one
returns-clause-one c = reduced_one
