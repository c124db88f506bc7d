use Rattle.tacho_evidence.proofs.LateLemmas.{late_sound, late_whole, late_one}
use Rattle.tacho_evidence.proofs.laws.late_evidence.Goals as goal

pub returns-clause-sound : goal.returns-clause-sound
returns-clause-sound c = late_sound

pub returns-clause-whole : goal.returns-clause-whole
returns-clause-whole c = late_whole

pub returns-clause-one : goal.returns-clause-one
returns-clause-one c = late_one
