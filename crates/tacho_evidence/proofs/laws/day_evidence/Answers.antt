use Rattle.tacho_evidence.proofs.DayLemmas.{day_sound, day_whole, day_one}
use Rattle.tacho_evidence.proofs.laws.day_evidence.Goals as goal

pub returns-clause-sound : goal.returns-clause-sound
returns-clause-sound c = day_sound

pub returns-clause-whole : goal.returns-clause-whole
returns-clause-whole c = day_whole

pub returns-clause-one : goal.returns-clause-one
returns-clause-one c = day_one
