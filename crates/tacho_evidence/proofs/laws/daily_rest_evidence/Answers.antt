use Rattle.tacho_evidence.proofs.RestsWithinLemmas.{daily_sound, daily_whole, daily_one}
use Rattle.tacho_evidence.proofs.laws.daily_rest_evidence.Goals as goal

pub returns-clause-sound : goal.returns-clause-sound
returns-clause-sound c = daily_sound

pub returns-clause-whole : goal.returns-clause-whole
returns-clause-whole c = daily_whole

pub returns-clause-one : goal.returns-clause-one
returns-clause-one c = daily_one
