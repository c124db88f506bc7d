use Rattle.tacho_evidence.proofs.BreakLemmas.{break_sound, break_whole, break_one}
use Rattle.tacho_evidence.proofs.laws.break_evidence.Goals as goal

pub returns-clause-sound : goal.returns-clause-sound
returns-clause-sound c = break_sound

pub returns-clause-whole : goal.returns-clause-whole
returns-clause-whole c = break_whole

pub returns-clause-one : goal.returns-clause-one
returns-clause-one c = break_one
