use Rattle.tacho_evidence.proofs.DebtLemmas.{debt_sound, debt_whole, debt_one}
use Rattle.tacho_evidence.proofs.laws.debt_evidence.Goals as goal

pub returns-clause-sound : goal.returns-clause-sound
returns-clause-sound c = debt_sound

pub returns-clause-whole : goal.returns-clause-whole
returns-clause-whole c = debt_whole

pub returns-clause-one : goal.returns-clause-one
returns-clause-one c = debt_one
