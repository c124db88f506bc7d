use Rattle.tacho_evidence.proofs.ChoiceEvidenceLemmas.{choice_one}
use Rattle.tacho_evidence.proofs.ReportWeekLemmas.{choice_sound, choice_whole}
use Rattle.tacho_evidence.proofs.laws.choice_evidence.Goals as goal

pub returns-clause-sound : goal.returns-clause-sound
returns-clause-sound c = choice_sound

pub returns-clause-whole : goal.returns-clause-whole
returns-clause-whole c = choice_whole

pub returns-clause-one : goal.returns-clause-one
returns-clause-one c = choice_one
