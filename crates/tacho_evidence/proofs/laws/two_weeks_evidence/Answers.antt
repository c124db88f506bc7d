use Rattle.tacho_evidence.proofs.ReportWeekLemmas.{two_weeks_one, two_weeks_sound, two_weeks_whole}
use Rattle.tacho_evidence.proofs.laws.two_weeks_evidence.Goals as goal

pub returns-clause-sound : goal.returns-clause-sound
returns-clause-sound c = two_weeks_sound

pub returns-clause-whole : goal.returns-clause-whole
returns-clause-whole c = two_weeks_whole

pub returns-clause-one : goal.returns-clause-one
returns-clause-one c = two_weeks_one
