use Rattle.tacho_evidence.proofs.ReportWeekLemmas.{week_one, week_sound, week_whole}
use Rattle.tacho_evidence.proofs.laws.week_evidence.Goals as goal

pub returns-clause-sound : goal.returns-clause-sound
returns-clause-sound c = week_sound

pub returns-clause-whole : goal.returns-clause-whole
returns-clause-whole c = week_whole

pub returns-clause-one : goal.returns-clause-one
returns-clause-one c = week_one
