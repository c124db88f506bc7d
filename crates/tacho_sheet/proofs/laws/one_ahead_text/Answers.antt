use Rattle.tacho_sheet.proofs.AheadLemmas.{never_late, one_ahead}
use Rattle.tacho_sheet.proofs.laws.one_ahead_text.Goals as goal

pub returns-clause-one : goal.returns-clause-one
returns-clause-one c = one_ahead

pub returns-clause-in_time : goal.returns-clause-in_time
returns-clause-in_time c = never_late
