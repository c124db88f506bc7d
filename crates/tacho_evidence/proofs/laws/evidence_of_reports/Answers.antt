use Rattle.tacho_law.specs.Line.{line_of}
use Rattle.tacho_evidence.proofs.ReportLawLemmas.{report_one, report_sound, report_whole}
use Rattle.tacho_evidence.proofs.ChosenLemmas.{in_some_week}
use Rattle.tacho_evidence.proofs.laws.evidence_of_reports.Goals as goal

pub returns-clause-sound : goal.returns-clause-sound
returns-clause-sound c spans base horizon found debts breach lines examined judged =
    report_sound (line_of spans) base horizon found debts judged breach lines

pub returns-clause-whole : goal.returns-clause-whole
returns-clause-whole c spans base horizon found debts breach examined judged =
    report_whole (line_of spans) base horizon found debts judged breach (in_some_week spans base horizon examined)

pub returns-clause-one : goal.returns-clause-one
returns-clause-one c spans base horizon found debts breach lines others examined judged =
    report_one (line_of spans) base horizon found debts judged breach lines others
