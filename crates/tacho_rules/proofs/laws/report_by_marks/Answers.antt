use Rattle.tacho_rules.proofs.ReportLemmas.{report_by_marks}
use Rattle.tacho_rules.proofs.laws.report_by_marks.Goals as goal

pub returns : goal.returns
returns c = report_by_marks
