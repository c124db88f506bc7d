use Rattle.tacho_rules.proofs.ReportExistLemmas.{some_report}
use Rattle.tacho_rules.proofs.laws.each_line_has_a_report.Goals as goal

pub returns : goal.returns
returns c = some_report
