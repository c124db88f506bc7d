use Rattle.tacho_rules.proofs.ReportLemmas.{one_report}
use Rattle.tacho_rules.proofs.laws.one_report.Goals as goal

pub returns : goal.returns
returns c = one_report
