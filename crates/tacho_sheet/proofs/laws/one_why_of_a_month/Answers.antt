use Rattle.tacho_sheet.proofs.WhyLawLemmas.{one_why}
use Rattle.tacho_sheet.proofs.laws.one_why_of_a_month.Goals as goal

pub returns : goal.returns
returns c = one_why
