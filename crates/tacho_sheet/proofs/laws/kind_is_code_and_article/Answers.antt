use Rattle.tacho_sheet.proofs.MonthLemmas.{kind_told}
use Rattle.tacho_sheet.proofs.laws.kind_is_code_and_article.Goals as goal

pub returns : goal.returns
returns c = kind_told
