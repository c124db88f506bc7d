use Rattle.tacho_sheet.specs.Months.{is_examined}
use Rattle.tacho_sheet.proofs.ColumnLemmas.{all_pass}
use Rattle.tacho_sheet.proofs.laws.a_month_is_examined_whole.Goals as goal

pub returns : goal.returns
returns c = λ stretches start n whole m from past. all_pass (is_examined stretches) start n whole m from past
