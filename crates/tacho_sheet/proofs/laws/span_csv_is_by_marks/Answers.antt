use Rattle.tacho_sheet.proofs.MarkLemmas.{span_csv_same}
use Rattle.tacho_sheet.proofs.laws.span_csv_is_by_marks.Goals as goal

pub returns : goal.returns
returns c = span_csv_same
