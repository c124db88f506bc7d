use Rattle.tacho_sheet.proofs.FilledTextLemmas.{filled_is_read}
use Rattle.tacho_sheet.proofs.laws.a_filled_form_is_read.Goals as goal

pub returns : goal.returns
returns c = filled_is_read c.civil_dates.ensures c.minute_is_read_back.ensures
