use Rattle.tacho_ahead.proofs.MarkLemmas.{outlook_same}
use Rattle.tacho_ahead.proofs.laws.outlook_is_by_marks.Goals as goal

pub returns : goal.returns
returns c = outlook_same
