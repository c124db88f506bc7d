use Rattle.tacho_time.proofs.ReadBackLemmas.{month_texts}
use Rattle.tacho_time.proofs.laws.month_is_read_back.Goals as goal

pub returns : goal.returns
returns c = month_texts
