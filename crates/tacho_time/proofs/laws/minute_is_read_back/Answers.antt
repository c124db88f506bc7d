use Rattle.tacho_time.proofs.ReadBackLemmas.{minute_texts}
use Rattle.tacho_time.proofs.laws.minute_is_read_back.Goals as goal

pub returns : goal.returns
returns c = minute_texts
