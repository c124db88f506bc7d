use Rattle.tacho_time.proofs.ReadBackLemmas.{day_texts}
use Rattle.tacho_time.proofs.laws.day_is_read_back.Goals as goal

pub returns : goal.returns
returns c = day_texts
