use Rattle.tacho_http.proofs.PartLemmas.{before_last, no_front}
use Rattle.tacho_http.proofs.places.front_of.Goals as goal

pub returns-in-Some : goal.returns-in-Some
returns-in-Some c = before_last c.args.path.now c.in-Some.slash c.in-Some.ensures.0 c.in-Some.ensures.1

pub returns-in-None : goal.returns-in-None
returns-in-None c = no_front c.args.path.now c.in-None.ensures
