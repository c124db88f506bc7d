use Rattle.tacho_http.proofs.AccessLemmas.{own_wants, posts_are_commands}
use Rattle.tacho_http.proofs.laws.drivers_ask_for_their_own.Goals as goal

pub returns-clause-own : goal.returns-clause-own
returns-clause-own c = own_wants

pub returns-clause-posts : goal.returns-clause-posts
returns-clause-posts c = posts_are_commands
