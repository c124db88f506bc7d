use Rattle.tacho_desk.proofs.ArgumentLemmas.{as_listed}
use Rattle.tacho_desk.proofs.laws.arguments_are_read_as_listed.Goals as goal

pub returns : goal.returns
returns c = as_listed
