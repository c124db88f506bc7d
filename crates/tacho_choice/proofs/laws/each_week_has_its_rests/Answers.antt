use Rattle.tacho_choice.proofs.LawfulLemmas.{rests_there, rests_only}
use Rattle.tacho_choice.proofs.laws.each_week_has_its_rests.Goals as goal

pub returns : goal.returns
returns c = record { some = rests_there; one = rests_only }
