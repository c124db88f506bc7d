use Rattle.tacho_choice.proofs.LawfulLemmas.{reach_law, start_law, serve_law}
use Rattle.tacho_choice.proofs.laws.choices_reach.Goals as goal

pub returns : goal.returns
returns c = record { step = reach_law; start = start_law; serve = serve_law }
