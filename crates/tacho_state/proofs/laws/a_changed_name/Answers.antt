use Rattle.tacho_state.proofs.NameLemmas.{is_named, same_line, same_owner, others_stay}
use Rattle.tacho_state.proofs.laws.a_changed_name.Goals as goal

pub returns : goal.returns
returns c = record {
  name = λ n name s. is_named n name s;
  line = λ n i name s. same_line n name s i;
  key = λ n name key s. same_owner n name s key;
  others = λ n i name s other. others_stay n name s i other;
}
