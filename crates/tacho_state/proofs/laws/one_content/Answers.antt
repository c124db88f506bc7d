use Rattle.tacho_state.proofs.ContentLemmas.{some_content, one_content}
use Rattle.tacho_state.proofs.laws.one_content.Goals as goal

pub returns : goal.returns
returns c = record { some = some_content; one = one_content }
