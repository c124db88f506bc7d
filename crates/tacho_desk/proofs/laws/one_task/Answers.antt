use Rattle.tacho_desk.proofs.WordLemmas.{task_once}
use Rattle.tacho_desk.proofs.laws.one_task.Goals as goal

pub returns : goal.returns
returns c want caller driver word next a b x y = task_once want caller driver word next a b x y
