use Rattle.tacho_time.proofs.CanonicalLemmas.{merged_means, merge_result}
use Rattle.tacho_time.proofs.canonical.merge_ordered.Goals as goal

pub returns : goal.returns
returns c = merge_result (λ runs. runs.items) c.args.spans.now c.merge.result (merged_means c.args.spans.now c.requires) c.merge.ensures
