use Rattle.std.proofs.Common.{ap, ◌∙◌}
use Rattle.tacho_line.specs.Walk.{horizon_from}
use Rattle.tacho_line.proofs.HorizonLemmas.{horizon_is}
use Rattle.tacho_line.proofs.horizon.horizon_of.Goals as goal

pub returns : goal.returns
returns c = horizon_is c.args.base c.args.spans.now c.first_break.result c.requires (c.first_break.ensures ∙ ap (horizon_from c.args.base) c.behind.ensures)
