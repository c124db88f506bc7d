use Rattle.tacho_stretches.proofs.EachLemmas.{each_line}
use Rattle.tacho_stretches.proofs.laws.each_line_has_stretches.Goals as goal

pub returns : goal.returns
returns c = each_line
