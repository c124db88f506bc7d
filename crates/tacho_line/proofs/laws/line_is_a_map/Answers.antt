use Rattle.tacho_line.proofs.LineLemmas.{line_map}
use Rattle.tacho_line.proofs.laws.line_is_a_map.Goals as goal

pub returns : goal.returns
returns c = line_map
