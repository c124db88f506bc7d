use Rattle.tacho_reading.proofs.NearRowLemmas.{read_line}
use Rattle.tacho_reading.proofs.laws.rows_are_near.Goals as goal

pub returns : goal.returns
returns c = read_line
