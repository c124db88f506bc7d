use Rattle.std.proofs.Common.{refl}
use Rattle.tacho_sheet.proofs.ValueLemmas.{no_key_line}
use Rattle.tacho_sheet.proofs.value.read_key_line.Goals as goal

pub returns-in-None : goal.returns-in-None
returns-in-None c = (refl, no_key_line c.args.text.now c.without_end.result.now c.without_end.ensures c.in-None.ensures)
