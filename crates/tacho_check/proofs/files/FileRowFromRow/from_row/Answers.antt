use Rattle.std.proofs.Common.{refl}
use Rattle.tacho_check.proofs.files.FileRowFromRow.from_row.Goals as goal

pub returns : goal.returns
returns c = (
  record { number = c.in-Some.number; part = c.in-Some-number_at.part; file = c.in-Some-bytes_at.bytes.now },
  record { number = c.in-Some.ensures; part = c.in-Some-number_at.ensures; file = c.in-Some-bytes_at.ensures },
  record { number = refl; part = refl; file = c.in-Ok.ensures.items },
)
