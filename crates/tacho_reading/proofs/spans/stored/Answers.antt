use Rattle.std.proofs.Common.{arith}
use Rattle.std.proofs.lemmas.Grind.{common_steps}
use Rattle.std.proofs.lemmas.List.{map-append}
use Rattle.tacho_reading.proofs.spans.stored.Goals as goal

pub loop-span-preserved : goal.loop-span-preserved
loop-span-preserved c n =
    let was = c.loop-span.invariant n in
    let one = c.stored_row.ensures n in
    grind (arith, common_steps, was, one, map-append)
