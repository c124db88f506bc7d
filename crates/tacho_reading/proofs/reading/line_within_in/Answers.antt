use Rattle.std.proofs.Common.{rules}
use Rattle.tacho_reading.proofs.LookUpLemmas.{handed_on, unknown_refuses}
use Rattle.tacho_reading.proofs.ReadingLemmas.{nobody}
use Rattle.tacho_reading.proofs.LineWithinLemmas.{range_told}
use Rattle.tacho_reading.proofs.TellLemmas.{tells_handed, tells_then, tells_weaker}
use Rattle.tacho_reading.proofs.reading.line_within_in.Goals as goal

pub returns-in_err-driver_with : goal.returns-in_err-driver_with
returns-in_err-driver_with g c = tells_handed c.in_err-driver_with.ensures c.from_residual.ensures (λ db s stands unknown. (
  handed_on _ _ c.from_residual.result _ (unknown_refuses c.args.driver s _ _ (nobody c.args.driver s _) unknown) c.from_residual.ensures,
  search rules,
))

pub returns : goal.returns
returns g c = tells_weaker (tells_then c.in_ok-driver_with.ensures c.line_near.ensures) (λ db s stands (it, near).
    range_told db s c.args.driver it.found.0 c.args.start c.args.past c.line_near.result stands it.found.1
    (rw (c.number.ensures.value, c.number-2.ensures.value) at near))
