use Rattle.std.proofs.Common.{rules, refl}
use Rattle.std.proofs.lemmas.Result.{IfOk-weaker}
use Rattle.tacho_reading.proofs.SummaryLemmas.{drivers_told}
use Rattle.tacho_reading.proofs.TellLemmas.{tells_as, tells_rows}
use Rattle.tacho_reading.proofs.TimelineLemmas.{told_or_gave_up}
use Rattle.tacho_reading.proofs.reading.drivers_in.Goals as goal

pub returns : goal.returns
returns g c = tells_as (tells_rows c.all.ensures c.in_ok-rows.ensures.cases) (search rules) (λ db s stands read. (
  told_or_gave_up _ c.summaries_of.result _ (IfOk-weaker c.summaries_of.result _ _ (λ found _. refl) c.summaries_of.ensures.drivers)
      c.summaries_of.ensures.fault,
  drivers_told (λ found. found.items) db s c.in_ok-rows.rows.items c.summaries_of.result stands read c.summaries_of.ensures.drivers,
))
