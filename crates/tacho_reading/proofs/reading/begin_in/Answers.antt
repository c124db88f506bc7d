use Rattle.std.proofs.Common.{rules}
use Rattle.tacho_reading.proofs.LookUpLemmas.{handed_on, unknown_refuses}
use Rattle.tacho_reading.proofs.ReadingLemmas.{nobody}
use Rattle.tacho_reading.proofs.ReportLemmas.{somebody}
use Rattle.tacho_reading.proofs.BegunLemmas.{is_begun}
use Rattle.tacho_reading.proofs.TellLemmas.{tells_as, tells_handed, tells_rows, tells_then}
use Rattle.tacho_reading.proofs.reading.begin_in.Goals as goal

pub returns-in_err-stored-clause-begun : goal.returns-in_err-stored-clause-begun
returns-in_err-stored-clause-begun g c = tells_handed c.in_err-stored.ensures c.from_residual.ensures (λ db s stands unknown. (
  handed_on _ _ c.from_residual.result _ (unknown_refuses c.args.driver s _ _ (nobody c.args.driver s _) unknown) c.from_residual.ensures,
  search rules,
))

pub returns-clause-begun : goal.returns-clause-begun
returns-clause-begun g c =
    tells_as (tells_then c.in_ok-stored.ensures (tells_rows c.last_before.ensures c.in_ok-before.ensures.cases)) tt (λ db s stands (it, read). (
      somebody c.args.driver s it.found.0 it.found.1,
      is_begun db c.args.driver s it.found.0 c.in_ok-stored.stored c.in-Some.base c.args.from c.min-first.result c.first_start.result
          c.in_ok-before.before it.found.1 it.found.2
          c.in-Some.ensures.some.0 (rw (c.number.ensures.value, c.number-2.ensures.value) at c.min-first.ensures)
          c.first_start.ensures read,
    ))

pub returns-in_err-before-clause-begun : goal.returns-in_err-before-clause-begun
returns-in_err-before-clause-begun g c =
    tells_handed (tells_then c.in_ok-stored.ensures (tells_rows c.last_before.ensures c.in_err-before.ensures.cases))
    c.from_residual-in_err-before.ensures (λ db s stands told. search rules)
