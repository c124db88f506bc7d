use Rattle.std.proofs.Common.{rules, arith, ap, ◌+◌, ◌-◌}
use Rattle.tacho_reading.proofs.LookUpLemmas.{given_up, handed_on}
use Rattle.tacho_reading.proofs.TellLemmas.{answers_handed, tells_as, tells_then, unknown_answers}
use Rattle.tacho_store.proofs.ListingLemmas.{none_listed, listed_then, listed_last}
use Rattle.tacho_store.proofs.files.files_in.Goals as goal
use Rattle.tacho_store.proofs.files.files_in.Goals.{else-loop-number-test, then-loop-number-test+in_ok-file+in_ok-push+else-number-number-end}

pub returns-in_err-stored : goal.returns-in_err-stored
returns-in_err-stored g c = unknown_answers _ _ _ c.in_err-stored.ensures c.from_residual.ensures

pub loop-number-init : goal.loop-number-init
loop-number-init g c = (
  omega arith,
  tells_as c.in_ok-stored.ensures tt (λ db s stands it.
      none_listed c.args.driver c.in_ok-stored.stored _ s it.found.0 c.new-files.ensures.items it.found.1 it.found.2),
)

pub returns-in_err-file : goal.returns-in_err-file
returns-in_err-file g c = answers_handed _ _ (tells_then c.loop-number.invariant.1 c.in_err-file.ensures.told)
    c.from_residual-in_err-file.ensures (λ db s stands told. given_up _ _ c.in_err-file.ensures.refused)

pub returns-in_err-push : goal.returns-in_err-push
returns-in_err-push g c = tells_as (tells_then c.loop-number.invariant.1 c.in_ok-file.ensures.told) (search rules)
    (λ db s stands told. handed_on _ _ c.from_residual-in_err-push.result _ tt c.from_residual-in_err-push.ensures)

pub loop-number-preserved : goal.loop-number-preserved
loop-number-preserved g c = (
  omega arith,
  listed_then c.args.driver c.in_ok-stored.stored.downloads c.loop-number.number c.loop-number.files c.push.new.self c.in_ok-file.file
      c.loop-number.invariant.0 c.loop-number.invariant.1 c.in_ok-file.ensures.told c.in_ok-push.ensures.items,
)

pub returns : goal.returns
returns g c = elim c.loop-number-test.branch [
  | else-loop-number-test w ↦
      let one = c.loop-number.invariant.0 in
      let end = w.loop-number-test.false in
      listed_last c.args.driver c.in_ok-stored.stored.downloads (c.loop-number.number - 1) c.loop-number.files _ (omega (arith, one, end))
      c.loop-number.invariant.1 (ap (λ t. t.conn) w.tx-is) w.files-is
  | then-loop-number-test+in_ok-file+in_ok-push+else-number-number-end w ↦
      listed_last c.args.driver c.in_ok-stored.stored.downloads (c.loop-number.number + 1 - 1) w.push.new.self _ (omega arith)
      (listed_then c.args.driver c.in_ok-stored.stored.downloads c.loop-number.number c.loop-number.files w.push.new.self w.in_ok-file.file
      c.loop-number.invariant.0 c.loop-number.invariant.1 w.in_ok-file.ensures.told w.in_ok-push.ensures.items)
      (ap (λ t. t.conn) w.tx-is) w.files-is
]
