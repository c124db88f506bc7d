use Rattle.tacho_reading.proofs.LookUpLemmas.{given_up, unknown_refuses}
use Rattle.tacho_reading.proofs.TellLemmas.{found_handed, tells_as, tells_rows, tells_then}
use Rattle.tacho_store.proofs.WithdrawalLemmas.{no_driver, entry_found, entry_told, kept_no_file}
use Rattle.tacho_store.proofs.withdrawal.entry_with.Goals as goal

pub returns-in_err-driver_with : goal.returns-in_err-driver_with
returns-in_err-driver_with g c = found_handed c.in_err-driver_with.ensures c.from_residual.ensures
    (λ db s stands. unknown_refuses c.args.driver s _ _ (no_driver c.args.driver c.args.number s))

pub returns-in_err-found : goal.returns-in_err-found
returns-in_err-found g c = found_handed (tells_then c.in_ok-driver_with.ensures (tells_rows c.by_number.ensures c.in_err-found.ensures.cases))
    c.from_residual-in_err-found.ensures (λ db s stands (it, up). given_up _ _ up)

pub returns : goal.returns
returns g c = tells_as (tells_then c.in_ok-driver_with.ensures (tells_rows c.by_number.ensures c.in_ok-found.ensures.cases))
    (kept_no_file c.in_ok-found.found c.kept_entry.result c.kept_entry.ensures)
    (λ db s stands (it, read). entry_told c.args.driver c.args.number s it.found.0 it.found.1 c.in_ok-found.found c.kept_entry.result
    c.kept_entry.ensures (entry_found db s c.args.driver c.args.number it.found.0 c.in_ok-found.found stands it.found.1 read))
