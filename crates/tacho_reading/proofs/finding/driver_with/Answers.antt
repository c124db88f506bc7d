use Rattle.std.proofs.Common.{rules, sym, subst}
use Rattle.tacho_reading.specs.Finding.{IsDriver}
use Rattle.tacho_reading.proofs.LookUpLemmas.{driver_found, found_on, given_up}
use Rattle.tacho_reading.proofs.TellLemmas.{tells_as, tells_handed}
use Rattle.tacho_reading.proofs.finding.driver_with.Goals as goal

pub returns : goal.returns
returns g c = tells_as c.in_ok-found.ensures (search rules)
    (λ db s stands found. subst (IsDriver s c.args.number) (sym c.known.ensures) (driver_found c.args.number s c.in_ok-found.found found))

pub returns-in_err-found : goal.returns-in_err-found
returns-in_err-found g c = tells_handed c.in_err-found.ensures c.from_residual.ensures
    (λ db s stands up. found_on _ _ _ c.from_residual.result (given_up _ _ up) c.from_residual.ensures)
