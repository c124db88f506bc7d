use Rattle.tacho_tables.proofs.CallLemmas.{finds}
use Rattle.tacho_tables.proofs.ListingLemmas.{shows_all, reads_all}
use Rattle.tacho_tables.proofs.Statements.{drivers_is}
use Rattle.tacho_tables.proofs.drivers.all.Goals as goal

pub returns : goal.returns
returns g c =
    finds c.all.ensures (λ layout. (drivers_is layout).plain)
    (λ is rows shown a s found made. reads_all a.drivers rows found.items (shows_all _ _ rows is shown a.drivers s.drivers) made)
