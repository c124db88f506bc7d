use Rattle.tacho_tables.proofs.CallLemmas.{changes}
use Rattle.tacho_tables.proofs.DriverLemmas.{sets_name}
use Rattle.tacho_tables.proofs.drivers.set_name.Goals as goal

pub returns : goal.returns
returns g c =
    changes (rw (c.params-to_sql.ensures, c.params-to_sql-2.ensures) at c.run.ensures) (λ is count ran. sets_name _ _ c.args.driver c.args.name.now count is ran)
