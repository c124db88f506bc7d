use Rattle.tacho_tables.proofs.CallLemmas.{changes}
use Rattle.tacho_tables.proofs.DriverLemmas.{sets_key}
use Rattle.tacho_tables.proofs.drivers.set_key.Goals as goal

pub returns : goal.returns
returns g c =
    changes (rw (c.params-to_sql.ensures, c.params-to_sql-2.ensures) at c.run.ensures) (λ is count ran. sets_key _ _ c.args.driver c.args.secret.now count is ran)
