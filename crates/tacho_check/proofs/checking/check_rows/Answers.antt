use Rattle.tacho_check.proofs.StoreLemmas.{checks_then}
use Rattle.tacho_check.proofs.checking.check_rows.Goals as goal

pub returns-clause-checks : goal.returns-clause-checks
returns-clause-checks g c =
    checks_then g.S.Store c.args.conn.now c.ask_current.new.conn c.check_drivers.new.conn _ _ _
    c.in_ok-ask_current.field-0 c.check_drivers.result c.in_ok-ask_current.ensures.current c.check_drivers.ensures.checks
    (λ layout db sound current found checked numbered. checked (record {
      sound = sound;
      meta = current.0;
      old_entries = current.1;
      numbered = numbered;
    }))
