use Rattle.std.proofs.Common.{rules}
use Rattle.sqlite.specs.Held.{state}
use Rattle.sqlite.specs.State.{HasCleanDisk}
use Rattle.tacho_check.proofs.checking.check_drivers.Goals as goal

pub returns-in-Ok-read_within-clause-checks : goal.returns-in-Ok-read_within-clause-checks
returns-in-Ok-read_within-clause-checks g c = record {
  clean = search rules;
  was_open = search rules;
  live = search rules;
  same = search rules;
  survives = search rules;
  found = λ clean is.
      let before : HasCleanDisk (state g.S.Store c.checked_in.new.tx.conn.now) = search rules in
      (rw c.read_within-transaction.ensures.begun at c.checked_in.ensures.asks.found before) is;
}
