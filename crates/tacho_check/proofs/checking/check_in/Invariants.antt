use Rattle.std.proofs.Common.{ℤ, List, take, Ok}
use Rattle.tacho_tables.specs.Schema as made
use Rattle.tacho_tables.specs.declared.fault.TableFault.{TableFault}
use Rattle.tacho_tables.specs.Ask.{LearnsIfReadable}
use Rattle.tacho_check.specs.Checked.{AreSoundIn}
use Rattle.tacho_check.specs.Numbers.{AreAllNumbers}
use Rattle.tacho_check.proofs.checking.check_in.Given as goal

-- these are the numbers of all drivers, the rows of the drivers so far are sound, and nothing has changed
abbrev pub invariant-loop-number : goal.invariant-loop-number
invariant-loop-number g l = LearnsIfReadable g.S.Store l.fn.tx.conn l.tx.conn {A = List ℤ} {E = TableFault} (Ok l.number-items)
    (λ layout db numbers. AreAllNumbers (db made.driver_rows) numbers × AreSoundIn layout db (take l.number-index numbers))
