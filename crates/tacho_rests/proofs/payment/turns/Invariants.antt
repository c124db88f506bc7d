use Rattle.std.proofs.Common.{◌≡◌, take, drop}
use Rattle.tacho_rests.specs.Paying.{turns}
use Rattle.tacho_rests.proofs.payment.turns.Given as goal

abbrev pub invariant-loop-rest : goal.invariant-loop-rest
invariant-loop-rest l = turns l.end l.main l.owed (drop l.rest-index l.rests) (take l.after.count l.after.slots) ≡ turns
    l.end l.main l.owed l.rests (take l.debts.count l.debts.slots)
