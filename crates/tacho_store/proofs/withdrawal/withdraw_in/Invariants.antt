use Rattle.tacho_store.proofs.WithdrawnLemmas.{HasWithdrawn}
use Rattle.tacho_store.proofs.withdrawal.withdraw_in.Given as goal

abbrev pub invariant-loop-number : goal.invariant-loop-number
invariant-loop-number g l = HasWithdrawn g.S.Store l.driver l.first l.number l.fn.tx.conn l.tx.conn
