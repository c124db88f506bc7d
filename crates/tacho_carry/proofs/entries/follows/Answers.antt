use Rattle.std.proofs.Common.{rules}
use Rattle.tacho_carry.proofs.EntryLemmas.{one_more_in_order}
use Rattle.tacho_carry.proofs.entries.follows.Goals as goal

pub returns-in-Some : goal.returns-in-Some
returns-in-Some c ok = one_more_in_order c.args.batch.now c.in-Some.last.now c.args.line.now (search rules) (search rules)
