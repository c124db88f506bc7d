use Rattle.std.proofs.Common.{rules, Ok, not, ap, ◌∙◌}
use Rattle.tacho_check.proofs.AloneLemmas.{alone_tells}
use Rattle.tacho_check.proofs.current.ask_current.Goals as goal

pub returns-in-Ok-clause-current : goal.returns-in-Ok-clause-current
returns-in-Ok-clause-current g c =
    let settled = c.is_autocommit-settled.ensures in
    let read = c.ask_current_in-found in
    let asked = c.in-Ok.ensures.asks in
    alone_tells g.S.Store c.args.conn.now c.transaction-tx.result.conn read.new.tx.conn _ c.ask.new.conn c.transaction-tx.ensures.begun
    (settled.settled (settled.value ∙ ap not c.requires)) read.result read.ensures.reads (Ok c.in-Ok.field-0) asked (search rules)
    (search rules) c.map_err.result asked.live _ c.map_err.ensures.cases read.ensures.found
