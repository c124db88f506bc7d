use Rattle.std.proofs.Common.{◌∙◌, sym}
use Rattle.std.proofs.lemmas.Result.{on_ok_weaker}
use Rattle.sqlite.specs.Held.{state}
use Rattle.tacho_check.proofs.CurrentLemmas.{none_stored, no_old_entries}
use Rattle.tacho_check.proofs.LearnLemmas.{learned, learned_none}
use Rattle.tacho_check.proofs.current.ask_old_entries.Goals as goal

pub returns : goal.returns
returns g c =
    let db = (state g.S.Store c.args.tx.now.conn.now).now.trees in
    learned c.in_ok-rows.rows c.ask_no_rows.result c.in_ok-rows.ensures
    (λ is shown. on_ok_weaker c.ask_no_rows.result
    (λ none. no_old_entries is.layout db (none_stored db c.in_ok-rows.rows.items shown (sym c.deref.ensures.value ∙ none)))
    c.ask_no_rows.ensures)

pub returns-in_err-rows : goal.returns-in_err-rows
returns-in_err-rows g c = learned_none _ c.from_residual.result c.in_err-rows.ensures c.from_residual.ensures.0
