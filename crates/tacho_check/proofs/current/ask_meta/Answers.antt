use Rattle.std.proofs.Common.{◌∙◌, sym}
use Rattle.std.proofs.lemmas.Result.{on_ok_weaker}
use Rattle.sqlite.specs.Held.{state}
use Rattle.tacho_check.proofs.CurrentLemmas.{version_is}
use Rattle.tacho_check.proofs.LearnLemmas.{learned, learned_none}
use Rattle.tacho_check.proofs.current.ask_meta.Goals as goal

pub returns : goal.returns
returns g c =
    let db = (state g.S.Store c.args.tx.now.conn.now).now.trees in
    learned c.in_ok-rows.rows c.ask_rows.result c.in_ok-rows.ensures
    (λ is shown. on_ok_weaker c.ask_rows.result
    (λ rows. version_is is.layout db is.sound c.in_ok-rows.rows.items shown (sym c.deref.ensures.value ∙ rows)) c.ask_rows.ensures)

pub returns-in_err-rows : goal.returns-in_err-rows
returns-in_err-rows g c = learned_none _ c.from_residual.result c.in_err-rows.ensures c.from_residual.ensures.0
