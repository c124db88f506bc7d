use Rattle.std.proofs.Common.{◌∙◌, sym, true≢false}
use Rattle.sqlite.specs.Held.{state}
use Rattle.tacho_check.proofs.CurrentLemmas.{made_has_none}
use Rattle.tacho_check.proofs.LearnLemmas.{is_made, learned_as}
use Rattle.tacho_check.proofs.current.ask_current_in.Goals as goal

pub returns-else-is_carried : goal.returns-else-is_carried
returns-else-is_carried g c =
    let old = state g.S.Store c.args.tx.now.conn.now in
    learned_as c.ask_meta.result c.ask_meta.ensures
    (λ is _ version. (
      version,
      made_has_none is.layout old.now.trees (is_made old is
          (λ carried. true≢false (sym (c.requires.1 carried) ∙ c.if-is_carried.false))),
    ))
