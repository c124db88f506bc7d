use Rattle.std.proofs.Common.{rules, subst, sym}
use Rattle.std.specs.Prelude.{IsTrue}
use Rattle.sqlite.specs.Held.{Held, state}
use Rattle.sqlite.specs.State.{HasCleanDisk}
use Rattle.tacho_state.specs.declared.imported.Imported.{Imported}
use Rattle.tacho_tables.specs.Tables.{IsArchive}
use Rattle.tacho_reading.specs.Standing.{Represents}
use Rattle.tacho_store.proofs.StepsLemmas.{answers_if, undone_answers, undone_keeps}
use Rattle.tacho_store.proofs.import.import.Goals as goal

pub returns-in-Ok-act_within-act_within-clause-acts : goal.returns-in-Ok-act_within-act_within-clause-acts
returns-in-Ok-act_within-act_within-clause-acts g c = search (rules, undone_keeps)

pub returns-in-Err-act_within-clause-acts : goal.returns-in-Err-act_within-clause-acts
returns-in-Err-act_within-clause-acts g c = record {
  clean = search rules;
  answer = λ clean s stands.
      let was : HasCleanDisk (state g.S.Store c.import_in.new.tx.conn.now) = search rules in
      let begun = c.act_within-transaction.ensures.begun in
      let steps = c.import_in.ensures.steps in
      undone_answers {A = Imported} (λ done. done) _ _ _ _ c.act_within-undone.ensures (answers_if _ _ c.import_in.result _ c.in-Err-act_within.is steps.goes.of_no_file (λ answered.
      (let live = subst (λ (h : Held _). IsTrue (state g.S.Store h).is_open) begun (steps.goes.live was answered) in
      let sees = stands live in
      steps.answer was (subst (λ (h : Held _). IsArchive (state g.S.Store h).now) (sym begun) sees.0) s
      (subst (λ (h : Held _). Represents (state g.S.Store h).now.trees s) (sym begun) sees.1))));
  state = search rules;
  same = search rules;
  others = search (rules, undone_keeps);
  answered = search rules;
  was_live = search rules;
  live = search rules;
  crash = search rules;
  shut = search rules;
  refused = search rules;
  kept = search rules;
}
