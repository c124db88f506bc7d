use Rattle.std.proofs.Common.{rules, subst, sym}
use Rattle.sqlite.specs.Effect.{Database}
use Rattle.sqlite.specs.Held.{state}
use Rattle.tacho_tables.specs.Tables.{HasTables}
use Rattle.tacho_tables.proofs.CallLemmas.{stays_then}
use Rattle.sqlite.proofs.InsideLemmas.{keeps_then}
use Rattle.tacho_reading.proofs.MappedLemmas.{on_ok_mapped, answers_mapped}
use Rattle.tacho_reading.proofs.LookUpLemmas.{handed_on}
use Rattle.tacho_reading.specs.Standing.{Represents}
use Rattle.tacho_reading.proofs.SeenLemmas.{still_archive}
use Rattle.tacho_store.proofs.StepsLemmas.{keeps_after}
use Rattle.tacho_store.proofs.WithdrawalLemmas.{changed_then, entry_marked, found_then, withdrawal_renews}
use Rattle.tacho_store.proofs.withdrawal.withdraw_one.Goals as goal

pub returns-in_err-entry : goal.returns-in_err-entry
returns-in_err-entry g c = record {
  goes = search rules;
  schema = search rules;
  answer = λ clean schema s stands.
      handed_on _ _ c.from_residual.result _ (c.in_err-entry.ensures.told clean schema s stands).refused c.from_residual.ensures;
  renewed = search rules;
}

pub returns : goal.returns
unfolding Represents
returns g c =
    let marked = changed_then _ c.withdraw.ensures c.in_ok-map_err.ensures.cases c.in_ok-rows.ensures.found in
    let renewed = found_then _ c.withdraw.ensures c.in_ok-map_err.ensures.cases c.in_ok-rows.ensures.found in record {
      goes = record {
        stays = stays_then c.in_ok-entry.ensures.goes.stays (stays_then marked.stays c.rewrite.ensures.stays);
        keeps = λ clean schema.
            let clean_2 = c.rewrite.ensures.stays.clean clean in
            let clean_1 = marked.stays.clean clean_2 in
            let seen = still_archive _ _ (c.in_ok-entry.ensures.same clean_1 schema) schema in
            keeps_then _ _ _ (c.in_ok-entry.ensures.goes.keeps clean_1 schema)
            (keeps_then _ _ _ (marked.keeps clean_2 seen) (c.rewrite.ensures.keeps clean (marked.schema clean_2 seen)));
        live = λ clean answered. c.in_ok-entry.ensures.goes.live (marked.stays.clean (c.rewrite.ensures.stays.clean clean)) tt;
        of_no_file = search rules;
      };
      schema = λ clean schema.
          let clean_2 = c.rewrite.ensures.stays.clean clean in
          let seen = still_archive _ _ (c.in_ok-entry.ensures.same (marked.stays.clean clean_2) schema) schema in
          on_ok_mapped c.rewrite.result c.map_err-2.result _ _ _ (λ done. done) c.map_err-2.ensures.cases
          (c.rewrite.ensures.schema clean (marked.schema clean_2 seen));
      answer = λ clean schema s stands.
          let clean_1 = marked.stays.clean (c.rewrite.ensures.stays.clean clean) in
          answers_mapped c.rewrite.result c.map_err-2.result _ c.map_err-2.ensures.cases
          (λ _. entry_marked c.args.driver c.args.number s _ (c.in_ok-entry.ensures.told clean_1 schema s stands).found);
      renewed = λ clean schema t s stored of.
          let clean_2 = c.rewrite.ensures.stays.clean clean in
          let clean_1 = marked.stays.clean clean_2 in
          let entry = (c.in_ok-entry.ensures.told clean_1 schema s (t, stored, of)).found in
          let same = c.in_ok-entry.ensures.same clean_1 schema in
          let seen = still_archive _ _ same schema in
          on_ok_mapped c.rewrite.result c.map_err-2.result _ _ _ (λ done. done) c.map_err-2.ensures.cases
          (withdrawal_renews _ (state g.S.Store c.rows_in_place.new.tx.conn.now).now.trees (state g.S.Store c.rewrite.new.tx.conn.now).now.trees t s
          c.args.driver c.args.number c.in_ok-entry.entry c.in_ok-rows.rows.items c.rewrite.result entry
          (subst (λ (d : Database). HasTables d.trees t) (sym same.0.now_is) stored) of (renewed clean_2 seen)
          (marked.turned clean_2 seen) (rw c.deref.ensures.value at (c.rewrite.ensures.turned clean (marked.schema clean_2 seen))));
    }

pub returns-in_err-rows : goal.returns-in_err-rows
returns-in_err-rows g c =
    let marked = changed_then _ c.withdraw.ensures c.in_ok-map_err.ensures.cases c.in_err-rows.ensures.found in record {
      goes = record {
        stays = search rules;
        keeps = keeps_after _ _ _ marked.stays.clean c.in_ok-entry.ensures.same c.in_ok-entry.ensures.goes.keeps marked.keeps;
        live = search rules;
        of_no_file = search rules;
      };
      schema = search rules;
      answer = search rules;
      renewed = search rules;
    }

pub returns-in_err-map_err : goal.returns-in_err-map_err
returns-in_err-map_err g c = record {
  goes = record {
    stays = search rules;
    keeps = keeps_after _ _ _ c.withdraw.ensures.stays.clean c.in_ok-entry.ensures.same c.in_ok-entry.ensures.goes.keeps
        (λ clean schema. c.withdraw.ensures.keeps clean);
    live = search rules;
    of_no_file = search rules;
  };
  schema = search rules;
  answer = search rules;
  renewed = search rules;
}
