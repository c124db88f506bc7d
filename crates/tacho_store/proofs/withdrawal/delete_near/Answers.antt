use Rattle.std.proofs.Common.{rules, sym, subst}
use Rattle.std.proofs.lemmas.Result.{on_ok_weaker}
use Rattle.sqlite.specs.Effect.{Database}
use Rattle.sqlite.specs.Held.{state}
use Rattle.tacho_tables.specs.Tables.{HasTables, IsArchive}
use Rattle.tacho_reading.proofs.ApartLemmas.{left_begun}
use Rattle.tacho_store.proofs.withdrawal.delete_near.Goals as goal

pub returns : goal.returns
returns g c = record {
  stays = search rules;
  keeps = search rules;
  schema = λ clean schema.
      let same = c.in_ok-before.ensures.reads.same (c.delete_begun.ensures.stays.clean clean) schema in
      on_ok_weaker c.delete_begun.result (λ turned. turned.schema)
      (c.delete_begun.ensures.turned clean (subst IsArchive (sym same.0.now_is) schema));
  turned = λ clean schema t stand apart.
      let clean_1 = c.delete_begun.ensures.stays.clean clean in
      let now = state g.S.Store c.delete_begun.new.tx.conn.now in
      let same = c.in_ok-before.ensures.reads.same clean_1 schema in
      let schema_2 = subst IsArchive (sym same.0.now_is) schema in
      let left = left_begun c.args.driver c.args.start c.args.past t.held apart c.in_ok-before.before
      (c.in_ok-before.ensures.found clean_1 schema t stand) in
      on_ok_weaker c.delete_begun.result (λ turned.
      subst (λ rows. HasTables now.now.trees (record t { held = rows })) left
      (rw c.first_start.ensures at (turned.stands t (subst (λ (d : Database). HasTables d.trees t) (sym same.0.now_is) stand))))
      (c.delete_begun.ensures.turned clean schema_2);
}
