use Rattle.std.proofs.Common.{rules}
use Rattle.std.proofs.lemmas.Result.{on_ok_weaker}
use Rattle.tacho_store.proofs.withdrawal.rewrite.Goals as goal

pub returns : goal.returns
returns g c = record {
  stays = search rules;
  keeps = search rules;
  schema = λ clean schema.
      on_ok_weaker c.insert_all.result (λ turned. turned.schema) (c.insert_all.ensures.turned clean
      (c.in_ok-delete_near.ensures.schema (c.insert_all.ensures.stays.clean clean) schema));
  turned = λ clean schema t stand apart.
      let clean_1 = c.insert_all.ensures.stays.clean clean in
      let deleted = c.in_ok-delete_near.ensures.turned clean_1 schema t stand apart in
      on_ok_weaker c.insert_all.result (λ turned. turned.stands _ deleted)
      (c.insert_all.ensures.turned clean (c.in_ok-delete_near.ensures.schema clean_1 schema));
}
