use Rattle.std.proofs.Common.{rules, sym, subst}
use Rattle.std.proofs.lemmas.Result.{IfOk-weaker}
use Rattle.sqlite.specs.Effect.{Database}
use Rattle.tacho_tables.specs.Spans.{spans_in}
use Rattle.tacho_tables.specs.Tables.{HasTables, IsArchive}
use Rattle.tacho_reading.proofs.ApartLemmas.{read_begun}
use Rattle.tacho_reading.proofs.near.rows_near.Goals as goal

pub returns : goal.returns
returns g c = record {
  reads = search rules;
  found = λ clean schema.
      let clean_1 = c.begun.ensures.reads.stays.clean clean in
      let same = c.in_ok-before.ensures.reads.same clean_1 schema in
      let schema_2 = subst IsArchive (sym same.0.now_is) schema in
      IfOk-weaker c.begun.result _ _ (λ found all t stand apart. read_begun c.args.driver c.args.start c.args.past (spans_in c.args.table t) apart c.in_ok-before.before found.items
      (c.in_ok-before.ensures.found clean_1 schema t stand)
      (rw c.first_start.ensures at (all t (subst (λ (d : Database). HasTables d.trees t) (sym same.0.now_is) stand)))) (c.begun.ensures.found clean schema_2);
}
