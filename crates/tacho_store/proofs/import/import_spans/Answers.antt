use Rattle.std.proofs.Common.{rules, refl, sym, subst}
use Rattle.sqlite.specs.Held.{state}
use Rattle.tacho_state.specs.Numbers.{part_number}
use Rattle.tacho_store.proofs.StepsLemmas.{FollowsIn, still_follows, given_by, given_told}
use Rattle.tacho_store.proofs.AdditionLemmas.{repeated_answer, repeated_after}
use Rattle.tacho_store.proofs.DecisionLemmas.{handed_fault, is_repeated, is_new}
use Rattle.tacho_store.proofs.import.import_spans.Goals as goal

pub returns-in_err-news_near-clause-steps : goal.returns-in_err-news_near-clause-steps
returns-in_err-news_near-clause-steps g c = record {
  stays = search rules;
  keeps = search rules;
  of_no_file = search rules;
  answer = λ clean schema s stands p given.
      handed_fault _ s _ p.0 c.args.spans.now _ c.from_residual.result (part_number c.args.part) c.args.file.now
      (c.in_err-news_near.ensures.told clean schema s stands p.0 given.0.found) c.from_residual.ensures;
  made = search rules;
  others = search rules;
}

pub returns-in-None-clause-steps : goal.returns-in-None-clause-steps
returns-in-None-clause-steps g c = given_by (search rules) (search rules) (search rules)
    (λ clean schema s stands p given.
    let repeated = is_repeated _ s _ p.0 c.args.spans.now _ c.in-None.is
    (c.in_ok-news_near.ensures.told clean schema s stands p.0 given.0.found) in
    repeated_answer s p.0 c.args.importer (part_number c.args.part) c.args.file.now c.args.spans.now given.0
    (repeated (part_number c.args.part) c.args.file.now))
    (λ clean schema s stands p given.
    let repeated = is_repeated _ s _ p.0 c.args.spans.now _ c.in-None.is
    (c.in_ok-news_near.ensures.told clean schema s stands p.0 given.0.found) in
    let after = repeated_after s p.0 c.args.importer (part_number c.args.part) c.args.file.now c.args.spans.now given.0
    (repeated (part_number c.args.part) c.args.file.now) in
    subst (FollowsIn (state g.S.Store c.args.tx.now.conn.now) (state g.S.Store c.news_near.new.tx.conn.now) s) (sym after)
    (still_follows _ _ s (c.in_ok-news_near.ensures.same clean schema) schema stands))

pub returns-in-Some-clause-steps : goal.returns-in-Some-clause-steps
returns-in-Some-clause-steps g c = given_told c.in_ok-news_near.ensures c.add_download.ensures.steps (λ db s stands news p given. (
  (p.0, c.args.spans.now, p.1),
  (
    given.0,
    is_new db s _ p.0 c.args.spans.now _ c.in-Some.news c.in-Some.is (news p.0 given.0.found),
    given.1,
  ),
  refl,
))
