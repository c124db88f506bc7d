use Rattle.std.proofs.Common.{rules, ◌≡◌, ◌∙◌, ◌∷◌, [], false, subst, true}
use Rattle.std.specs.Vec.Iter.{into_iter_items}
use Rattle.tacho_state.specs.Batch.{IsBatch, IsEntryLine}
use Rattle.tacho_carry.specs.Carrying.{IsAt}
use Rattle.tacho_carry.proofs.EntryLemmas.{all_entered, batch_entered, entry_passed, entry_taken, found_so_far, is_listed_carried}
use Rattle.tacho_carry.proofs.EntryLemmas.{longer_batch, no_batch, none_entered, none_left}
use Rattle.tacho_carry.proofs.entries.enter_kept.Goals.{then-not-follows+in_ok-enter_batch, else-not-follows}
use Rattle.tacho_carry.proofs.entries.enter_kept.Goals as goal

pub loop-entry-init : goal.loop-entry-init
loop-entry-init g c = record {
  clean = λ clean. clean;
  batch = subst IsBatch (search rules) no_batch;
  so_far = λ clean t d x listed found here.
      let given : into_iter_items c.into_iter-entry-iterator.result
      ≡ c.args.entries.items = c.into_iter-entry-iterator.ensures.into_iter_gives.0 in
      rw c.new-batch.ensures.items (none_entered c.args.driver c.args.start d x t found _ _ (given ∙ listed) here);
}

pub loop-entry-preserved-then-not-is_needed : goal.loop-entry-preserved-then-not-is_needed
loop-entry-preserved-then-not-is_needed g c = record {
  clean = c.loop-entry.invariant.clean;
  batch = c.loop-entry.invariant.batch;
  so_far = λ clean t d x listed found here.
      let before = c.loop-entry.invariant.so_far clean t d x listed found here in
      let early : is_listed_carried c.args.start c.in-Some.entry ≡ false = search rules in
      entry_passed c.args.driver c.args.start d x t found _ c.in-Some.entry (into_iter_items c.next.new.self) _ early
      (rw c.in-Some.ensures.steps.0 at before);
}

pub loop-entry-preserved : goal.loop-entry-preserved
loop-entry-preserved g c =
    let e = c.in-Some.entry in
    let left = into_iter_items c.next.new.self in
    let before = c.loop-entry.invariant in
    let late : is_listed_carried c.args.start e ≡ true = search rules in
    let fits : IsEntryLine e.line = search rules in
    elim c.if-not-follows.branch [
      | then-not-follows+in_ok-enter_batch w ↦ record {
        clean = λ clean. before.clean (w.in_ok-enter_batch.ensures.clean (rw w.new-is at clean));
        batch = rw (c.in_ok-push.ensures.items, w.batch-is, w.new-batch-then-not-follows.ensures.items)
            (longer_batch [] e.line no_batch fits (λ _. tt));
        so_far = λ clean t d x listed found here.
            let after = rw w.new-is at clean in
            let so_far = rw c.in-Some.ensures.steps.0 at
            (before.so_far (w.in_ok-enter_batch.ensures.clean after) t d x listed found here) in
            let entered = w.in_ok-enter_batch.ensures.entered after _ so_far.now
            (found_so_far c.args.driver c.args.start d x t found _ (e ∷ left) c.loop-entry.batch.items so_far) so_far.here in
            rw (c.in_ok-push.ensures.items, w.batch-is, w.new-batch-then-not-follows.ensures.items, w.new-is)
            (entry_taken c.args.driver c.args.start d x t found _ e left [] late
            (batch_entered c.args.driver c.args.start d x t found _ _ (e ∷ left) c.loop-entry.batch.items so_far
            (rw w.deref-then-not-follows.ensures.value at entered)));
      }
      | else-not-follows w ↦ record {
        clean = λ clean. before.clean (rw w.new-is at clean);
        batch = rw (c.in_ok-push.ensures.items, w.batch-is) (longer_batch c.loop-entry.batch.items e.line before.batch fits
            (rw c.deref.ensures.value at (w.if-not-follows.ensures (search rules))));
        so_far = λ clean t d x listed found here.
            rw (c.in_ok-push.ensures.items, w.batch-is, w.new-is)
            (entry_taken c.args.driver c.args.start d x t found _ e left c.loop-entry.batch.items late
            (rw c.in-Some.ensures.steps.0 at (before.so_far (rw w.new-is at clean) t d x listed found here)));
      }
    ]

pub returns-clause-entered : goal.returns-clause-entered
returns-clause-entered g c clean t d x listed found here =
    let before = c.loop-entry.invariant.so_far (c.in_ok-enter_batch-2.ensures.clean clean) t d x listed found here in
    let none : into_iter_items c.loop-entry.entry-iterator ≡ [] =
    none_left (into_iter_items c.loop-entry.entry-iterator) c.loop-entry.entry-iterator.rest.ok.0 c.in-None.ensures.steps.0 in
    let so_far = rw none at before in
    let entered = c.in_ok-enter_batch-2.ensures.entered clean _ so_far.now
    (found_so_far c.args.driver c.args.start d x t found _ [] c.loop-entry.batch.items so_far) so_far.here in
    let after = IsAt (g.L.Keeper.stands c.enter_batch-2.new.new) (g.L.Keeper.leaves c.enter_batch-2.new.new) in
    all_entered c.args.driver c.args.start d x t found after
    (batch_entered c.args.driver c.args.start d x t found _ after [] c.loop-entry.batch.items so_far
    (rw c.deref-2.ensures.value at entered))
