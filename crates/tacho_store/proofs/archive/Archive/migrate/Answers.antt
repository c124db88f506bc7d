use Rattle.std.proofs.Common.{◌≡◌, ◌∙◌, List, [], ◌∷◌, Result, OnOk, IsTrue, sym, subst, inl, inr}
use Rattle.sqlite.specs.Effect.{Database}
use Rattle.sqlite.specs.State.{State as Sqlite, HasCleanDisk, Survives}
use Rattle.sqlite.specs.Held.{state}
use Rattle.sqlite.proofs.StateLemmas.{survives_then}
use Rattle.tacho_tables.specs.Schema.{old_schema}
use Rattle.tacho_state.specs.declared.fault.StoreFault.{StoreFault}
use Rattle.tacho_state.specs.State.{State}
use Rattle.tacho_reading.specs.Standing.{Represents}
use Rattle.tacho_reading.specs.Kept.{Sees, LeavesOneOf}
use Rattle.tacho_store.specs.Old.{OldState, StoodFor, with_office}
use Rattle.tacho_store.specs.Opening.{IsOld, IsLeftAlone, IsCarried, IsNotMigrated, IsAdopted, IsMigrated}
use Rattle.tacho_store.proofs.CrashLemmas.{crash_by}
use Rattle.tacho_store.proofs.OpeningLemmas.{not_of_one, not_of_two}
use Rattle.tacho_store.proofs.archive.Archive.migrate.Goals as goal

-- an archive that was adopted is what a migration makes of a store of schema 2
adopted_migrates : (old : Sqlite) {K : Type 0} {stands : K → State → Type 0} {is_live : K → Type 0} {leaves : K → List State → Type 0}
    {archive : K} → IsAdopted stands is_live leaves old archive → IsMigrated stands is_live leaves old archive
adopted_migrates old it = record {
  carried = λ s stood. absurd (not_of_one old it.version s stood);
  held = it.held;
  live = it.live;
  kept = λ s stood. absurd (not_of_one old it.version s stood);
  left = λ s stands. it.left;
  rests = it.rests;
  schema = inl it.schema;
}

-- ---- a store before a migration

-- a store of schema 1 that was only read, and whose migration came next
module _ (old mid new : Sqlite) (alone : IsLeftAlone old mid) (was : HasCleanDisk mid → IsTrue mid.is_open × IsOld old)
    {A : Type 0} {result : Result A StoreFault} (it : IsCarried mid new result) where
  -- it was open
  first_open : HasCleanDisk new → IsTrue old.is_open
  first_open clean = alone.was_open (it.clean clean) (was (it.clean clean)).0

  -- it had schema 1
  first_schema : HasCleanDisk new → old.now.schema ≡ old_schema
  first_schema clean = (was (it.clean clean)).1.schema

  -- they represented no state of schema 2
  first_old : HasCleanDisk new → (s : State) → Represents old.now.trees s → ⊥
  first_old clean = not_of_two old (was (it.clean clean)).1

  -- it was as it had been when the migration came
  same_then : HasCleanDisk new → mid.now ≡ old.now
  same_then clean = alone.same (it.clean clean) (was (it.clean clean)).0

  -- so its tables still represented a state of schema 1
  still_stood : HasCleanDisk new → (s : OldState) → StoodFor old.now.trees s
      → (mid.now.schema ≡ old_schema) × StoodFor mid.now.trees s
  still_stood clean s stood =
      subst (λ (d : Database). (d.schema ≡ old_schema) × StoodFor d.trees s) (sym (same_then clean)) (first_schema clean, stood)

  -- migrated, they represent that state with the office as the author
  seen_after : HasCleanDisk new → (s : OldState) → StoodFor old.now.trees s → OnOk result (Sees new (with_office s))
  seen_after clean s stood = let at = still_stood clean s stood in it.carried clean at.0 s at.1

  -- so do the tables that a crash leaves then
  left_after : HasCleanDisk new → (s : OldState) → StoodFor old.now.trees s
      → OnOk result (LeavesOneOf new (with_office s ∷ []))
  left_after clean s stood = let at = still_stood clean s stood in it.kept clean at.0 s at.1

  -- whatever the disk did, both calls survived a crash
  survived : Survives old new (λ _. Unit {0})
  survived = survives_then old mid new _ _ _ (λ _ db none. absurd none) (λ _ db may. may) alone.survives it.survives

  -- if the second call gave up, nothing has changed, except that a crash may leave the migrated tables
  not_migrated : (HasCleanDisk new → IsTrue new.is_open → new.now ≡ mid.now) → IsNotMigrated old new
  not_migrated same = record {
    was_open = λ clean opened. first_open clean;
    same = λ clean opened. same clean opened ∙ same_then clean;
    crash = λ s stood. crash_by old new _ survived (λ clean.
        let at = still_stood clean s stood in
        survives_then old mid new _ _ _ (λ _ db none. absurd none) (λ _ db may. may) alone.survives (it.crash at.0 s at.1));
    alone = λ s stands. crash_by old new _ survived (λ clean. absurd (first_old clean s stands));
    other = λ apart. crash_by old new _ survived (λ clean. absurd (apart (first_schema clean)));
  }

-- ---- the answers

pub returns-in-Ok-clause-migrated : goal.returns-in-Ok-clause-migrated
returns-in-Ok-clause-migrated g c clean =
    adopted_migrates (state g.S.Store c.args.conn) (c.in-Ok.ensures.adopted clean)

pub returns-in-Ok-carry-clause-migrated : goal.returns-in-Ok-carry-clause-migrated
returns-in-Ok-carry-clause-migrated g c clean =
    let old = state g.S.Store c.args.conn in
    let mid = state g.S.Store c.in-Err-OldSchema-default.conn in
    let new = state g.S.Store c.carry.new.conn in
    let alone = c.in-Err-OldSchema-default.ensures.refused.2 in
    let was = λ (clean : HasCleanDisk mid).
    c.in-Err-OldSchema-default.ensures.old clean c.in-Err-OldSchema-default.field-0-0-is in
    let it = c.in-Ok-carry.ensures.carried in
    record {
      carried = λ s stood opened. seen_after old mid new alone was it clean s stood;
      held = λ s stands. absurd (first_old old mid new alone was it clean s stands);
      live = it.live clean;
      kept = λ s stood. left_after old mid new alone was it clean s stood;
      left = λ s stands. absurd (first_old old mid new alone was it clean s stands);
      rests = λ s stands. absurd (first_old old mid new alone was it clean s stands);
      schema = inr (first_schema old mid new alone was it clean);
    }

pub returns-in-Err-carry-clause-refused : goal.returns-in-Err-carry-clause-refused
returns-in-Err-carry-clause-refused g c =
    let mid = state g.S.Store c.in-Err-OldSchema-default.conn in
    let was = λ (clean : HasCleanDisk mid).
    c.in-Err-OldSchema-default.ensures.old clean c.in-Err-OldSchema-default.field-0-0-is in
    let it = c.in-Err-carry.ensures.carried in (
      c.in-Err-carry.ensures.refused,
      c.carry.ensures.autocommit,
      not_migrated (state g.S.Store c.args.conn) mid (state g.S.Store c.carry.new.conn)
          c.in-Err-OldSchema-default.ensures.refused.2 was it it.same,
    )
