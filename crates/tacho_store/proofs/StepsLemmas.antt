-- How a step is composed of what its tables follow and of what earlier readings found.
use Rattle.std.proofs.Common.{◌≡◌, ℕ, Result, Ok, Err, OnOk, sym, ap, subst}
use Rattle.std.specs.Borrow.{MutBor}
use Rattle.std.specs.Prelude.{IsErr, IsErrAnd, MatchResult}
use Rattle.std.proofs.lemmas.Result.{on_ok_weaker}
use Rattle.sqlite.specs.Effect.{Database}
use Rattle.sqlite.specs.State.{State as Sqlite, HasCleanDisk, IsUnchanged, KeepsCommit}
use Rattle.sqlite.specs.Store.{Ghosts}
use Rattle.sqlite.specs.Held.{Held, state}
use Rattle.sqlite.specs.Tree.{Trees}
use Rattle.tacho_tables.specs.declared.fault.TableFault.{TableFault}
use Rattle.tacho_tables.specs.declared.fault.TableFault.TheVariants as table
use Rattle.tacho_tables.specs.Tables.{HasTables, IsArchive, Tables}
use Rattle.tacho_state.specs.declared.fault.StoreFault.{StoreFault}
use Rattle.tacho_state.specs.declared.fault.StoreFault.TheVariants as store
use Rattle.tacho_state.specs.Acts.{Answers, IsAnswered, IsOfNoFile}
use Rattle.tacho_state.specs.State.{State, driver_of}
use Rattle.tacho_state.specs.Steps.{Own, Turn, own_turn}
use Rattle.tacho_tables.specs.Calls.{Changes, Stays}
use Rattle.tacho_tables.proofs.CallLemmas.{stays_then}
use Rattle.tacho_tables.proofs.Inside.{keeps_then}
use Rattle.tacho_reading.specs.Calls.{Goes, Steps, StepsGiven, Tells}
use Rattle.tacho_reading.specs.Faults.{fault_of_tables}
use Rattle.tacho_reading.specs.Finding.{IsDriver, IsFindingFault}
use Rattle.tacho_reading.specs.Standing.{Represents, KeepsRowsOf, Follows}
use Rattle.tacho_reading.proofs.LookUpLemmas.{unknown_refuses}
use Rattle.tacho_reading.proofs.MappedLemmas.{answers_mapped, on_ok_mapped}
use Rattle.tacho_reading.proofs.SeenLemmas.{still_archive, still_seen}
use Rattle.tacho_reading.proofs.TellLemmas.{answers_handed, no_file_mapped}
use Rattle.tacho_store.proofs.OthersLemmas.{kept_rows, unchanged_follows}

-- the archive after a step, whose tables follow those before it
abbrev pub FollowsIn : Sqlite → Sqlite → State → State → Type 0
FollowsIn old new s after = IsArchive new.now × Follows old.now.trees new.now.trees s after

-- an archive that hasn't changed follows itself
pub still_follows : (old new : Sqlite) (s : State) → IsUnchanged old new → IsArchive old.now → Represents old.now.trees s
    → FollowsIn old new s s
still_follows old new s same schema stands = (
  (still_seen old new s same schema stands).0,
  subst (λ (d : Database). Follows old.now.trees d.trees s s) (sym same.0.now_is) (unchanged_follows old.now.trees s stands),
)

-- ---- a call after a reading that answered

-- if neither the reading nor the call commits, nothing is committed
pub keeps_after : (x y z : Sqlite) → (HasCleanDisk z → HasCleanDisk y) → (HasCleanDisk y → IsArchive x.now → IsUnchanged x y)
    → (HasCleanDisk y → IsArchive x.now → KeepsCommit x y) → (HasCleanDisk z → IsArchive y.now → KeepsCommit y z)
    → HasCleanDisk z → IsArchive x.now → KeepsCommit x z
keeps_after x y z before same first more clean is =
    keeps_then x y z (first (before clean) is) (more clean (still_archive x y (same (before clean) is) is))

-- likewise if the first call is a change
pub keeps_changed : (x y z : Sqlite) → (HasCleanDisk z → HasCleanDisk y) → (HasCleanDisk y → KeepsCommit x y)
    → (HasCleanDisk y → IsArchive x.now → IsArchive y.now) → (HasCleanDisk z → IsArchive y.now → KeepsCommit y z)
    → HasCleanDisk z → IsArchive x.now → KeepsCommit x z
keeps_changed x y z before first archive more clean is =
    keeps_then x y z (first (before clean)) (more clean (archive (before clean) is))

-- ---- steps

module _ {S : Type 0} {g : Ghosts S} {old new : MutBor (Held S)} {A B : Type 0} {result : Result A StoreFault} {view : A → B} where
  -- a step whose tables follow those before it
  pub steps_by : {step : State → Turn B} → Goes g old new result
      → (HasCleanDisk (state g new.now) → IsArchive (state g old.now).now
      → (s : State) → Represents (state g old.now).now.trees s → Answers view result (step s).answer)
      → (HasCleanDisk (state g new.now) → IsArchive (state g old.now).now
      → (s : State) → Represents (state g old.now).now.trees s
      → OnOk result (FollowsIn (state g old.now) (state g new.now) s (step s).after))
      → Steps g old new result view step
  steps_by goes answer follows = record {
    goes = goes;
    answer = answer;
    made = λ clean schema s stands. on_ok_weaker result (λ it. (it.0, it.1.stands)) (follows clean schema s stands);
    others = λ clean schema s stands n same. on_ok_weaker result (λ it. it.1.others n same) (follows clean schema s stands);
  }

  -- a step that earlier findings decide
  pub given_by : {P : Type 0} {given : P → Trees → State → Type 0} {step : P → State → Turn B} → Stays g old new
      → (HasCleanDisk (state g new.now) → IsArchive (state g old.now).now → KeepsCommit (state g old.now) (state g new.now))
      → IsOfNoFile result
      → (HasCleanDisk (state g new.now) → IsArchive (state g old.now).now
      → (s : State) → Represents (state g old.now).now.trees s
      → (p : P) → given p (state g old.now).now.trees s → Answers view result (step p s).answer)
      → (HasCleanDisk (state g new.now) → IsArchive (state g old.now).now
      → (s : State) → Represents (state g old.now).now.trees s → (p : P) → given p (state g old.now).now.trees s
      → OnOk result (FollowsIn (state g old.now) (state g new.now) s (step p s).after))
      → StepsGiven g old new result given view step
  given_by stays keeps of_no_file answer follows = record {
    stays = stays;
    keeps = keeps;
    of_no_file = of_no_file;
    answer = answer;
    made = λ clean schema s stands p is. on_ok_weaker result (λ it. (it.0, it.1.stands)) (follows clean schema s stands p is);
    others = λ clean schema s stands p is n same.
        on_ok_weaker result (λ it. it.1.others n same) (follows clean schema s stands p is);
  }

-- ---- a step after readings that decide it

module _ {B P : Type 0} (given : P → Trees → State → Type 0) (step : P → State → Turn B) where
  -- what was found decides the step
  abbrev pub IsDecided : Trees → State → Turn B → Type 0
  IsDecided db s turn = (p : P) × given p db s × (turn ≡ step p s)

module _ {S : Type 0} {g : Ghosts S} {C : Type 0} {x : C} {old mid new : MutBor (Held S)} {first : Trees → State → Type 0}
    (read : Tells g old mid (Ok x) first) where
  module _ {A B P : Type 0} {result : Result A StoreFault} {given : P → Trees → State → Type 0} {view : A → B} {step : P → State → Turn B}
      (h : StepsGiven g mid new result given view step) where
    -- nothing has changed before the step
    same : HasCleanDisk (state g new.now) → IsArchive (state g old.now).now → IsUnchanged (state g old.now) (state g mid.now)
    same clean schema = read.same (h.stays.clean clean) schema

    keeps : HasCleanDisk (state g new.now) → IsArchive (state g old.now).now → KeepsCommit (state g old.now) (state g new.now)
    keeps = keeps_after _ _ _ h.stays.clean read.same read.goes.keeps h.keeps

    module _ (clean : HasCleanDisk (state g new.now)) (schema : IsArchive (state g old.now).now) (s : State)
        (stands : Represents (state g old.now).now.trees s) {turn : Turn B}
        (found : IsDecided given step (state g old.now).now.trees s turn) where
      -- it is decided as before, and the archive is still seen
      still : IsDecided given step (state g mid.now).now.trees s turn
      still = subst (λ (d : Database). IsDecided given step d.trees s turn) (sym (same clean schema).0.now_is) found

      seen : IsArchive (state g mid.now).now × Represents (state g mid.now).now.trees s
      seen = still_seen _ _ s (same clean schema) schema stands

      -- the answer is the one that was decided
      answer_then : Answers view result turn.answer
      answer_then = subst (λ (x : Turn B). Answers view result x.answer) (sym still.2) (h.answer clean seen.0 s seen.1 still.0 still.1)

      -- the tables represent the state after the step
      made_then : OnOk result (IsArchive (state g new.now).now × Represents (state g new.now).now.trees turn.after)
      made_then = subst (λ (x : Turn B). OnOk result
          (IsArchive (state g new.now).now × Represents (state g new.now).now.trees x.after)) (sym still.2)
          (h.made clean seen.0 s seen.1 still.0 still.1)

      -- if the step changes nothing of a driver, that driver's rows are kept
      others_then : (n : ℕ) → driver_of n turn.after ≡ driver_of n s
          → OnOk result (KeepsRowsOf n (state g old.now).now.trees (state g new.now).now.trees)
      others_then n is =
          subst (λ (d : Database). OnOk result (KeepsRowsOf n d.trees (state g new.now).now.trees)) (same clean schema).0.now_is
          (h.others clean seen.0 s seen.1 still.0 still.1 n (subst (λ (x : Turn B). driver_of n x.after ≡ driver_of n s) still.2 is))

    -- a step of a state
    pub steps_told : {turn : State → Turn B} → ((db : Trees) (s : State) → Represents db s → first db s → IsDecided given step db s (turn s))
        → Steps g old new result view turn
    steps_told {turn} found = record {
      goes = record {
        stays = stays_then read.goes.stays h.stays;
        keeps = keeps;
        live = λ clean answered. read.goes.live (h.stays.clean clean) tt;
        of_no_file = h.of_no_file;
      };
      answer = λ clean schema s stands. answer_then clean schema s stands (decides clean schema s stands);
      made = λ clean schema s stands. made_then clean schema s stands (decides clean schema s stands);
      others = λ clean schema s stands. others_then clean schema s stands (decides clean schema s stands);
    } where
      decides : (clean : HasCleanDisk (state g new.now)) (schema : IsArchive (state g old.now).now) (s : State)
          (stands : Represents (state g old.now).now.trees s) → IsDecided given step (state g old.now).now.trees s (turn s)
      decides clean schema s stands = found _ s stands (read.told (h.stays.clean clean) schema s stands)

    -- a step that earlier findings decide
    pub given_told : {Q : Type 0} {asked : Q → Trees → State → Type 0} {turn : Q → State → Turn B}
        → ((db : Trees) (s : State) → Represents db s → first db s → (q : Q) → asked q db s → IsDecided given step db s (turn q s))
        → StepsGiven g old new result asked view turn
    given_told {Q} {asked} {turn} found = record {
      stays = stays_then read.goes.stays h.stays;
      keeps = keeps;
      of_no_file = h.of_no_file;
      answer = λ clean schema s stands q is. answer_then clean schema s stands (decides clean schema s stands q is);
      made = λ clean schema s stands q is. made_then clean schema s stands (decides clean schema s stands q is);
      others = λ clean schema s stands q is. others_then clean schema s stands (decides clean schema s stands q is);
    } where
      decides : (clean : HasCleanDisk (state g new.now)) (schema : IsArchive (state g old.now).now) (s : State)
          (stands : Represents (state g old.now).now.trees s) (q : Q) → asked q (state g old.now).now.trees s
          → IsDecided given step (state g old.now).now.trees s (turn q s)
      decides clean schema s stands q is = found _ s stands (read.told (h.stays.clean clean) schema s stands) q is

  -- one change of the tables
  pub steps_written : {r : Result (Unit {0}) TableFault} {t : Result (Unit {0}) StoreFault} {turn : Tables → Tables}
      {step : State → Turn (Unit {0})} → Changes g mid new r turn → MatchResult r (λ y. t ≡ Ok y) (λ e. IsErrAnd t (λ f. f ≡ fault_of_tables e))
      → ((db : Trees) (s : State) → Represents db s → first db s → (step s).answer ≡ Ok tt)
      → ((db next : Trees) (s : State) → Represents db s → first db s → ((a : Tables) → HasTables db a → HasTables next (turn a))
      → Follows db next s (step s).after)
      → Steps g old new t (λ (u : Unit {0}). u) step
  steps_written {r} {t} h cases answer follows = steps_by (record {
    stays = stays_then read.goes.stays h.stays;
    keeps = λ clean schema. keeps_then _ _ _ (read.goes.keeps (h.stays.clean clean) schema) (h.keeps clean);
    live = λ clean answered. read.goes.live (h.stays.clean clean) tt;
    of_no_file = no_file_mapped r t cases;
  })
      (λ clean schema s stands. answers_mapped r t _ cases
      (λ u. answer _ s stands (read.told (h.stays.clean clean) schema s stands)))
      (λ clean schema s stands.
      let clean_1 = h.stays.clean clean in
      let same = read.same clean_1 schema in
      on_ok_mapped r t _ _ _ (λ turns. (
        turns.schema,
        follows _ _ s stands (read.told clean_1 schema s stands)
            (λ a stand. turns.stands a (subst (λ (d : Database). HasTables d.trees a) (sym same.0.now_is) stand)),
      )) cases (h.turned clean (still_archive _ _ same schema)))

-- nothing is said of the value of a result that is an error
no_value : {A E : Type 0} (r : Result A E) (P : Type 0) → IsErr r → OnOk r P
no_value (Ok x) P fails = let wrong = fails in cc
no_value (Err e) P fails = tt

-- a step that a reading refused, or during which it gave up
pub steps_refused : {S : Type 0} {g : Ghosts S} {old new : MutBor (Held S)} {A B C : Type 0} {result : Result A StoreFault}
    {fault : StoreFault} {first : Trees → State → Type 0} (view : A → B) (step : State → Turn B) → Tells g old new {A = C} (Err fault) first
    → IsErr result × IsErrAnd result (λ found. found ≡ fault)
    → ((db : Trees) (s : State) → Represents db s → first db s → IsFindingFault fault (step s).answer) → Steps g old new result view step
steps_refused {result = result} view step h e more =
    let told = answers_handed view (λ db s. (step s).answer) h e more in record {
      goes = told.goes;
      answer = told.told;
      made = λ clean schema s stands. no_value result _ e.0;
      others = λ clean schema s stands n is. no_value result _ e.0;
    }

-- S4 is the answer of a step on one driver
pub unknown_steps : {S : Type 0} {g : Ghosts S} {old new : MutBor (Held S)} {A B C : Type 0} {result : Result A StoreFault} {fault : StoreFault}
    (view : A → B) (n : ℕ) (f : Own B) → Tells g old new {A = C} (Err fault) (λ db s. IsDriver s n (Err fault))
    → IsErr result × IsErrAnd result (λ found. found ≡ fault) → Steps g old new result view (λ s. own_turn f s (driver_of n s))
unknown_steps view n f h e = steps_refused view (λ s. own_turn f s (driver_of n s)) h e
    (λ db s stands. unknown_refuses n s _ _ (λ none. ap (λ o. (own_turn f s o).answer) none))

-- ---- a step that is undone

-- tables that are seen again after an undo have the same rows
pub undone_keeps : {S : Type 0} (g : Ghosts S) (old new : Held S) (s : State) (n : ℕ) → Represents (state g old).now.trees s
    → (state g new).now ≡ (state g old).now → KeepsRowsOf n (state g old).now.trees (state g new).now.trees
undone_keeps g old new s n stands same =
    subst (λ (d : Database). KeepsRowsOf n (state g old).now.trees d.trees) (sym same) (kept_rows n (state g old).now.trees s stands)

-- the fault that is answered then is the step's, or the store's, which was asked
pub undone_answers : {A B : Type 0} (view : A → B) (told : Result B StoreFault) (fault undone : StoreFault) (asked : Result (Unit {0}) TableFault)
    → MatchResult asked (λ _. undone ≡ fault) (λ failed. undone ≡ fault_of_tables failed) → Answers view (Err fault) told
    → Answers view (Err undone) told
undone_answers view told fault undone (Ok x) is h = subst (λ f. Answers view (Err f) told) (sym is) h
undone_answers view told fault undone (Err table.Memory) is h = subst (λ f. Answers view (Err f) told) (sym is) tt
undone_answers view told fault undone (Err table.Store) is h = subst (λ f. Answers view (Err f) told) (sym is) tt

-- a refusal is the step's if the call answers as the step does wherever it answers
if_answered : {A B : Type 0} (view : A → B) (told : Result B StoreFault) (fault : StoreFault) → IsOfNoFile {A = A} (Err fault)
    → (IsAnswered {A = A} (Err fault) → Answers view (Err fault) told) → Answers view (Err fault) told
if_answered view told store.Memory none h = tt
if_answered view told store.Store none h = tt
if_answered view told (store.Card fault) none h = absurd none
if_answered view told fault none h = h tt

pub answers_if : {A B : Type 0} (view : A → B) (told : Result B StoreFault) (r : Result A StoreFault) (fault : StoreFault) → r ≡ Err fault
    → IsOfNoFile r → (IsAnswered r → Answers view r told) → Answers view (Err fault) told
answers_if {A = A} view told r fault is none h =
    if_answered view told fault (subst (λ (q : Result A StoreFault). IsOfNoFile q) is none)
    (λ x. subst (λ (q : Result A StoreFault). Answers view q told) is (h (subst (λ (q : Result A StoreFault). IsAnswered q) (sym is) x)))
