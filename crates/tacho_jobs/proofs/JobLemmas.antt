-- What becomes of an archive that was opened and closed again, and the answers of jobs.
use Rattle.std.proofs.Common.{◌≡◌, ◌≢◌, ◌⊎◌, ◌∙◌, ℕ, ◌==◌, Bool, true, false, not, length, List, [], ◌∷◌, Option, Some, Result, Ok, Err, IfOk, IfErr, arith, refl, sym, ap, subst, inl, inr}
use Rattle.std.proofs.lemmas.Bool.Decides.{nat_tests}
use Rattle.sqlite.specs.Effect.{Database}
use Rattle.sqlite.specs.State.{State as Sqlite}
use Rattle.sqlite.specs.Held.{Held as Connection, state}
use Rattle.sqlite.specs.Store.{Ghosts}
use Rattle.tacho_message.specs.declared.reply.PageFile.{PageFile}
use Rattle.tacho_state.specs.Acts.{Answers, OnlyRead}
use Rattle.tacho_state.specs.State.{State}
use Rattle.tacho_state.specs.Steps.{owner}
use Rattle.tacho_state.specs.declared.fault.StoreFault.{StoreFault}
use Rattle.tacho_state.specs.declared.fault.StoreFault.TheVariants.{KeyTaken, Memory, OldSchema, Store}
use Rattle.tacho_tables.specs.Making.{IsVersioned}
use Rattle.tacho_tables.specs.Tables.{IsArchive}
use Rattle.tacho_reading.specs.Kept.{HasGivenUp, SeesWhileOpen, LeavesOneOf}
use Rattle.tacho_store.specs.Old.{with_office}
use Rattle.tacho_store.specs.Opening.{IsEmptyArchive, IsMigrated, IsOpeningFault}
use Rattle.tacho_check.specs.declared.table.Unsound.{Unsound}
use Rattle.tacho_check.specs.Checked.{IsChecked}
use Rattle.tacho_sheet.specs.declared.fault.Fault.{Fault}
use Rattle.tacho_sheet.specs.Fault.{fault_of_store}
use Rattle.tacho_cli.specs.Command.{IsWrittenOut}
use Rattle.tacho_serve.specs.Served.{ChangesByRequests}
use Rattle.tacho_serve.specs.Served.IsServed.{none}
use Rattle.tacho_jobs.specs.Jobs.{IsCheckOf, IsKeyRefusal, IsOpenStore, IsService, IsServiceFault, Stands, IsLive, MayLeave, check_status, key_taken}

-- ---- init and migrate

module _ {S K : Type 0} (g : Ghosts S) {stands : K → State → Type 0} {is_live : K → Type 0} {leaves : K → List State → Type 0} {archive : K}
    {new : Connection S} where
  -- an archive without drivers leaves a connection that sees none
  pub emptied : IsEmptyArchive stands is_live leaves archive → (is_live archive → IsOpenStore (state g new))
      → ((s : State) → stands archive s → SeesWhileOpen (state g new) s)
      → ((states : List State) → leaves archive states → LeavesOneOf (state g new) states)
      → IsEmptyArchive (Stands g) (IsLive g) (MayLeave g) new
  emptied it live held left = record { empty = held [] it.empty; live = live it.live; left = left ([] ∷ []) it.left }

  -- one that was migrated leaves a connection that sees what it has
  pub migrated : {old : Sqlite} → IsMigrated stands is_live leaves old archive → (is_live archive → IsOpenStore (state g new))
      → ((s : State) → stands archive s → SeesWhileOpen (state g new) s)
      → ((states : List State) → leaves archive states → LeavesOneOf (state g new) states)
      → IsMigrated (Stands g) (IsLive g) (MayLeave g) old new
  migrated it live held left = record {
    carried = λ s stood. held (with_office s) (it.carried s stood);
    held = λ s seen. held s (it.held s seen);
    live = live it.live;
    kept = λ s stood. left (with_office s ∷ []) (it.kept s stood);
    left = λ s seen states past. left states (it.left s seen states past);
    rests = λ s seen. left (s ∷ []) (it.rests s seen);
    schema = it.schema;
  }

-- a fault with something else is the fault
pub fault_of_both : {A B C : Type 0} (x y : StoreFault × C) → ◌≡◌ {A = Result A (StoreFault × C)} (Err x) (Err y)
    → ◌≡◌ {A = Result B StoreFault} (Err x.0) (Err y.0)
fault_of_both {C = C} x y same = let both : x ≡ y = (let e = same in cc) in ap (λ (z : StoreFault × C). Err z.0) both

-- ---- check

-- what gave up wasn't opened
opening : (f : StoreFault) → HasGivenUp f → IsOpeningFault f
opening OldSchema h = absurd h
opening f h = h

refused_opening : {A : Type 0} (r : Result A StoreFault) → IfErr r HasGivenUp → IfErr r IsOpeningFault
refused_opening (Ok x) h = tt
refused_opening (Err f) h = opening f h

-- a line that was written with another status
pub found_told : (failed : Bool) (old new : Option (List ℕ)) (text line : List ℕ) (told status : ℕ) (found : Option Unsound)
    → IsWrittenOut failed old new (record { text = text; status = 0 }) told → text ≡ line → (told ≡ 0 → status ≡ check_status found)
    → (told ≡ 3 → status ≡ 3) → IsWrittenOut failed old new (record { text = line; status = check_status found }) status
found_told failed old new text line told status found h same done other =
    subst (λ (t : List ℕ). IsWrittenOut failed old new (record { text = t; status = check_status found }) status) same (go failed h)
  where
    go : (failed : Bool) → IsWrittenOut failed old new (record { text = text; status = 0 }) told
        → IsWrittenOut failed old new (record { text = text; status = check_status found }) status
    go true h = (h.0, other h.1)
    go false h = (h.0, done h.1)

module _ (old mid : Sqlite) (clean : Type 0) (found : Result (Option Unsound) StoreFault) (same : clean → mid.now ≡ old.now)
    (known : (IsVersioned old.now → ⊥) → ⊥) (checked : clean → IfOk found (λ u. (is : IsArchive mid.now) × IsChecked is.layout mid.now.trees u))
    (refused : IfErr found HasGivenUp) where
  of_found : IsCheckOf old clean found
  of_found = record {
    checked = λ c. subst (λ (d : Database). IfOk found (λ u. (is : IsArchive d) × IsChecked is.layout d.trees u)) (same c) (checked c);
    refused = refused_opening found refused;
    is_old = λ c is. absurd (subst (λ (r : Result (Option Unsound) StoreFault). IfErr r HasGivenUp) is refused);
    unknown = λ other. absurd (known other);
  }

  -- a check of a store that has an archive answers what was found, or that memory ran out
  pub checked_as : (x : Result (Option Unsound) StoreFault) → (x ≡ found) ⊎ (x ≡ Err Memory) → IsCheckOf old clean x
  checked_as x (inl is) = subst (λ (r : Result (Option Unsound) StoreFault). IsCheckOf old clean r) (sym is) of_found
  checked_as x (inr is) = subst (λ (r : Result (Option Unsound) StoreFault). IsCheckOf old clean r) (sym is) (record {
    checked = λ c. tt;
    refused = tt;
    is_old = λ c other. absurd (let e = other in cc);
    unknown = λ other. absurd (known other);
  })

-- ---- serve and listen

-- who asks with a key is found, unless the archive gave up
pub key_refusal : (f : StoreFault) (found : Option ℕ) → Answers {A = Option ℕ} {B = Option ℕ} (λ x. x) (Err f) (Ok found) → IsKeyRefusal f
key_refusal Memory found h = tt
key_refusal Store found h = tt
key_refusal KeyTaken found h = tt
key_refusal f found h = absurd (let e = h in cc)

service_fault : (f : StoreFault) → IsKeyRefusal f → IsServiceFault (fault_of_store f)
service_fault Memory h = tt
service_fault Store h = tt
service_fault KeyTaken h = tt
service_fault f h = absurd h

taken_only : (f : StoreFault) → IsKeyRefusal f → fault_of_store f ≡ key_taken → f ≡ KeyTaken
taken_only KeyTaken h is = refl
taken_only Memory h is = absurd (let e = is in cc)
taken_only Store h is = absurd (let e = is in cc)
taken_only f h is = absurd h

-- there are page files exactly if the list isn't empty
some_files : (files : List PageFile) (empty : Bool) → empty ≡ (length files == 0) → not empty ≡ true → files ≢ []
some_files [] empty is on no_files = let e = sym (ap not is) ∙ on in cc
some_files (x ∷ xs) empty is on no_files = cc

files_some : (files : List PageFile) (empty : Bool) → empty ≡ (length files == 0) → files ≢ [] → not empty ≡ true
files_some [] empty is some = absurd (some refl)
files_some (x ∷ xs) empty is some = ap not (is ∙ (let no : (length (x ∷ xs) == 0) ≡ false = grind (arith, nat_tests) in no))

module _ {K : Type 0} {stands : K → State → Type 0} {is_clean is_live : K → Type 0} {leaves : K → List State → Type 0} {is_same : K → K → Type 0}
    (files : List PageFile) (office : List ℕ) {old mid : K} (read : OnlyRead stands is_clean leaves is_same old mid)
    (empty : Bool) (is : empty ≡ (length files == 0)) where
  -- a service that did not begin
  pub not_begun : (fault : StoreFault) → (is_clean mid → (s : State) → stands old s → IsKeyRefusal fault)
      → (◌≡◌ {A = Result (Unit {0}) StoreFault} (Err fault) (Err KeyTaken) → is_clean mid → (s : State) → stands old s
      → (not empty ≡ true) × ((n : ℕ) × (owner office s ≡ Ok (Some n))))
      → IsService stands is_clean is_live leaves files office old mid (Err (fault_of_store fault))
  not_begun fault refused only = record {
    changes = record {
      clean = read.clean;
      served = λ clean a stood past. (a, read.state clean a.state stood, read.crash clean a.past past, none);
    };
    faults = λ clean s stood. service_fault fault (refused clean s stood);
    taken = λ some clean s stood n own. refl;
    only = λ same clean s stood.
        let found = only (ap (λ (f : StoreFault). Err f) (taken_only fault (refused clean s stood) (let e = same in cc))) clean s stood in
        (some_files files empty is found.0, found.1);
  }

  -- one that began
  pub begun : {new : K} (answer : Result (Unit {0}) Fault)
      → (not empty ≡ true → is_clean mid → (s : State) → stands old s → (n : ℕ) → owner office s ≡ Ok (Some n) → ⊥)
      → ChangesByRequests files office stands is_clean leaves mid new → IfErr answer IsServiceFault → (answer ≡ Err key_taken → ⊥)
      → IsService stands is_clean is_live leaves files office old new answer
  begun answer free changes faults other = record {
    changes = record {
      clean = λ clean. read.clean (changes.clean clean);
      served = λ clean a stood past.
          changes.served clean a (read.state (changes.clean clean) a.state stood) (read.crash (changes.clean clean) a.past past);
    };
    faults = λ clean s stood. faults;
    taken = λ some clean s stood n own. absurd (free (files_some files empty is some) (changes.clean clean) s stood n own);
    only = λ same. absurd (other same);
  }
