-- Readings within a transaction, one after the other: what they tell together, and what is answered after them.
use Rattle.std.proofs.Common.{◌≡◌, ℕ, Result, Ok, Err, IfOk, refl, sym, subst}
use Rattle.std.specs.Borrow.{MutBor}
use Rattle.std.specs.Prelude.{IsErr, IsErrAnd, MatchResult}
use Rattle.std.proofs.lemmas.Result.{IfOk-weaker, MatchResult-weaker, on_ok_weaker}
use Rattle.sqlite.specs.Effect.{Database}
use Rattle.sqlite.specs.Held.{Held, state}
use Rattle.sqlite.specs.State.{HasCleanDisk}
use Rattle.sqlite.specs.Store.{Ghosts}
use Rattle.sqlite.specs.Tree.{Trees}
use Rattle.sqlite.proofs.Callers.{unchanged_then}
use Rattle.tacho_state.specs.declared.fault.StoreFault.{StoreFault}
use Rattle.tacho_state.specs.declared.fault.StoreFault.TheVariants.{Memory, Store, Card}
use Rattle.tacho_state.specs.Acts.{Answers, IsAnswered, IsOfNoFile}
use Rattle.tacho_state.specs.State.{Driver, State, driver_of}
use Rattle.tacho_state.specs.Steps.{reading_of}
use Rattle.tacho_tables.specs.declared.fault.TableFault.{TableFault}
use Rattle.tacho_tables.specs.declared.fault.TableFault.TheVariants as table
use Rattle.tacho_tables.specs.Calls.{Finds}
use Rattle.tacho_tables.specs.Tables.{Tables, HasTables, IsArchive}
use Rattle.tacho_tables.proofs.CallLemmas.{any_ok, stays_then}
use Rattle.tacho_tables.proofs.Inside.{keeps_then}
use Rattle.tacho_reading.specs.Calls.{Tells}
use Rattle.tacho_reading.specs.Faults.{fault_of_tables}
use Rattle.tacho_reading.specs.Finding.{IsDriver, IsFindingFault, IsFound}
use Rattle.tacho_reading.specs.Kept.{HasGivenUp}
use Rattle.tacho_reading.specs.Standing.{Represents}
use Rattle.tacho_reading.proofs.LookUpLemmas.{found_on, handed_on, is_told, unknown_refuses}
use Rattle.tacho_reading.proofs.ReadingLemmas.{nobody}
use Rattle.tacho_reading.proofs.SeenLemmas.{still_archive, still_seen}

-- ---- faults that are handed on

-- a fault is as much of an answer, or of a card file, in place of one value as of another
answered_as : (A B : Type 0) (f : StoreFault) → IsAnswered {A = A} (Err f) → IsAnswered {A = B} (Err f)
answered_as A B Memory h = h
answered_as A B Store h = h
answered_as A B (Card fault) h = h
answered_as A B f h = tt

pub no_file_as : (A B : Type 0) (f : StoreFault) → IsOfNoFile {A = A} (Err f) → IsOfNoFile {A = B} (Err f)
no_file_as A B (Card fault) h = h
no_file_as A B f h = tt

-- a fault of the tables is no answer, not of a card file, and that of a call that gave up
not_answered : (A : Type 0) (e : TableFault) → IsAnswered {A = A} (Err (fault_of_tables e)) → ⊥
not_answered A table.Memory h = h
not_answered A table.Store h = h

of_no_file : (A : Type 0) (e : TableFault) → IsOfNoFile {A = A} (Err (fault_of_tables e))
of_no_file A table.Memory = tt
of_no_file A table.Store = tt

-- so a result of the tables whose fault was mapped isn't of a card file
pub no_file_mapped : {A : Type 0} (r : Result A TableFault) (t : Result A StoreFault)
    → MatchResult r (λ y. t ≡ Ok y) (λ e. IsErrAnd t (λ f. f ≡ fault_of_tables e)) → IsOfNoFile t
no_file_mapped {A} (Ok y) t cases = subst (λ u. IsOfNoFile {A = A} u) (sym cases) tt
no_file_mapped {A} (Err e) (Ok x) cases = absurd cases
no_file_mapped {A} (Err e) (Err f) cases = subst (λ u. IsOfNoFile {A = A} (Err u)) (sym cases) (of_no_file A e)

gives_up : (e : TableFault) → HasGivenUp (fault_of_tables e)
gives_up table.Memory = tt
gives_up table.Store = tt

-- ---- readings

module _ {S : Type 0} {g : Ghosts S} {old new : MutBor (Held S)} where
  -- after a reading that answered, another answer or a refusal
  pub tells_as : {A B : Type 0} {x : A} {r : Result B StoreFault} {first fact : Trees → State → Type 0} → Tells g old new (Ok x) first
      → IsOfNoFile r → ((db : Trees) (s : State) → Represents db s → first db s → fact db s) → Tells g old new r fact
  tells_as {r = r} h of_no_file more = record {
    goes = record { stays = h.goes.stays; keeps = h.goes.keeps; live = λ clean _. h.goes.live clean tt; of_no_file = of_no_file };
    same = λ clean schema. any_ok r (h.same clean schema);
    told = λ clean schema s stands. more _ s stands (h.told clean schema s stands);
  }

  -- the same of another fact that follows
  pub tells_weaker : {A : Type 0} {r : Result A StoreFault} {first fact : Trees → State → Type 0} → Tells g old new r first
      → ((db : Trees) (s : State) → Represents db s → first db s → fact db s) → Tells g old new r fact
  tells_weaker h more = record {
    goes = h.goes;
    same = h.same;
    told = λ clean schema s stands. more _ s stands (h.told clean schema s stands);
  }

  -- a fault that is handed on
  pub tells_handed : {A B : Type 0} {fault : StoreFault} {r : Result B StoreFault} {first fact : Trees → State → Type 0}
      → Tells g old new {A = A} (Err fault) first → IsErr r × IsErrAnd r (λ found. found ≡ fault)
      → ((db : Trees) (s : State) → Represents db s → first db s → fact db s) → Tells g old new r fact
  tells_handed {r = Ok x} h e more = let wrong = e.0 in cc
  tells_handed {A = A} {B = B} {r = Err found} h e more = record {
    goes = record {
      stays = h.goes.stays;
      keeps = h.goes.keeps;
      live = λ clean answered. h.goes.live clean (answered_as B A _ (subst (λ f. IsAnswered {A = B} (Err f)) e.1 answered));
      of_no_file = subst (λ f. IsOfNoFile {A = B} (Err f)) (sym e.1) (no_file_as A B _ h.goes.of_no_file);
    };
    same = λ clean schema. tt;
    told = λ clean schema s stands. more _ s stands (h.told clean schema s stands);
  }

  -- a reading after one that answered: the state was told of by both
  pub tells_then : {mid : MutBor (Held S)} {A B : Type 0} {x : A} {r : Result B StoreFault} {first more : Trees → State → Type 0}
      → Tells g old mid (Ok x) first → Tells g mid new r more → Tells g old new r (λ db s. first db s × more db s)
  tells_then {r = r} {first = first} {more = more} p q = record {
    goes = record {
      stays = stays_then p.goes.stays q.goes.stays;
      keeps = λ clean schema.
          let clean_1 = q.goes.stays.clean clean in
          keeps_then _ _ _ (p.goes.keeps clean_1 schema) (q.goes.keeps clean (still_archive _ _ (p.same clean_1 schema) schema));
      live = λ clean answered. p.goes.live (q.goes.stays.clean clean) tt;
      of_no_file = q.goes.of_no_file;
    };
    same = λ clean schema.
        let same = p.same (q.goes.stays.clean clean) schema in
        on_ok_weaker r (unchanged_then _ _ _ same) (q.same clean (still_archive _ _ same schema));
    told = λ clean schema s stands.
        let clean_1 = q.goes.stays.clean clean in
        let same = p.same clean_1 schema in
        let seen = still_seen _ _ s same schema stands in (
          p.told clean_1 schema s stands,
          subst (λ (d : Database). more d.trees s) same.0.now_is (q.told clean seen.0 s seen.1),
        );
  }

  -- ---- what the tables say

  -- a reading of the tables, whose fault is mapped
  pub tells_rows : {A : Type 0} {r : Result A TableFault} {t : Result A StoreFault} {fact : Tables → A → Type 0} → Finds g old new r fact
      → MatchResult r (λ y. t ≡ Ok y) (λ e. IsErrAnd t (λ f. f ≡ fault_of_tables e))
      → Tells g old new t (λ db s. MatchResult t (λ x. (a : Tables) → HasTables db a → fact a x) HasGivenUp)
  tells_rows {r = Ok y} {t = t} {fact = fact} h cases =
      subst (λ u. Tells g old new u (λ db s. MatchResult u (λ x. (a : Tables) → HasTables db a → fact a x) HasGivenUp)) (sym cases) (record {
        goes = record {
          stays = h.reads.stays;
          keeps = h.reads.keeps;
          live = λ clean _. h.reads.stays.was_open clean (h.reads.live clean);
          of_no_file = tt;
        };
        same = h.reads.same;
        told = λ clean schema s stands. h.found clean schema;
      })
  tells_rows {r = Err e} {t = Ok x} h cases = absurd cases
  tells_rows {A = A} {r = Err e} {t = Err f} h cases = record {
    goes = record {
      stays = h.reads.stays;
      keeps = h.reads.keeps;
      live = λ clean answered. absurd (not_answered A e (subst (λ u. IsAnswered {A = A} (Err u)) cases answered));
      of_no_file = subst (λ u. IsOfNoFile {A = A} (Err u)) (sym cases) (of_no_file A e);
    };
    same = λ clean schema. tt;
    told = λ clean schema s stands. subst HasGivenUp (sym cases) (gives_up e);
  }

  -- a reading of the tables after one that answered
  pub finds_then : {mid : MutBor (Held S)} {A B E F : Type 0} {x : A} {r : Result B F} {first : Tables → A → Type 0}
      {more : Tables → B → Type 0} → Finds g old mid {A = A} {E = E} (Ok x) first → Finds g mid new r more
      → Finds g old new r (λ a y. first a x × more a y)
  finds_then {x = x} {r = r} {first = first} {more = more} p q = record {
    reads = record {
      stays = stays_then p.reads.stays q.reads.stays;
      keeps = λ clean schema.
          let same = p.reads.same (q.reads.stays.clean clean) schema in
          keeps_then _ _ _ (p.reads.keeps (q.reads.stays.clean clean) schema) (q.reads.keeps clean (still_archive _ _ same schema));
      live = q.reads.live;
      same = λ clean schema.
          let same = p.reads.same (q.reads.stays.clean clean) schema in
          on_ok_weaker r (unchanged_then _ _ _ same) (q.reads.same clean (still_archive _ _ same schema));
    };
    found = λ clean schema.
        let clean_1 = q.reads.stays.clean clean in
        let same = p.reads.same clean_1 schema in
        IfOk-weaker r _ _ (λ y told a stand. (
          p.found clean_1 schema a stand,
          told a (subst (λ (d : Database). HasTables d.trees a) (sym same.0.now_is) stand),
        )) (q.found clean (still_archive _ _ same schema));
  }

  -- a reading of the tables that failed
  pub finds_handed : {A B E F : Type 0} {fault : E} {r : Result B F} {first : Tables → A → Type 0} {fact : Tables → B → Type 0}
      → Finds g old new {A = A} {E = E} (Err fault) first → IsErr r → Finds g old new r fact
  finds_handed {r = Ok y} h fails = let wrong = fails in cc
  finds_handed {r = Err e} h fails = record {
    reads = record { stays = h.reads.stays; keeps = h.reads.keeps; live = λ clean. tt; same = λ clean schema. tt };
    found = λ clean schema. tt;
  }

  -- a reading of the tables, with its fault mapped
  pub finds_mapped : {A : Type 0} {r : Result A TableFault} {t : Result A StoreFault} {fact : Tables → A → Type 0} → Finds g old new r fact
      → MatchResult r (λ y. t ≡ Ok y) (λ e. IsErrAnd t (λ f. f ≡ fault_of_tables e)) → Finds g old new t fact
  finds_mapped {r = Ok y} {t = t} {fact = fact} h cases = subst (λ u. Finds g old new u fact) (sym cases) (record {
    reads = record { stays = h.reads.stays; keeps = h.reads.keeps; live = h.reads.live; same = h.reads.same };
    found = h.found;
  })
  finds_mapped {r = Err e} {t = Ok x} h cases = absurd cases
  finds_mapped {A = A} {r = Err e} {t = Err f} h cases = finds_handed {B = A} {r = Err f} h refl

  -- another result of a reading of the tables that answered
  pub finds_as : {A B E F : Type 0} {x : A} {r : Result B F} {first : Tables → A → Type 0} {fact : Tables → B → Type 0}
      → Finds g old new {A = A} {E = E} (Ok x) first → IfOk r (λ y. (a : Tables) → first a x → fact a y) → Finds g old new r fact
  finds_as {r = r} h more = record {
    reads = record {
      stays = h.reads.stays;
      keeps = h.reads.keeps;
      live = λ clean. any_ok r (h.reads.live clean);
      same = λ clean schema. any_ok r (h.reads.same clean schema);
    };
    found = λ clean schema. IfOk-weaker r _ _ (λ y told a stand. told a (h.found clean schema a stand)) more;
  }

  -- a reading of the tables that says something more
  pub finds_more : {A E : Type 0} {r : Result A E} {fact more : Tables → A → Type 0} → Finds g old new r fact
      → (HasCleanDisk (state g new.now) → IsArchive (state g old.now).now → (a : Tables) → HasTables (state g old.now).now.trees a
      → IfOk r (more a)) → Finds g old new r (λ a x. fact a x × more a x)
  finds_more {r = Ok x} h also = record { reads = h.reads; found = λ clean schema a stand. (h.found clean schema a stand, also clean schema a stand) }
  finds_more {r = Err e} h also = record { reads = h.reads; found = λ clean schema. tt }

  -- what a look-up found in the tables
  pub found_rows : {A : Type 0} {r : Result A TableFault} {t : Result A StoreFault} {fact : Tables → A → Type 0} {told : State → A → Type 0}
      → Finds g old new r fact → MatchResult r (λ y. t ≡ Ok y) (λ e. IsErrAnd t (λ f. f ≡ fault_of_tables e))
      → ((db : Trees) (s : State) → Represents db s → (x : A) → ((a : Tables) → HasTables db a → fact a x) → told s x)
      → Tells g old new t (λ db s. MatchResult t (told s) HasGivenUp)
  found_rows {t = t} h cases more = tells_weaker (tells_rows h cases)
      (λ db s stands h. MatchResult-weaker t h (more db s stands) (λ f up. up))

  -- ---- faults

  -- a fault that is told, or of a call that gave up, is answered
  pub answers_handed : {A B C : Type 0} {fault : StoreFault} {r : Result B StoreFault} {first : Trees → State → Type 0} (view : B → C)
      (told : Trees → State → Result C StoreFault) → Tells g old new {A = A} (Err fault) first
      → IsErr r × IsErrAnd r (λ found. found ≡ fault)
      → ((db : Trees) (s : State) → Represents db s → first db s → IsFindingFault fault (told db s))
      → Tells g old new r (λ db s. Answers view r (told db s))
  answers_handed {r = r} view told h e more =
      tells_handed h e (λ db s stands first. handed_on view _ r (told db s) (more db s stands first) e)

  -- S4, or that the look-up gave up, is the answer of a reading
  pub unknown_answers : {A B C : Type 0} {fault : StoreFault} {r : Result B StoreFault} (view : B → C) (n : ℕ) (f : Driver → Result C StoreFault)
      → Tells g old new {A = A} (Err fault) (λ db s. IsDriver s n (Err fault)) → IsErr r × IsErrAnd r (λ found. found ≡ fault)
      → Tells g old new r (λ db s. Answers view r (reading_of f (driver_of n s)))
  unknown_answers view n f h e =
      answers_handed view (λ db s. reading_of f (driver_of n s)) h e (λ db s stands. unknown_refuses n s _ _ (nobody n s f))

  -- a fault that is told, or of a call that gave up, is that of a call that found nothing
  pub found_handed : {A B C : Type 0} {fault : StoreFault} {r : Result B StoreFault} {first : Trees → State → Type 0}
      {is : Trees → State → B → Type 0} {told : Trees → State → Result C StoreFault} → Tells g old new {A = A} (Err fault) first
      → IsErr r × IsErrAnd r (λ found. found ≡ fault)
      → ((db : Trees) (s : State) → Represents db s → first db s → IsFindingFault fault (told db s))
      → Tells g old new r (λ db s. IsFound (is db s) (told db s) r)
  found_handed {r = r} h e more = tells_handed h e (λ db s stands first. found_on _ _ _ r (more db s stands first) e)

  -- a refusal that an answer decides
  pub found_refused : {A B C : Type 0} {x : A} {fault : StoreFault} {r : Result B StoreFault} {first : Trees → State → Type 0}
      {is : Trees → State → B → Type 0} {told : Trees → State → Result C StoreFault} → Tells g old new (Ok x) first
      → IsErr r × IsErrAnd r (λ found. found ≡ fault) → IsOfNoFile {A = A} (Err fault)
      → ((db : Trees) (s : State) → Represents db s → first db s → told db s ≡ Err fault)
      → Tells g old new r (λ db s. IsFound (is db s) (told db s) r)
  found_refused {A = A} {fault = fault} h e no_file more =
      found_handed (tells_as {B = A} {r = Err fault} h no_file (λ db s stands found. found)) e
      (λ db s stands found. is_told fault _ (more db s stands found))
