-- Consecutive calls within a transaction.
use Rattle.std.proofs.Common.{◌≡◌, ◌∙◌, ℕ, Err, List, Ok, OnOk, Result, subst, sym}
use Rattle.std.specs.Borrow.{MutBor}
use Rattle.std.proofs.lemmas.Result.{IfOk-weaker, on_ok_weaker}
use Rattle.sqlite.specs.Effect.{Database}
use Rattle.sqlite.specs.Given.{IsPlain}
use Rattle.sqlite.specs.Listing.{understood}
use Rattle.sqlite.specs.Schema.{Schema}
use Rattle.sqlite.specs.Order.{Row}
use Rattle.sqlite.specs.State.{Executes, Shown}
use Rattle.sqlite.specs.Store.{Ghosts}
use Rattle.sqlite.specs.Held.{Held, state}
use Rattle.sqlite.proofs.StateLemmas.{survives_then}
use Rattle.tacho_tables.specs.Schema.{Layout, archive_schema}
use Rattle.tacho_tables.specs.Tables.{Tables, HasTables, IsArchive, Turns}
use Rattle.sqlite.specs.Tree.{Trees}
use Rattle.tacho_tables.specs.Ask.{Learns}
use Rattle.tacho_tables.specs.Calls.{Stays, ReadsOf, ReadsText, RunsText, Changes, Finds}
use Rattle.tacho_tables.proofs.Inside.{keeps_then}

module _ {S : Type 0} {g : Ghosts S} {a b c : MutBor (Held S)} where
  pub stays_then : Stays g a b → Stays g b c → Stays g a c
  stays_then p q = record {
    same_reference = q.same_reference ∙ p.same_reference;
    clean = λ clean. p.clean (q.clean clean);
    was_open = λ clean now. p.was_open (q.clean clean) (q.was_open clean now);
    survives = survives_then (state g a.now) (state g b.now) (state g c.now) (λ _. ⊥) (λ _. ⊥) (λ _. ⊥) (λ _ db none. none) (λ _ db none. none) p.survives q.survives;
  }

  -- a change after a change that succeeded
  pub changes_then : {A B E F : Type 0} {x : A} {r : Result B F} {f h : Tables → Tables} → Changes g a b {A = A} {E = E} (Ok x) f → Changes g b c r h
      → Changes g a c r (λ t. h (f t))
  changes_then {r = r} p q = record {
    stays = stays_then p.stays q.stays;
    keeps = λ clean. keeps_then (state g a.now) (state g b.now) (state g c.now) (p.keeps (q.stays.clean clean)) (q.keeps clean);
    turned = λ clean schema.
        let first = p.turned (q.stays.clean clean) schema in
        on_ok_weaker r (λ last. record { schema = last.schema; stands = λ t stand. last.stands _ (first.stands t stand) }) (q.turned clean first.schema);
  }

-- ---- readings

-- an SQL text that is a reading under each layout is a reading in every archive
pub plain_in : (text : List ℕ) → ((layout : Layout) → IsPlain (understood (archive_schema layout) text))
    → (d : Database) → IsArchive d → IsPlain (understood d.schema text)
plain_in text plain d is = subst (λ (s : Schema). IsPlain (understood s text)) (sym is.schema) (plain is.layout)

-- a fact holds for the value of a result, if it holds at all
pub any_ok : {A E : Type 0} (r : Result A E) {P : Type 0} → P → OnOk r P
any_ok (Ok x) holds = holds
any_ok (Err e) holds = tt

module _ {S : Type 0} {g : Ghosts S} {a b : MutBor (Held S)} {A E : Type 0} {r : Result A E} {text : List ℕ} {params : Row}
    {told : List Row → A → Type 0} (it : ReadsText g a b r text params told) where
  -- a reading of a database for which `Known` holds
  pub reads_known : {Known : Database → Type 0} → ((d : Database) → Known d → IsPlain (understood d.schema text)) → ReadsOf g a b r Known
  reads_known plain = record {
    stays = it.stays;
    keeps = λ clean known. it.keeps clean (plain _ known);
    live = it.live;
    same = λ clean known. it.same clean (plain _ known);
  }

  -- a reading of an archive, whose answer is a fact of its tables
  pub finds : {fact : Tables → A → Type 0} → ((layout : Layout) → IsPlain (understood (archive_schema layout) text))
      → (IsArchive (state g a.now).now → (rows : List Row) → Shown text params (state g a.now) (state g b.now) rows
      → (t : Tables) → HasTables (state g a.now).now.trees t → (answer : A) → told rows answer → fact t answer)
      → Finds g a b r fact
  finds plain found = record {
    reads = reads_known (plain_in text plain);
    found = λ clean is. IfOk-weaker r _ _ (λ answer was t stands. found is was.0 was.1 t stands answer was.2) (it.told clean);
  }

-- a write that changes the tables of an archive so
pub changes : {S : Type 0} {g : Ghosts S} {a b : MutBor (Held S)} {A E : Type 0} {r : Result A E} {text : List ℕ} {params : Row}
    → RunsText g a b r text params → {step : Tables → Tables}
    → (IsArchive (state g a.now).now → (count : ℕ) → Executes text params (state g a.now) (state g b.now) (Ok count)
    → Turns (state g a.now) (state g b.now) step) → Changes g a b r step
changes {r = r} it turned = record {
  stays = it.stays;
  keeps = it.keeps;
  turned = λ clean is. on_ok_weaker r (λ ran. turned is ran.0 ran.1) (it.ran clean);
}

-- a reading of an archive that returns the rows that its text shows
pub learns : {S : Type 0} {g : Ghosts S} {a b : MutBor (Held S)} {A E : Type 0} (items : A → List Row) {r : Result A E} {text : List ℕ}
    {params : Row} → ReadsText g a b r text params (λ rows found. items found ≡ rows) → (fact : Layout → Trees → List Row → Type 0)
    → ((is : IsArchive (state g a.now).now) → IsPlain (understood (state g a.now).now.schema text))
    → ((is : IsArchive (state g a.now).now) (rows : List Row) → Shown text params (state g a.now) (state g b.now) rows
    → fact is.layout (state g a.now).now.trees rows)
    → Learns g a b r (λ layout db found. fact layout db (items found))
learns {g = g} {a = a} items {r = r} it fact plain shown = record {
  reads = record {
    stays = it.stays;
    keeps = λ clean is. it.keeps clean (plain is);
    live = it.live;
    same = λ clean is. it.same clean (plain is);
  };
  found = λ clean is. IfOk-weaker r _ _
      (λ answer was. subst (fact is.layout (state g a.now).now.trees) (sym was.2) (shown is was.0 was.1)) (it.told clean);
}
