-- A check of a connection, and of its store.
use Rattle.std.proofs.Common.{◌≡◌, ◌∙◌, Bool, true, false, true≢false, Option, Result, Ok, Err, IfOk, OnOk, IsTrue, refl, sym, ap, subst}
use Rattle.std.proofs.lemmas.Result.{IfOk-weaker, on_ok_weaker}
use Rattle.sqlite.specs.Effect.{Database}
use Rattle.sqlite.specs.Held.{Held, state}
use Rattle.sqlite.specs.State.{HasCleanDisk, IsLive}
use Rattle.sqlite.specs.Store.{Ghosts}
use Rattle.sqlite.specs.Tree.{Trees}
use Rattle.sqlite.proofs.StateLemmas.{survives_then}
use Rattle.sqlite_catalog.specs.Listing.{IsSound}
use Rattle.tacho_state.specs.declared.fault.StoreFault.{StoreFault}
use Rattle.tacho_tables.specs.Schema.{Layout, IsArchiveSchema, archive_schema}
use Rattle.tacho_tables.specs.Tables.{IsArchive}
use Rattle.tacho_tables.proofs.CatalogLemmas.{archive_of}
use Rattle.tacho_tables.specs.Readable.{AreAllNumbered}
use Rattle.tacho_check.specs.declared.table.Unsound.{Unsound}
use Rattle.tacho_check.specs.Checked.{IsChecked, Checks}

-- the same database is an archive of the same layout
same_archive : (x y : Database) → y ≡ x → IsArchive x → IsArchive y
same_archive x y same is = record {
  layout = is.layout;
  schema = ap (λ (d : Database). d.schema) same ∙ is.schema;
  sound = subst (λ (d : Database). IsSound (archive_schema is.layout) d.trees) (sym same) is.sound;
}

-- ---- a question after a question that was answered

module _ {S : Type 0} (g : Ghosts S) (a b c : Held S) {A B : Type 0} (first : Layout → Trees → A → Type 0)
    (second third : Layout → Trees → B → Type 0)
    (x : A) (r : Result B StoreFault) (p : Checks g a b (Ok x) first) (q : Checks g b c r second) where
  -- nothing has changed before the second question
  same_there : HasCleanDisk (state g c) → IsArchive (state g a).now → (state g b).now ≡ (state g a).now
  same_there clean is = p.same (q.clean clean) (p.live (q.clean clean)) is

  archive_there : HasCleanDisk (state g c) → IsArchive (state g a).now → IsArchive (state g b).now
  archive_there clean is = same_archive (state g a).now (state g b).now (same_there clean is) is

  pub checks_then : ((layout : Layout) (db : Trees) → IsSound (archive_schema layout) db → first layout db x → (y : B)
      → second layout db y → third layout db y)
      → Checks g a c r third
  unfolding archive_there same_archive
  checks_then more = record {
    clean = λ clean. p.clean (q.clean clean);
    was_open = λ clean now. p.was_open (q.clean clean) (q.was_open clean now);
    live = q.live;
    same = λ clean now is. q.same clean now (archive_there clean is) ∙ same_there clean is;
    survives =
        survives_then (state g a) (state g b) (state g c) (λ _. ⊥) (λ _. ⊥) (λ _. ⊥) (λ _ db none. none) (λ _ db none. none)
        p.survives q.survives;
    found = λ clean is.
        let trees = ap (λ (d : Database). d.trees) (same_there clean is) in
        IfOk-weaker r (second is.layout (state g b).now.trees) (third is.layout (state g a).now.trees)
        (λ y h. more is.layout (state g a).now.trees is.sound (p.found (q.clean clean) is) y
        (subst (λ (db : Trees). second is.layout db y) trees h)) (q.found clean (archive_there clean is));
  }

-- ---- the store of a connection that was checked

both : {A E : Type 0} (r : Result A E) (P : Type 0) (Q R : A → Type 0) → ((x : A) → P → Q x → R x) → OnOk r P → IfOk r Q → IfOk r R
both (Ok x) P Q R more p q = more x p q
both (Err e) P Q R more p q = tt

on_ok_both : {A E P Q R : Type 0} (r : Result A E) → (P → Q → R) → OnOk r P → OnOk r Q → OnOk r R
on_ok_both (Ok x) more p q = more p q
on_ok_both (Err e) more p q = tt

-- what isn't broken isn't shut
pub open_if_whole : (is_open broken : Bool) → (is_open ≡ false → IsTrue broken) → broken ≡ false → IsTrue is_open
open_if_whole true broken h whole = refl
open_if_whole false broken h whole = absurd (true≢false (sym (h refl) ∙ whole))

-- a fact of the value, if another fact, which holds where there is one, has it
given : {A E : Type 0} (r : Result A E) (P : Type 0) (Q : P → A → Type 0) → OnOk r P → ((p : P) → IfOk r (Q p))
    → IfOk r (λ x. (p : P) × Q p x)
given (Ok x) P Q p q = (p, q p)
given (Err e) P Q p q = tt

module _ {S : Type 0} (g : Ghosts S) (old new : Held S) (store : S) (r : Result (Option Unsound) StoreFault)
    (h : Checks g old new r (λ layout db found. AreAllNumbered layout db → IsChecked layout db found))
    (settled : IsTrue (state g new).is_open → (state g new).now ≡ (state g new).committed)
    (undone : (g.view store).trees ≡ (g.view new.store).committed) (clean : HasCleanDisk (state g new))
    (has : IsArchiveSchema (state g old).now.schema) (live : IsLive (state g old)) where
  -- if there is an answer, it was an archive
  is_found : OnOk r (IsArchive (state g old).now)
  is_found = on_ok_weaker r (λ now. archive_of (state g old).now has (live (h.was_open clean now)).0) (h.live clean)

  -- it has the same rows
  pub same_rows : OnOk r ((g.view store).trees ≡ (state g old).now.trees)
  same_rows = on_ok_both r (λ now is. undone ∙ sym (ap (λ (d : Database). d.trees) (settled now))
      ∙ ap (λ (d : Database). d.trees) (h.same clean now is)) (h.live clean) is_found

  -- and so what was found is true, if the store has numbered its rows
  pub rows_checked : ((layout : Layout) → IsSound (archive_schema layout) (g.view store).trees → AreAllNumbered layout (g.view store).trees)
      → IfOk r (λ found. (is : IsArchive (state g old).now) × IsChecked is.layout (state g old).now.trees found)
  rows_checked numbered = given r (IsArchive (state g old).now) (λ is. IsChecked is.layout (state g old).now.trees) is_found
      (λ is.
      let layout = is.layout in
      both r ((g.view store).trees ≡ (state g old).now.trees)
      (λ found. AreAllNumbered layout (state g old).now.trees → IsChecked layout (state g old).now.trees found)
      (IsChecked layout (state g old).now.trees)
      (λ found same checked. checked (subst (AreAllNumbered layout) same
      (numbered layout (subst (IsSound (archive_schema layout)) (sym same) is.sound))))
      same_rows (h.found clean is))
