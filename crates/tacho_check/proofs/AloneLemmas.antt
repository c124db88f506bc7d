-- A question to an archive, in a transaction of its own that is rolled back.
use Rattle.std.proofs.Common.{◌≡◌, ◌∙◌, true, Result, Ok, Err, IfOk, IsTrue, sym, ap, subst, arith}
use Rattle.std.specs.Prelude.{IsErrAnd, MatchResult}
use Rattle.std.specs.Borrow.{MutBor}
use Rattle.sqlite.specs.Held.{Held, state}
use Rattle.sqlite.specs.State.{HasCleanDisk, IsRolledBack, Survives}
use Rattle.sqlite.specs.Store.{Ghosts}
use Rattle.sqlite.specs.Tree.{Trees}
use Rattle.sqlite.proofs.StateLemmas.{survives_then}
use Rattle.sqlite_catalog.specs.Listing.{IsSound}
use Rattle.tacho_state.specs.declared.fault.StoreFault.{StoreFault}
use Rattle.tacho_tables.specs.Schema.{Layout, archive_schema}
use Rattle.tacho_tables.specs.Tables.{IsArchive}
use Rattle.tacho_tables.specs.Calls.{Asks, Reads}
use Rattle.tacho_tables.proofs.CallLemmas.{any_ok}
use Rattle.tacho_check.specs.Checked.{Checks}

-- a fact of a value still holds after its faults were mapped
if_mapped : {A E F : Type 0} (r : Result A E) (t : Result A F) (Q : E → F → Type 0) (P : A → Type 0)
    → MatchResult r (λ y. t ≡ Ok y) (λ e. IsErrAnd t (Q e)) → IfOk r P → IfOk t P
if_mapped (Ok y) t Q P cases h = subst (λ u. IfOk u P) (sym cases) h
if_mapped (Err e) (Ok x) Q P cases h = absurd cases
if_mapped (Err e) (Err f) Q P cases h = tt

-- `inside` and `read` are the transaction before and after the reading, `back` is the connection after the rollback, and `new` is the
-- connection after `ask`
module _ {S : Type 0} (g : Ghosts S) (old : Held S) (inside read : MutBor (Held S)) (back new : Held S)
    (begun : inside.now ≡ record old { in_transaction = true })
    (settled : IsTrue (state g old).is_open → (state g old).now ≡ (state g old).committed)
    {A E : Type 0} (found : Result A E) (reads : Reads g inside read found)
    {B F : Type 0} (asked : Result B F) (asks : Asks g back new asked)
    (undone : HasCleanDisk (state g back) → IsRolledBack (state g read.now) (state g back))
    (ended : Survives (state g read.now) (state g back) (λ _. ⊥)) where
  clean_read : HasCleanDisk (state g new) → HasCleanDisk (state g read.now)
  clean_read clean = let last = asks.clean clean in let less = ended.clean in omega (arith, last, less)

  clean_old : HasCleanDisk (state g new) → HasCleanDisk (state g old)
  clean_old clean = subst (λ (h : Held S). HasCleanDisk (state g h)) begun (reads.stays.clean (clean_read clean))

  open_read : HasCleanDisk (state g new) → IsTrue (state g new).is_open → IsTrue (state g read.now).is_open
  open_read clean open_now = (undone (asks.clean clean)).was_open (asks.was_open clean open_now)

  open_old : HasCleanDisk (state g new) → IsTrue (state g new).is_open → IsTrue (state g old).is_open
  open_old clean open_now =
      subst (λ (h : Held S). IsTrue (state g h).is_open) begun (reads.stays.was_open (clean_read clean) (open_read clean open_now))

  -- within the transaction it is the same archive
  archive_inside : IsArchive (state g old).now → IsArchive (state g inside.now).now
  archive_inside is = record {
    layout = is.layout;
    schema = ap (λ (h : Held S). (state g h).now.schema) begun ∙ is.schema;
    sound = subst (λ (h : Held S). IsSound (archive_schema is.layout) (state g h).now.trees) (sym begun) is.sound;
  }

  same_rows : HasCleanDisk (state g new) → IsTrue (state g new).is_open → IsArchive (state g old).now
      → (state g new).now ≡ (state g old).now
  same_rows clean open_now is =
      let back_to = (undone (asks.clean clean)).undone (asks.was_open clean open_now) in
      let kept = (reads.keeps (clean_read clean) (archive_inside is)).committed (open_read clean open_now) in
      asks.same clean open_now (back_to.0 ∙ sym back_to.1) ∙ back_to.0 ∙ kept ∙ ap (λ (h : Held S). (state g h).committed) begun
      ∙ sym (settled (open_old clean open_now))

  -- a crash leaves nothing new
  survives_read : Survives (state g old) (state g read.now) (λ _. ⊥)
  survives_read =
      let s = subst (λ (h : Held S). Survives (state g h) (state g read.now) (λ _. ⊥)) begun reads.stays.survives in
      record { clean = s.clean; shield = s.shield; counts = s.counts; limit = s.limit; closes = s.closes; crash = s.crash }

  survives_all : Survives (state g old) (state g new) (λ _. ⊥)
  survives_all =
      let first = survives_then (state g old) (state g read.now) (state g back) (λ _. ⊥) (λ _. ⊥) (λ _. ⊥) (λ _ db none. none)
      (λ _ db none. none) survives_read ended in
      survives_then (state g old) (state g back) (state g new) (λ _. ⊥) (λ _. ⊥) (λ _. ⊥) (λ _ db none. none) (λ _ db none. none) first
      asks.survives

  -- `ask` answered, and what was read is told
  pub alone_tells : {fact : Layout → Trees → A → Type 0} (r : Result A StoreFault)
      → (HasCleanDisk (state g new) → IsTrue (state g new).is_open) → (Q : E → StoreFault → Type 0)
      → MatchResult found (λ y. r ≡ Ok y) (λ e. IsErrAnd r (Q e))
      → (HasCleanDisk (state g read.now) → (is : IsArchive (state g inside.now).now)
      → IfOk found (fact is.layout (state g inside.now).now.trees))
      → Checks g old new r fact
  unfolding clean_old open_old same_rows survives_all clean_read archive_inside
  alone_tells {fact = fact} r live Q cases told = record {
    clean = clean_old;
    was_open = open_old;
    live = λ clean. any_ok r (live clean);
    same = same_rows;
    survives = survives_all;
    found = λ clean is. if_mapped found r Q (fact is.layout (state g old).now.trees) cases
        (subst (λ (h : Held S). IfOk found (fact is.layout (state g h).now.trees)) begun
        (told (clean_read clean) (archive_inside is)));
  }
