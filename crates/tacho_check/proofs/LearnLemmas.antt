-- Readings of an archive, one after the other, and within a transaction of their own.
use Rattle.std.proofs.Common.{◌≡◌, ◌∙◌, false, true≢false, Result, Ok, Err, IfOk, OnOk, IsErr, refl, sym, ap, subst}
use Rattle.std.specs.Borrow.{MutBor}
use Rattle.std.proofs.lemmas.Result.{IfOk-weaker}
use Rattle.sqlite.specs.Effect.{Database}
use Rattle.sqlite.specs.Held.{Held, state}
use Rattle.sqlite.specs.State.{State, HasCleanDisk, IsUnchanged}
use Rattle.sqlite.specs.Store.{Ghosts}
use Rattle.sqlite.specs.Tree.{Trees}
use Rattle.sqlite.proofs.Callers.{unchanged_then}
use Rattle.sqlite_catalog.specs.Listing.{IsSound}
use Rattle.tacho_tables.specs.Schema.{Layout, Made, Carried, archive_schema}
use Rattle.tacho_tables.specs.Tables.{IsArchive}
use Rattle.tacho_tables.proofs.CallLemmas.{stays_then, any_ok}
use Rattle.tacho_tables.proofs.Inside.{keeps_then}
use Rattle.tacho_tables.specs.Ask.{Learns, IsCarriedOver}

-- of a result that is an error, any fact holds for the value
no_ok : {A E : Type 0} (r : Result A E) (P : Type 0) → IsErr r → OnOk r P
no_ok (Ok x) P fails = absurd (let e = fails in cc)
no_ok (Err e) P fails = tt

none_ok : {A E : Type 0} (r : Result A E) (P : A → Type 0) → IsErr r → IfOk r P
none_ok (Ok x) P fails = absurd (let e = fails in cc)
none_ok (Err e) P fails = tt

-- ---- one reading

module _ {S : Type 0} {g : Ghosts S} {old new : MutBor (Held S)} {A B E F : Type 0} {fact : Layout → Trees → A → Type 0}
    {next : Layout → Trees → B → Type 0} where
  -- what was read is taken further
  pub learned : (x : A) (r : Result B F) → Learns g old new {A = A} {E = E} (Ok x) fact
      → ((is : IsArchive (state g old.now).now) → fact is.layout (state g old.now).now.trees x
      → IfOk r (next is.layout (state g old.now).now.trees))
      → Learns g old new r next
  learned x r h more = record {
    reads = record {
      stays = h.reads.stays;
      keeps = h.reads.keeps;
      live = λ clean. any_ok r (h.reads.live clean);
      same = λ clean known. any_ok r (h.reads.same clean known);
    };
    found = λ clean is. more is (h.found clean is);
  }

  -- a reading that failed ends the call
  pub learned_none : (e : E) (r : Result B F) → Learns g old new {A = A} {E = E} (Err e) fact → IsErr r → Learns g old new r next
  learned_none e r h fails = record {
    reads = record {
      stays = h.reads.stays;
      keeps = h.reads.keeps;
      live = λ clean. no_ok r _ fails;
      same = λ clean known. no_ok r _ fails;
    };
    found = λ clean is. none_ok r _ fails;
  }

module _ {S : Type 0} {g : Ghosts S} {old new : MutBor (Held S)} {A E : Type 0} {fact next : Layout → Trees → A → Type 0} where
  -- the call's answer is that of the reading
  pub learned_as : (r : Result A E) → Learns g old new r fact
      → ((is : IsArchive (state g old.now).now) (x : A) → fact is.layout (state g old.now).now.trees x
      → next is.layout (state g old.now).now.trees x)
      → Learns g old new r next
  learned_as r h more = record { reads = h.reads; found = λ clean is. IfOk-weaker r _ _ (more is) (h.found clean is) }

-- ---- a reading after a reading that answered

-- what hasn't changed is still an archive of this layout
still : (x y : State) → IsUnchanged x y → IsArchive x.now → IsArchive y.now
still x y same is = record {
  layout = is.layout;
  schema = ap (λ (d : Database). d.schema) same.0.now_is ∙ is.schema;
  sound = subst (λ (d : Database). IsSound (archive_schema is.layout) d.trees) (sym same.0.now_is) is.sound;
}

module _ {S : Type 0} {g : Ghosts S} {a b c : MutBor (Held S)} {A B E F : Type 0} {first : Layout → Trees → A → Type 0}
    {second : Layout → Trees → B → Type 0} {x : A} where
  -- what both have read
  pub both : Learns g a b {A = A} {E = E} (Ok x) first → {r : Result B F} → Learns g b c r second
      → Learns g a c r (λ layout db y. first layout db x × second layout db y)
  unfolding still
  both p {r} q =
      let same = λ (clean : HasCleanDisk (state g c.now)) (is : IsArchive (state g a.now).now).
      p.reads.same (q.reads.stays.clean clean) is in
      let there = λ (clean : HasCleanDisk (state g c.now)) (is : IsArchive (state g a.now).now).
      still (state g a.now) (state g b.now) (same clean is) is in
      record {
        reads = record {
          stays = stays_then p.reads.stays q.reads.stays;
          keeps = λ clean is. keeps_then (state g a.now) (state g b.now) (state g c.now) (p.reads.keeps (q.reads.stays.clean clean) is)
              (q.reads.keeps clean (there clean is));
          live = q.reads.live;
          same = λ clean is. if_unchanged r (same clean is) (q.reads.same clean (there clean is));
        };
        found = λ clean is.
            let trees = ap (λ (d : Database). d.trees) (same clean is).0.now_is in
            IfOk-weaker r _ _ (λ y h. (p.found (q.reads.stays.clean clean) is, subst (λ (db : Trees). second is.layout db y) trees h))
            (q.found clean (there clean is));
      }
    where
      if_unchanged : (r : Result B F) → IsUnchanged (state g a.now) (state g b.now)
          → OnOk r (IsUnchanged (state g b.now) (state g c.now))
          → OnOk r (IsUnchanged (state g a.now) (state g c.now))
      if_unchanged (Ok y) one two = unchanged_then (state g a.now) (state g b.now) (state g c.now) one two
      if_unchanged (Err e) one two = tt

-- ---- the table of schema 1

-- an archive that wasn't carried over was made as it is
made : (layout : Layout) → ¬ (archive_schema layout ≡ archive_schema Carried) → layout ≡ Made
made Made apart = refl
made Carried apart = absurd (apart refl)

pub is_made : (s : State) (is : IsArchive s.now) → ¬ IsCarriedOver s → is.layout ≡ Made
is_made s is apart = made is.layout (λ same. apart (is.schema ∙ same))
