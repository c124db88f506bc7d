-- The next archive that is opened finds the trees that a crash has left.
use Rattle.std.proofs.Common.{◌≡◌, ◌⊎◌, List, [], ◌∷◌, IsTrue, inl, inr, sym, subst}
use Rattle.sqlite.specs.Effect.{Database}
use Rattle.sqlite.specs.State.{State as Sqlite, IsLive, HasCleanDisk, Survives}
use Rattle.sqlite.specs.Tree.{Trees}
use Rattle.tacho_tables.specs.Tables.{IsArchive}
use Rattle.tacho_state.specs.State.{State}
use Rattle.tacho_tables.proofs.CatalogLemmas.{is_archive}
use Rattle.tacho_reading.specs.Standing.{Represents}
use Rattle.tacho_reading.specs.Kept.{SeesWhileOpen, IsOfOne, LeavesOneOf}
use Rattle.tacho_store.specs.Opening.{IsAdopted}

-- a connection that shows what an earlier one showed sees the state that the earlier one's tables represented
pub shows_found : (old new : Sqlite) → IsLive old → (IsTrue new.is_open → IsTrue old.is_open)
    → (IsTrue new.is_open → new.now ≡ old.now) → (s : State) → Represents old.now.trees s → SeesWhileOpen new s
unfolding Represents
shows_found old new live was_open same s it opened =
    let has = is_archive old.now it.0 it.1 (live (was_open opened)).0 in
    subst (λ (d : Database). IsArchive d × Represents d.trees s) (sym (same opened)) (has, it)

-- if one fact implies another, and the first is true of one of some states, the second is too
one_weaker : (fact other : State → Type 0) → ((s : State) → fact s → other s) → (states : List State) → IsOfOne fact states
    → IsOfOne other states
one_weaker fact other f [] none = none
one_weaker fact other f (s ∷ states) (inl is) = inl (f s is)
one_weaker fact other f (s ∷ states) (inr more) = inr (one_weaker fact other f states more)

-- an archive that is adopted from the trees that a crash left has one of the states
pub found_again : (K : Type 0) (stands : K → State → Type 0) (is_live : K → Type 0) (leaves : K → List State → Type 0)
    (left found : Sqlite) (archive : K) (states : List State) → LeavesOneOf left states → left.may_leave found.now.trees
    → IsAdopted stands is_live leaves found archive → IsOfOne (stands archive) states
found_again K stands is_live leaves left found archive states leave may it =
    one_weaker _ (stands archive) it.held states (leave found.now.trees may)

-- of two states, it is the first or the second
one_of_two : (fact : State → Type 0) (a b : State) → IsOfOne fact (a ∷ b ∷ []) → fact a ⊎ fact b
one_of_two fact a b (inl is) = inl is
one_of_two fact a b (inr (inl is)) = inr is
one_of_two fact a b (inr (inr none)) = absurd none

-- an archive that is adopted from the trees that a crash left has the first state or the second
pub found_of_two : (K : Type 0) (stands : K → State → Type 0) (is_live : K → Type 0) (leaves : K → List State → Type 0)
    (left found : Sqlite) (archive : K) (a b : State) → LeavesOneOf left (a ∷ b ∷ []) → left.may_leave found.now.trees
    → IsAdopted stands is_live leaves found archive → stands archive a ⊎ stands archive b
found_of_two K stands is_live leaves left found archive a b leave may it =
    one_of_two (stands archive) a b (found_again K stands is_live leaves left found archive (a ∷ b ∷ []) leave may it)

-- if what survives a crash is known only for a clean disk, it is known for any disk
pub crash_by : (old new : Sqlite) (P : Trees → Type 0) → Survives old new (λ _. Unit {0}) → (HasCleanDisk new → Survives old new P)
    → Survives old new P
crash_by old new P whatever it = record {
  clean = whatever.clean;
  shield = whatever.shield;
  counts = whatever.counts;
  limit = whatever.limit;
  closes = whatever.closes;
  crash = λ clean. (it clean).crash clean;
}
