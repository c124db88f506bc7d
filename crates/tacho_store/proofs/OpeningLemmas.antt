-- What the version of a store says of its tables.
use Rattle.std.proofs.Common.{◌≡◌, ℕ}
use Rattle.sqlite.specs.State.{State as Sqlite}
use Rattle.tacho_tables.specs.Schema.{current_version, old_version}
use Rattle.tacho_tables.specs.Tables.{IsVersion}
use Rattle.tacho_state.specs.State.{State}
use Rattle.tacho_reading.specs.Standing.{Represents}
use Rattle.tacho_store.specs.Old.{OldState, StoodFor}
use Rattle.tacho_store.specs.Opening.{IsOld}

-- tables of which the version can only be 2 represent no state of schema 1
pub not_of_one : (old : Sqlite) → ((version : ℕ) → IsVersion version old.now.trees → version ≡ current_version)
    → (s : OldState) → ¬ StoodFor old.now.trees s
unfolding StoodFor
not_of_one old it s stood = absurd (let two = it old_version stood.1.meta in cc)

-- those of an old store represent no state of schema 2
pub not_of_two : (old : Sqlite) → IsOld old → (s : State) → ¬ Represents old.now.trees s
unfolding Represents
not_of_two old it s stands = absurd (let two = it.version current_version stands.1.meta in cc)
