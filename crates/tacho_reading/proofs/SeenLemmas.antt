-- What a connection sees after a call that changes nothing.
use Rattle.std.proofs.Common.{sym, subst}
use Rattle.sqlite.specs.Effect.{Database}
use Rattle.sqlite.specs.State.{State as Sqlite, IsUnchanged}
use Rattle.tacho_state.specs.State.{State}
use Rattle.tacho_tables.specs.Tables.{IsArchive}
use Rattle.tacho_reading.specs.Standing.{Represents}

-- the connection still sees an archive
pub still_archive : (old new : Sqlite) → IsUnchanged old new → IsArchive old.now → IsArchive new.now
still_archive old new same = subst IsArchive (sym same.0.now_is)

-- the connection still sees the same tables, which represent the same state
pub still_seen : (old new : Sqlite) (s : State) → IsUnchanged old new → IsArchive old.now → Represents old.now.trees s
    → IsArchive new.now × Represents new.now.trees s
still_seen old new s same schema stands =
    (still_archive old new same schema, subst (λ (d : Database). Represents d.trees s) (sym same.0.now_is) stands)
