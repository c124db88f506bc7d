-- Tables that represent a state have the stored rows of each driver.
use Rattle.std.proofs.Common.{◌≡◌, ℤ, [], ◌∷◌, subst}
use Rattle.std.specs.List.{AllByRecursion}
use Rattle.sqlite.specs.Tree.{Trees}
use Rattle.sqlite_catalog.specs.Listing.{IsSound}
use Rattle.sqlite_trees.proofs.ListLemmas.{IsPermutation-filter}
use Rattle.tacho_state.specs.State.{State}
use Rattle.tacho_state.specs.Within.{AreWithinLimits}
use Rattle.tacho_tables.specs.Schema.{Layout, archive_schema}
use Rattle.tacho_tables.specs.Tables.{Tables, HasTables}
use Rattle.tacho_tables.proofs.CatalogLemmas.{one_layout}
use Rattle.tacho_tables.specs.Readable.{is_own}
use Rattle.tacho_tables.specs.declared.table.TableName.{TableName}
use Rattle.tacho_tables.specs.declared.table.TableName.TheVariants.{Drivers, Downloads, CardSpans, EntryRows, Held}
use Rattle.tacho_reading.specs.Standing.{Represents}
use Rattle.tacho_check.specs.Check.{Agree, IsWithinUpTo, IsSoundAt, IsFirstUnsound}
use Rattle.tacho_check.specs.declared.table.Unsound.{Unsound}

-- the stored rows of a driver in a table are those of the typed rows
pub tables_agree : (db : Trees) (n : ℤ) (t : Tables) (h : HasTables db t) (j : TableName) → Agree h.layout db n t j
tables_agree db n t h Drivers = IsPermutation-filter (is_own n) _ _ h.drivers.same
tables_agree db n t h Downloads = IsPermutation-filter (is_own n) _ _ h.downloads.same
tables_agree db n t h CardSpans = IsPermutation-filter (is_own n) _ _ h.card_spans.same
tables_agree db n t h EntryRows = IsPermutation-filter (is_own n) _ _ h.entries.same
tables_agree db n t h Held = IsPermutation-filter (is_own n) _ _ h.held.same

-- drivers within their limits are so up to each table
within_up_to : (k : TableName) (s : State) → AreWithinLimits s → AllByRecursion (IsWithinUpTo k) s
within_up_to k [] h = tt
within_up_to k (d ∷ s) h =
    let own = h.0 in
    (record { columns = own.columns; files = λ before. own.files; entries = λ before. own.entries }, within_up_to k s h.1)

-- so the rows of each driver are sound up to each table
pub represented_is_sound : (layout : Layout) (db : Trees) (s : State) → IsSound (archive_schema layout) db → Represents db s
    → AreWithinLimits s → (n : ℤ) (k : TableName) → IsSoundAt layout db n k
unfolding Represents
represented_is_sound layout db s sound stands within n k =
    let same : stands.1.layout ≡ layout = one_layout db stands.1.layout layout stands.1.sound sound in (
      s,
      stands.0,
      stands.2,
      (λ j before. subst (λ (l : Layout). Agree l db n stands.0 j) same (tables_agree db n stands.0 stands.1 j)),
      within_up_to k s within,
    )

-- so none is unsound
pub no_state : (db : Trees) (u : Unsound) (s : State) → IsFirstUnsound db u → AreWithinLimits s → ¬ (Represents db s)
no_state db u s h within stands = h.at.unsound (represented_is_sound h.layout db s h.sound stands within u.driver u.table)
