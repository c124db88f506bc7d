-- What the tables of schema 1 represented, and what migration makes of them.
use Rattle.std.proofs.Common.{◌≡◌, ◌∙◌, ℕ, ◌+◌, ◌==◌, List, [], ◌∷◌, map, filter, refl, sym, ap}
use Rattle.std.specs.List.{AllByRecursion}
use Rattle.sqlite.specs.Effect.{Database}
use Rattle.sqlite_trees.proofs.ListLemmas.{filter-map}
use Rattle.tacho_tables.specs.Rows.{EntryRow, OldEntryRow, by_office}
use Rattle.tacho_tables.specs.Tables.{OldTables, IsArchive, Carries, carry_over}
use Rattle.tacho_reading.specs.Standing.{RowsRepresent, RowsRepresentEach, TablesRepresent, Represents, entry_row, rows_of_entries}
use Rattle.tacho_store.specs.Old.{OldEntry, OldDriver, OldState, StoodFor, entry_by_office, driver_by_office, with_office, old_entry_rows}

-- the row of schema 1 from which a migrated row comes
abbrev was : EntryRow → OldEntryRow
was r = record { driver = r.driver; number = r.number; start = r.start; past = r.past; mark = r.mark; withdrawn = r.withdrawn }

-- migrated rows come from the rows of schema 1
were : (rows : List OldEntryRow) → map was (map by_office rows) ≡ rows
were [] = refl
were (r ∷ rows) = ap (λ (x : List OldEntryRow). r ∷ x) (were rows)

-- the rows of the migrated entries are the migrated rows of the entries of schema 1
rows_carried : (n i : ℕ) (es : List OldEntry) → rows_of_entries n i (map entry_by_office es) ≡ map by_office (old_entry_rows n i es)
rows_carried n i [] = refl
rows_carried n i (e ∷ es) = ap (λ (x : List EntryRow). entry_row n i (entry_by_office e) ∷ x) (rows_carried n (i + 1) es)

-- so a driver's rows of schema 1 were those of the driver's entries
own_rows : (t : OldTables) (d : OldDriver) → RowsRepresent (carry_over t) (driver_by_office d)
    → filter (λ (r : OldEntryRow). r.driver == d.number) t.entries ≡ old_entry_rows d.number 1 d.entries
own_rows t d h =
    let n = d.number in
    let mine = filter (λ (r : OldEntryRow). r.driver == n) t.entries in
    let same : map by_office mine ≡ map by_office (old_entry_rows n 1 d.entries) =
    sym (filter-map (λ (r : EntryRow). r.driver == n) by_office t.entries) ∙ h.entries ∙ rows_carried n 1 d.entries in
    sym (were mine) ∙ ap (map was) same ∙ were (old_entry_rows n 1 d.entries)

-- likewise for each driver
all_rows : (t : OldTables) (s : OldState) → RowsRepresentEach (carry_over t) (with_office s)
    → AllByRecursion (λ (d : OldDriver). filter (λ (r : OldEntryRow). r.driver == d.number) t.entries
    ≡ old_entry_rows d.number 1 d.entries) s
all_rows t [] h = tt
all_rows t (d ∷ s) h = (own_rows t d h.0, all_rows t s h.1)

-- if the migrated tables represent the state with the office as the author, the old rows were those of each driver's entries
pub old_rows : (t : OldTables) (s : OldState) → TablesRepresent (carry_over t) (with_office s)
    → AllByRecursion (λ (d : OldDriver). filter (λ (r : OldEntryRow). r.driver == d.number) t.entries
    ≡ old_entry_rows d.number 1 d.entries) s
old_rows t s h = all_rows t s h.each

-- the migrated tables represent the state in which the office is the author of each entry
pub carried_over : (old new : Database) (s : OldState) → Carries old new → StoodFor old.trees s
    → IsArchive new × Represents new.trees (with_office s)
unfolding StoodFor Represents
carried_over old new s it stood = (it.schema, (carry_over stood.0, it.stands stood.0 stood.1, stood.2))
