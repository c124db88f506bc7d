-- Private to tacho_tables: Readings of rows as they are stored.
use Rattle.std.specs.Prelude.{◌≡◌, ℕ, ℤ, List, [], ◌∷◌, codes, map, take, Result, IfOk, IsPermutation}
use Rattle.std.specs.Borrow.{MutBor}
use Rattle.sqlite.specs.Held.{Held as Connection, state}
use Rattle.sqlite.specs.Order.{Row, column}
use Rattle.sqlite.specs.State.{State, HasCleanDisk}
use Rattle.sqlite.specs.Store.{Ghosts}
use Rattle.sqlite.specs.Tree.{Trees}
use Rattle.tacho_tables.specs.declared.table.TableName.{TableName}
use Rattle.tacho_tables.specs.declared.table.TableName.TheVariants.{Drivers, Downloads, CardSpans, EntryRows, Held}
use Rattle.tacho_tables.specs.Schema.{Layout, Carried, archive_schema}
use Rattle.tacho_tables.specs.Tables.{IsArchive}
use Rattle.tacho_tables.specs.Calls.{Reads}
use Rattle.tacho_tables.specs.Readable.{IsReadable, own_rows, stored_rows}

-- a reading of an archive, whatever rows it has, whose answer is a fact of the stored rows
pub record Learns {S : Type 0} (g : Ghosts S) (old new : MutBor (Connection S)) {A E : Type 0} (result : Result A E)
    (fact : Layout → Trees → A → Type 0) : Type 0 where
  pub reads : Reads g old new result
  pub found : HasCleanDisk (state g new.now) → (is : IsArchive (state g old.now).now)
      → IfOk result (fact is.layout (state g old.now).now.trees)

-- likewise of an archive whose rows can be read as those of drivers
abbrev pub LearnsIfReadable : {S : Type 0} → Ghosts S → MutBor (Connection S) → MutBor (Connection S) → {A E : Type 0} → Result A E
    → (Layout → Trees → A → Type 0) → Type 0
LearnsIfReadable g old new result fact = Learns g old new result (λ layout db found. IsReadable layout db → fact layout db found)

-- the schema is that of an archive that was carried over, which keeps the table of schema 1
abbrev pub IsCarriedOver : State → Type 0
IsCarriedOver s = s.now.schema ≡ archive_schema Carried

-- the stored rows of a driver, table by table
abbrev pub own_in : Layout → Trees → ℤ → TableName → List Row
own_in layout db n j = own_rows n (stored_rows layout j db)

-- ---- what is shown

-- what readings show of a row without its hidden number: of spans start, past and mark; of downloads number, part and file; of entries all
-- but the driver
abbrev pub three_shown : Row → Row
three_shown w = column w 1 ∷ column w 2 ∷ column w 3 ∷ []

abbrev pub seven_shown : Row → Row
seven_shown w = column w 1 ∷ column w 2 ∷ column w 3 ∷ column w 4 ∷ column w 5 ∷ column w 6 ∷ column w 7 ∷ []

-- of a row of `drivers`: all columns, without the empty one that stands in the number's place; and of one of which only the number is asked
abbrev pub driver_values : Row → Row
driver_values w = column w 0 ∷ column w 2 ∷ column w 3 ∷ column w 4 ∷ column w 5 ∷ column w 6 ∷ column w 7 ∷ []

abbrev pub number_shown : Row → Row
number_shown w = column w 0 ∷ []

-- of a driver's row of a table
abbrev pub shown_of : TableName → Row → Row
shown_of Drivers = driver_values
shown_of Downloads = three_shown
shown_of CardSpans = three_shown
shown_of EntryRows = seven_shown
shown_of Held = three_shown

-- of `meta`, and of the table of schema 1
abbrev pub meta_shown : Row → Row
meta_shown w = column w 0 ∷ column w 2 ∷ []

abbrev pub old_entry_shown : Row → Row
old_entry_shown w = column w 1 ∷ []

-- the rows that were read show these rows, in any order
abbrev pub Show : (Row → Row) → List Row → List Row → Type 0
Show shown rows found = IsPermutation (map shown rows) found

-- the rows that were read are at most `count` of the rows that are shown, in any order; they are fewer only if there are no more
pub record AreFirst (count : ℕ) (shown found : List Row) : Type 0 where
  pub listed : List Row
  pub same : IsPermutation shown listed
  pub first : found ≡ take count listed

-- ---- the SQL of the readings

-- a driver's rows of a table
abbrev pub own_text : TableName → List ℕ
own_text Drivers = codes "SELECT driver, holder, secret, base, name, downloads, entries FROM drivers WHERE driver = ?1"
own_text Downloads = codes "SELECT number, part, file FROM downloads WHERE driver = ?1"
own_text CardSpans = codes "SELECT start, past, mark FROM card_spans WHERE driver = ?1"
own_text EntryRows = codes "SELECT number, start, past, mark, withdrawn, author, note FROM entry_rows WHERE driver = ?1"
own_text Held = codes "SELECT start, past, mark FROM held WHERE driver = ?1"

abbrev pub numbers_text : List ℕ
numbers_text = codes "SELECT driver FROM drivers"

abbrev pub meta_text : List ℕ
meta_text = codes "SELECT id, version FROM meta LIMIT 2"

abbrev pub old_entries_text : List ℕ
old_entries_text = codes "SELECT driver FROM entries LIMIT 1"
