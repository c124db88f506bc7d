-- The statements that the SQL texts on rows are.
use Rattle.std.proofs.Common.{◌≡◌, ℕ, Bool, List, [], ◌∷◌, ◌++◌, ◌+◌, Option, Some, None, Result, Ok, Err, ap, codes, false, map, true, refl, pos}
use Rattle.sqlite.specs.declared.types.Value.TheVariants.{Null, Int}
use Rattle.sqlite.specs.Command.{Command}
use Rattle.sqlite.specs.Schema.{Schema}
use Rattle.sqlite.specs.Command.TheVariants.{Insert, Select, Update, Delete}
use Rattle.sqlite.specs.Source.TheVariants.{Values}
use Rattle.sqlite.specs.Term.{Term, lit, col, op2}
use Rattle.sqlite_sql.specs.declared.ops.BinaryOp.TheVariants.{Compare}
use Rattle.sqlite_sql.specs.declared.ops.CompareOp.TheVariants.{Eq, Lt, Le}
use Rattle.sqlite.specs.Collation.TheVariants.{Binary}
use Rattle.sqlite_value.specs.declared.keys.Key.{Key}
use Rattle.sqlite_tied.specs.Compute.{everything}
use Rattle.sqlite.specs.Listing.{understood, reads_listing, listing_schema}
use Rattle.sqlite.proofs.Callers.{IsPlain, command_of}
use Rattle.sqlite_schema.specs.declared.command.Returning.{Returning}
use Rattle.sqlite_resolve.specs.declared.compiled.Compiled.{Compiled}
use Rattle.sqlite_resolve.specs.declared.error.CompileError.{CompileError}
use Rattle.sqlite_resolve.specs.declared.error.CompileError.TheVariants.{NoSuchTable}
use Rattle.tacho_tables.specs.Schema.{Layout, layouts, archive_schema, old_schema, no_schema, entry_tree}
use Rattle.tacho_tables.specs.declared.spans.SpanTable.{SpanTable}
use Rattle.tacho_tables.specs.declared.spans.SpanTable.TheVariants.{CardSpans, Held}
use Rattle.tacho_tables.specs.Spans.{span_table_rows, before_text, begun_text, insert_text, eight_text}
use Rattle.tacho_tables.proofs.Answers.{simple, first_of}
use Rattle.tacho_tables.proofs.Layouts.{each}
use Rattle.tacho_tables.proofs.Places.{place_of, entry_place}

-- under the schema the text is this command, uses no clock, and doesn't read the list of tables
pub record IsStatement (schema : Schema) (text : List ℕ) (command : Command) : Type 0 where
  pub meant : command_of (understood schema text) ≡ command
  pub unlisted : reads_listing schema text ≡ false
  pub plain : IsPlain (understood schema text)

-- it shows these columns of the rows of one table that pass these tests
abbrev pub IsReading : Schema → List ℕ → ℕ → List Term → List Term → List (Term × Key) → List (List ℕ) → Type 0
IsReading schema text tree tests shown order names =
    IsStatement schema text (Select (record { lets = []; body = simple tree tests shown order }) names)

-- likewise, but only of the first of these rows
abbrev pub IsReadingFirst : Schema → List ℕ → ℕ → List Term → List Term → List (Term × Key) → List (List ℕ) → Type 0
IsReadingFirst schema text tree tests shown order names =
    IsStatement schema text (Select (record { lets = []; body = first_of tree tests shown order }) names)

abbrev returned : Result Compiled CompileError → Option (Option Returning)
returned (Ok c) = Some c.returning
returned (Err fault) = None

abbrev formatted : Result Compiled CompileError → Option (List (List ℕ))
formatted (Ok c) = Some c.formats
formatted (Err fault) = None

-- what a text is under a schema: its command, whether it reads the list of tables, and what it returns and formats
record Meaning : Type 0 where
  command : Command
  listed : Bool
  returning : Option (Option Returning)
  formats : Option (List (List ℕ))

abbrev meaning : List ℕ → Schema → Meaning
meaning text schema = record {
  command = command_of (understood schema text);
  listed = reads_listing schema text;
  returning = returned (understood schema text);
  formats = formatted (understood schema text);
}

-- a plain one returns and formats nothing
abbrev plainly : Command → Meaning
plainly command = record { command = command; listed = false; returning = Some None; formats = Some [] }

is_plain : (r : Result Compiled CompileError) → returned r ≡ Some None → formatted r ≡ Some [] → IsPlain r
is_plain (Ok c) e f = (cc, cc)
is_plain (Err fault) e f = cc

-- what a text is under each layout
pub stated : (text : List ℕ) (command : Layout → Command)
    → map (λ layout. meaning text (archive_schema layout)) layouts ≡ map (λ layout. plainly (command layout)) layouts
    → (layout : Layout) → IsStatement (archive_schema layout) text (command layout)
stated text command same layout =
    let is = each (λ l. meaning text (archive_schema l)) (λ l. plainly (command l)) same layout in
    record {
      meant = ap (λ (m : Meaning). m.command) is;
      unlisted = ap (λ (m : Meaning). m.listed) is;
      plain = is_plain (understood (archive_schema layout) text) (ap (λ (m : Meaning). m.returning) is) (ap (λ (m : Meaning). m.formats) is);
    }

-- ---- terms

-- a row of four columns, whose number the store gives
abbrev pub four : List Term
four = lit Null ∷ col 0 0 ∷ col 0 1 ∷ col 0 2 ∷ col 0 3 ∷ []

-- tests: a row of driver ?1 that begins before ?2
abbrev pub before : List Term
before = op2 (Compare Eq Binary) (col 1 1) (col 0 0) ∷ op2 (Compare Lt Binary) (col 1 2) (col 0 1) ∷ []

-- tests: a row of driver ?1 that begins from ?2 to before ?3
abbrev pub begun : List Term
begun = op2 (Compare Eq Binary) (col 1 1) (col 0 0) ∷ op2 (Compare Le Binary) (col 0 1) (col 1 2) ∷ op2 (Compare Lt Binary) (col 1 2) (col 0 2) ∷ []

-- test: a row of driver ?1
abbrev pub own : List Term
own = op2 (Compare Eq Binary) (col 1 1) (col 0 0) ∷ []

-- tests: the row of driver ?1 with number ?2
abbrev pub numbered : List Term
numbered = op2 (Compare Eq Binary) (col 1 1) (col 0 0) ∷ op2 (Compare Eq Binary) (col 1 2) (col 0 1) ∷ []

-- the columns start, past and mark
abbrev pub three_shown : List Term
three_shown = col 1 2 ∷ col 1 3 ∷ col 1 4 ∷ []

-- order: the earlier start first
abbrev pub by_start : List (Term × Key)
by_start = (col 1 2, record { collation = Binary; descending = false }) ∷ []

-- order: the later start first
abbrev pub by_start_down : List (Term × Key)
by_start_down = (col 1 2, record { collation = Binary; descending = true }) ∷ []

-- the names of these columns
abbrev pub span_names : List (List ℕ)
span_names = codes "start" ∷ codes "past" ∷ codes "mark" ∷ []

-- ---- meta

-- the SQL that reads the version
abbrev pub version_text : List ℕ
version_text = codes "SELECT version FROM meta WHERE id = 1"

-- test: the row of `meta` with number 1
abbrev pub first_row : List Term
first_row = op2 (Compare Eq Binary) (col 1 0) (lit (Int (pos 1))) ∷ []

-- the reading that it is under schema 2
pub version_is : (layout : Layout) → IsReading (archive_schema layout) version_text 0 first_row (col 1 2 ∷ []) [] (codes "version" ∷ [])
unfolding understood everything
version_is = stated _ _ refl

-- it is the same reading under schema 1
pub version_was : IsReading old_schema version_text 0 first_row (col 1 2 ∷ []) [] (codes "version" ∷ [])
unfolding understood everything
version_was = record { meant = refl; unlisted = refl; plain = (refl, refl) }

-- without tables it isn't a statement
pub version_is_unknown : understood no_schema version_text ≡ Err NoSuchTable
unfolding understood listing_schema everything
version_is_unknown = refl

-- ---- the tables of spans

-- the statement that adds a span
pub insert_is : (table : SpanTable) (layout : Layout)
    → IsStatement (archive_schema layout) (insert_text table) (Insert (place_of table) (Values four 5))
unfolding understood everything
insert_is CardSpans = stated _ _ refl
insert_is Held = stated _ _ refl

-- a span of driver ?1 whose other columns are the parameters from a place on; the store gives the row's number
abbrev pub span_at : ℕ → List Term
span_at place = lit Null ∷ col 0 0 ∷ col 0 place ∷ col 0 (place + 1) ∷ col 0 (place + 2) ∷ []

-- eight such spans
abbrev pub eight : List Term
eight = span_at 1 ++ (span_at 4 ++ (span_at 7 ++ (span_at 10 ++ (span_at 13 ++ (span_at 16 ++ (span_at 19 ++ span_at 22))))))

-- the statement that adds eight spans
pub eight_is : (table : SpanTable) (layout : Layout)
    → IsStatement (archive_schema layout) (eight_text table) (Insert (place_of table) (Values eight 5))
unfolding understood everything
eight_is CardSpans = stated _ _ refl
eight_is Held = stated _ _ refl

-- the reading of the latest span that begins before a minute
pub before_is : (table : SpanTable) (layout : Layout)
    → IsReadingFirst (archive_schema layout) (before_text table) (span_table_rows table) before three_shown by_start_down span_names
unfolding understood everything
before_is CardSpans = stated _ _ refl
before_is Held = stated _ _ refl

-- the reading of the spans that begin in a range
pub begun_is : (table : SpanTable) (layout : Layout)
    → IsReading (archive_schema layout) (begun_text table) (span_table_rows table) begun three_shown by_start span_names
unfolding understood everything
begun_is CardSpans = stated _ _ refl
begun_is Held = stated _ _ refl

-- ---- held

-- the SQL that reads all spans of a driver
abbrev pub held_own_text : List ℕ
held_own_text = codes "SELECT start, past, mark FROM held WHERE driver = ?1 ORDER BY start"

-- the reading that it is
pub held_own_is : (layout : Layout) → IsReading (archive_schema layout) held_own_text 10 own three_shown by_start span_names
unfolding understood everything
held_own_is = stated _ _ refl

-- the SQL that removes the spans that begin in a range
abbrev pub held_delete_text : List ℕ
held_delete_text = codes "DELETE FROM held WHERE driver = ?1 AND ?2 <= start AND start < ?3"

-- the statement that it is
pub held_delete_is : (layout : Layout)
    → IsStatement (archive_schema layout) held_delete_text (Delete 5 (record { lets = []; body = simple 10 begun (col 1 0 ∷ []) [] }))
unfolding understood everything
held_delete_is = stated _ _ refl

-- ---- downloads

-- the SQL that adds a download
abbrev pub download_insert_text : List ℕ
download_insert_text = codes "INSERT INTO downloads (driver, number, part, file) VALUES (?1, ?2, ?3, ?4)"

-- the SQL that reads a file and its part
abbrev pub file_text : List ℕ
file_text = codes "SELECT part, file FROM downloads WHERE driver = ?1 AND number = ?2"

-- the statement that `download_insert_text` is
pub download_insert_is : (layout : Layout) → IsStatement (archive_schema layout) download_insert_text (Insert 2 (Values four 5))
unfolding understood everything
download_insert_is = stated _ _ refl

-- the reading that `file_text` is
pub file_is : (layout : Layout) → IsReading (archive_schema layout) file_text 4 numbered (col 1 3 ∷ col 1 4 ∷ []) []
    (codes "part" ∷ codes "file" ∷ [])
unfolding understood everything
file_is = stated _ _ refl

-- ---- drivers

-- the SQL that adds a driver
abbrev pub driver_insert_text : List ℕ
driver_insert_text = codes "INSERT INTO drivers (driver, holder, secret, base, name, downloads, entries) VALUES (?1, ?2, ?3, ?4, ?5, 0, 0)"

-- the SQL that reads a driver by number
abbrev pub by_number_text : List ℕ
by_number_text = codes "SELECT driver, holder, base, name, downloads, entries FROM drivers WHERE driver = ?1"

-- the SQL that reads all drivers
abbrev pub drivers_text : List ℕ
drivers_text = codes "SELECT driver, holder, base, name, downloads, entries FROM drivers ORDER BY driver"

-- the SQL that reads a driver's key
abbrev pub secret_text : List ℕ
secret_text = codes "SELECT secret FROM drivers WHERE driver = ?1"

-- the SQL that reads a driver's number by key
abbrev pub by_secret_text : List ℕ
by_secret_text = codes "SELECT driver FROM drivers WHERE secret = ?1"

-- the SQL that reads a driver's number by holder
abbrev pub by_holder_text : List ℕ
by_holder_text = codes "SELECT driver FROM drivers WHERE holder = ?1"

-- the SQL that sets a driver's base
abbrev pub base_text : List ℕ
base_text = codes "UPDATE drivers SET base = ?2 WHERE driver = ?1"

-- the SQL that sets a driver's key
abbrev pub key_text : List ℕ
key_text = codes "UPDATE drivers SET secret = ?2 WHERE driver = ?1"

-- the SQL that sets a driver's name
abbrev pub name_text : List ℕ
name_text = codes "UPDATE drivers SET name = ?2 WHERE driver = ?1"

-- the SQL that sets how many numbers were given out to a driver's downloads
abbrev pub count_text : List ℕ
count_text = codes "UPDATE drivers SET downloads = ?2 WHERE driver = ?1"

-- the values of a new driver
abbrev pub driver_values : List Term
driver_values = col 0 0 ∷ lit Null ∷ col 0 1 ∷ col 0 2 ∷ col 0 3 ∷ col 0 4 ∷ lit (Int (pos 0)) ∷ lit (Int (pos 0)) ∷ []

-- test: the column is the first parameter
abbrev pub column_is : ℕ → List Term
column_is place = op2 (Compare Eq Binary) (col 1 place) (col 0 0) ∷ []

-- the row of a driver with base ?2, after its old number
abbrev pub with_base_shown : List Term
with_base_shown = col 1 0 ∷ col 1 0 ∷ lit Null ∷ col 1 2 ∷ col 1 3 ∷ col 0 1 ∷ col 1 5 ∷ col 1 6 ∷ col 1 7 ∷ []

-- the row of a driver with key ?2, after its old number
abbrev pub with_key_shown : List Term
with_key_shown = col 1 0 ∷ col 1 0 ∷ lit Null ∷ col 1 2 ∷ col 0 1 ∷ col 1 4 ∷ col 1 5 ∷ col 1 6 ∷ col 1 7 ∷ []

-- the row of a driver with name ?2, after its old number
abbrev pub with_name_shown : List Term
with_name_shown = col 1 0 ∷ col 1 0 ∷ lit Null ∷ col 1 2 ∷ col 1 3 ∷ col 1 4 ∷ col 0 1 ∷ col 1 6 ∷ col 1 7 ∷ []

-- the row of a driver with count ?2, after its old number
abbrev pub with_count_shown : List Term
with_count_shown = col 1 0 ∷ col 1 0 ∷ lit Null ∷ col 1 2 ∷ col 1 3 ∷ col 1 4 ∷ col 1 5 ∷ col 0 1 ∷ col 1 7 ∷ []

-- the statement that `driver_insert_text` is
pub driver_insert_is : (layout : Layout) → IsStatement (archive_schema layout) driver_insert_text (Insert 1 (Values driver_values 8))
unfolding understood everything
driver_insert_is = stated _ _ refl

-- the columns driver, holder, base, name, downloads and entries
abbrev pub six_shown : List Term
six_shown = col 1 0 ∷ col 1 2 ∷ col 1 4 ∷ col 1 5 ∷ col 1 6 ∷ col 1 7 ∷ []

-- the names of these columns
abbrev pub driver_names : List (List ℕ)
driver_names = codes "driver" ∷ codes "holder" ∷ codes "base" ∷ codes "name" ∷ codes "downloads" ∷ codes "entries" ∷ []

-- order: the lower driver number first
abbrev pub by_driver : List (Term × Key)
by_driver = (col 1 0, record { collation = Binary; descending = false }) ∷ []

-- a reading by number
pub by_number_is : (layout : Layout) → IsReading (archive_schema layout) by_number_text 1 (column_is 0) six_shown [] driver_names
unfolding understood everything
by_number_is = stated _ _ refl

-- a reading of all
pub drivers_is : (layout : Layout) → IsReading (archive_schema layout) drivers_text 1 [] six_shown by_driver driver_names
unfolding understood everything
drivers_is = stated _ _ refl

-- a reading of the key
pub secret_is : (layout : Layout)
    → IsReading (archive_schema layout) secret_text 1 (column_is 0) (col 1 3 ∷ []) [] (codes "secret" ∷ [])
unfolding understood everything
secret_is = stated _ _ refl

-- a reading by key
pub by_secret_is : (layout : Layout)
    → IsReading (archive_schema layout) by_secret_text 1 (column_is 3) (col 1 0 ∷ []) [] (codes "driver" ∷ [])
unfolding understood everything
by_secret_is = stated _ _ refl

-- a reading by holder
pub by_holder_is : (layout : Layout)
    → IsReading (archive_schema layout) by_holder_text 1 (column_is 2) (col 1 0 ∷ []) [] (codes "driver" ∷ [])
unfolding understood everything
by_holder_is = stated _ _ refl

-- a change of the base
pub base_is : (layout : Layout)
    → IsStatement (archive_schema layout) base_text (Update 1 (record { lets = []; body = simple 1 (column_is 0) with_base_shown [] }))
unfolding understood everything
base_is = stated _ _ refl

-- a change of the key
pub key_is : (layout : Layout)
    → IsStatement (archive_schema layout) key_text (Update 1 (record { lets = []; body = simple 1 (column_is 0) with_key_shown [] }))
unfolding understood everything
key_is = stated _ _ refl

-- a change of the name
pub name_is : (layout : Layout)
    → IsStatement (archive_schema layout) name_text (Update 1 (record { lets = []; body = simple 1 (column_is 0) with_name_shown [] }))
unfolding understood everything
name_is = stated _ _ refl

-- a change of the count
pub count_is : (layout : Layout)
    → IsStatement (archive_schema layout) count_text (Update 1 (record { lets = []; body = simple 1 (column_is 0) with_count_shown [] }))
unfolding understood everything
count_is = stated _ _ refl

-- the row of a driver with entry count ?2, after its old number
abbrev pub with_entry_count_shown : List Term
with_entry_count_shown = col 1 0 ∷ col 1 0 ∷ lit Null ∷ col 1 2 ∷ col 1 3 ∷ col 1 4 ∷ col 1 5 ∷ col 1 6 ∷ col 0 1 ∷ []

-- the SQL that sets how many numbers were given out to a driver's entries
abbrev pub entry_count_text : List ℕ
entry_count_text = codes "UPDATE drivers SET entries = ?2 WHERE driver = ?1"

-- the statement that it is
pub entry_count_is : (layout : Layout)
    → IsStatement (archive_schema layout) entry_count_text
    (Update 1 (record { lets = []; body = simple 1 (column_is 0) with_entry_count_shown [] }))
unfolding understood everything
entry_count_is = stated _ _ refl

-- ---- entries

-- an entry of driver ?1 that isn't withdrawn, and whose other columns are the parameters from a place on; the store gives the row's number
abbrev pub entry_at : ℕ → List Term
entry_at place = lit Null ∷ col 0 0 ∷ col 0 place ∷ col 0 (place + 1) ∷ col 0 (place + 2) ∷ col 0 (place + 3) ∷ lit (Int (pos 0))
    ∷ col 0 (place + 4) ∷ col 0 (place + 5) ∷ []

-- the SQL that adds an entry
abbrev pub entry_insert_text : List ℕ
entry_insert_text =
    codes "INSERT INTO entry_rows (driver, number, start, past, mark, withdrawn, author, note) VALUES (?1, ?2, ?3, ?4, ?5, 0, ?6, ?7)"

-- the statement that it is
pub entry_insert_is : (layout : Layout)
    → IsStatement (archive_schema layout) entry_insert_text (Insert (entry_place layout) (Values (entry_at 1) 9))
unfolding understood everything
entry_insert_is = stated _ _ refl

-- four entries
abbrev pub four_entries : List Term
four_entries = entry_at 1 ++ (entry_at 7 ++ (entry_at 13 ++ entry_at 19))

-- the SQL that adds four entries
abbrev pub four_entries_text : List ℕ
four_entries_text =
    codes "INSERT INTO entry_rows (driver, number, start, past, mark, withdrawn, author, note) VALUES (?1, ?2, ?3, ?4, ?5, 0, ?6, ?7), (?1, ?8, ?9, ?10, ?11, 0, ?12, ?13), (?1, ?14, ?15, ?16, ?17, 0, ?18, ?19), (?1, ?20, ?21, ?22, ?23, 0, ?24, ?25)"

-- the statement that it is
pub four_entries_are : (layout : Layout)
    → IsStatement (archive_schema layout) four_entries_text (Insert (entry_place layout) (Values four_entries 9))
unfolding understood everything
four_entries_are = stated _ _ refl

-- a row that is to be withdrawn: its old number, its new number, and its new columns
abbrev pub withdrawn_shown : List Term
withdrawn_shown = col 1 0 ∷ col 1 0 ∷ col 1 1 ∷ col 1 2 ∷ col 1 3 ∷ col 1 4 ∷ col 1 5 ∷ lit (Int (pos 1)) ∷ col 1 7 ∷ col 1 8 ∷ []

-- the SQL that marks an entry as withdrawn
abbrev pub withdraw_text : List ℕ
withdraw_text = codes "UPDATE entry_rows SET withdrawn = 1 WHERE driver = ?1 AND number = ?2"

-- the statement that it is
pub withdraw_is : (layout : Layout)
    → IsStatement (archive_schema layout) withdraw_text
    (Update (entry_place layout) (record { lets = []; body = simple (entry_tree layout) numbered withdrawn_shown [] }))
unfolding understood everything
withdraw_is = stated _ _ refl

-- the columns number, start, past, mark, withdrawn, author and note
abbrev pub seven_shown : List Term
seven_shown = col 1 2 ∷ col 1 3 ∷ col 1 4 ∷ col 1 5 ∷ col 1 6 ∷ col 1 7 ∷ col 1 8 ∷ []

-- the names of these columns
abbrev pub entry_names : List (List ℕ)
entry_names = codes "number" ∷ codes "start" ∷ codes "past" ∷ codes "mark" ∷ codes "withdrawn" ∷ codes "author" ∷ codes "note" ∷ []

-- the SQL that reads the entry with a number
abbrev pub entry_text : List ℕ
entry_text = codes "SELECT number, start, past, mark, withdrawn, author, note FROM entry_rows WHERE driver = ?1 AND number = ?2"

-- the reading that it is
pub entry_is : (layout : Layout) → IsReading (archive_schema layout) entry_text (entry_tree layout) numbered seven_shown [] entry_names
unfolding understood everything
entry_is = stated _ _ refl

-- order: the lower number first
abbrev pub by_number : List (Term × Key)
by_number = (col 1 2, record { collation = Binary; descending = false }) ∷ []

-- the SQL that reads all entries of a driver
abbrev pub entries_text : List ℕ
entries_text = codes "SELECT number, start, past, mark, withdrawn, author, note FROM entry_rows WHERE driver = ?1 ORDER BY number"

-- the reading that it is
pub entries_is : (layout : Layout)
    → IsReading (archive_schema layout) entries_text (entry_tree layout) own seven_shown by_number entry_names
unfolding understood everything
entries_is = stated _ _ refl

-- tests: an entry of driver ?1 that isn't withdrawn and has a minute from ?2 to before ?3
abbrev pub kept_near : List Term
kept_near = op2 (Compare Eq Binary) (col 1 1) (col 0 0) ∷ op2 (Compare Eq Binary) (col 1 6) (lit (Int (pos 0))) ∷ op2 (Compare Lt Binary) (col 1 3) (col 0 2)
    ∷ op2 (Compare Lt Binary) (col 0 1) (col 1 4) ∷ []

-- the columns start, past and mark of an entry
abbrev pub entry_span_shown : List Term
entry_span_shown = col 1 3 ∷ col 1 4 ∷ col 1 5 ∷ []

-- order: the earlier start first
abbrev pub by_entry_start : List (Term × Key)
by_entry_start = (col 1 3, record { collation = Binary; descending = false }) ∷ []

-- the SQL that reads the spans of entries near a range
abbrev pub kept_near_text : List ℕ
kept_near_text =
    codes "SELECT start, past, mark FROM entry_rows WHERE driver = ?1 AND withdrawn = 0 AND start < ?3 AND ?2 < past ORDER BY start"

-- the reading that it is
pub kept_near_is : (layout : Layout)
    → IsReading (archive_schema layout) kept_near_text (entry_tree layout) kept_near entry_span_shown by_entry_start span_names
unfolding understood everything
kept_near_is = stated _ _ refl
