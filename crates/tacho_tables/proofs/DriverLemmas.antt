-- What the statements on `drivers` do.
use Rattle.std.proofs.Common.{◌≡◌, ℕ, pos, ◌==◌, List, [], ◌∷◌, map, drop, filter, codes, Bool, true, false, cond, Some, Ok, refl, sym, ap, subst, ◌∙◌}
use Rattle.std.specs.Prelude.{bytes_eq}
use Rattle.std.specs.List.Sorted.{IsPermutation}
use Rattle.std.proofs.lemmas.Bool.{and_parts, not-true}
use Rattle.std.proofs.lemmas.List.Sorted.{IsPermutation-trans}
use Rattle.sqlite_rules.proofs.PlaceLemmas.{given}
use Rattle.sqlite_rules.specs.Calls.{ids_of}
use Rattle.sqlite.specs.declared.types.Value.{Value}
use Rattle.sqlite.specs.declared.types.Value.TheVariants.{Null, Int, Text, Blob}
use Rattle.sqlite.specs.Order.{Row}
use Rattle.sqlite.specs.Cast.{cast_row}
use Rattle.sqlite.specs.Command.TheVariants.{Update}
use Rattle.sqlite.specs.Term.{Term, eval_all}
use Rattle.sqlite.specs.Tree.{rowid}
use Rattle.sqlite.specs.Edit.{is_taken, without_all, put_all, are_fresh}
use Rattle.sqlite.specs.Program.{overlay}
use Rattle.sqlite.specs.State.{State, Executes, Shown}
use Rattle.sqlite.proofs.Callers.{reads_as}
use Rattle.tacho_tables.specs.Schema.{Layout, archive_schema}
use Rattle.tacho_tables.specs.Schema as made
use Rattle.tacho_tables.specs.Rows.{DriverRow, driver_row, AreNumberedRowsOf}
use Rattle.tacho_tables.specs.Tables.{IsArchive, Turns, has_number, has_secret, has_holder, with_row_base, with_row_key, with_row_name, with_downloads, with_entries}
use Rattle.tacho_tables.proofs.Answers.{simple, passes, listed, shows, eq_test, text_test, blob_test}
use Rattle.tacho_tables.proofs.Idle.{idle}
use Rattle.tacho_tables.proofs.Kept.{with_drivers}
use Rattle.tacho_tables.proofs.Places.{drivers_at}
use Rattle.tacho_tables.proofs.Numbered.{numbered_put, numbered_shown, numbered_updated}
use Rattle.tacho_tables.proofs.SpanLemmas.{and-true, none_given}
use Rattle.tacho_tables.proofs.Statements.{IsStatement, IsReading, column_is, driver_values, driver_insert_text, driver_insert_is, with_base_shown, with_count_shown, base_text, base_is, with_key_shown, key_text, key_is, with_name_shown, name_text, name_is, count_text, count_is, with_entry_count_shown, entry_count_text, entry_count_is}
use Rattle.tacho_tables.proofs.TurnLemmas.{turns}
use Rattle.tacho_tables.proofs.Writes.{inserted, updated, cast_null, cast_int}

-- a driver without downloads and entries
abbrev pub new_driver : ℕ → List ℕ → List ℕ → ℕ → List ℕ → DriverRow
new_driver driver holder secret base name = record { driver = driver; holder = holder; secret = secret; base = base; name = name; downloads = 0; entries = 0 }

-- an INSERT into `drivers` adds a driver, and changes no other table
pub adds_driver : (old new : State) (driver : ℕ) (holder secret : List ℕ) (base : ℕ) (name : List ℕ) (count : ℕ) → IsArchive old.now
    → Executes driver_insert_text (Int (pos driver) ∷ Blob holder ∷ Text secret ∷ Int (pos base) ∷ Text name ∷ []) old new (Ok count)
    → Turns old new (λ a. record a { drivers = new_driver driver holder secret base name ∷ a.drivers })
adds_driver old new driver holder secret base name count is h =
    let db = old.now.trees in
    let t = made.drivers in
    let x = new_driver driver holder secret base name in
    let params = Int (pos driver) ∷ Blob holder ∷ Text secret ∷ Int (pos base) ∷ Text name ∷ [] in
    let it = driver_insert_is is.layout in
    let e = inserted (archive_schema is.layout) old new is.schema driver_insert_text it.plain params count 1 (codes "drivers") 1 t.columns
    (Some 0) (0 ∷ []) ((2 ∷ []) ∷ (3 ∷ []) ∷ []) t.orders [] [] (drivers_at is.layout) (idle is.layout 1)
    driver_values 8 it.meant (driver_row x ∷ []) refl h in
    let stored = rw (cast_int (pos driver), cast_null, cast_int (pos base), cast_int (pos 0)) at e.applies.rows in
    let fresh = rw (cast_int (pos driver)) at e.applies.fresh in
    let free : is_taken (db 1) (driver_row x) ≡ false = not-true _ (and_parts _ _ fresh).0 in
    turns old new is e (λ a. record a { drivers = x ∷ a.drivers })
    (λ a s same. with_drivers is.layout db e.next a e.sound s same e.applies.tables (x ∷ a.drivers)
    (subst (λ rs. AreNumberedRowsOf rs (x ∷ a.drivers)) (sym stored) (numbered_put (db 1) a.drivers x s.drivers free)))

-- ---- readings

-- the SQL test of a reading by number is `has_number`
pub number_test : (driver : ℕ) (x : DriverRow) → passes (column_is 0) (Int (pos driver) ∷ []) (driver_row x) ≡ has_number driver x
number_test driver x = rw (eq_test x.driver driver) (and-true (x.driver == driver))

-- the test of a reading by key is `has_secret`
pub secret_test : (secret : List ℕ) (x : DriverRow) → passes (column_is 3) (Text secret ∷ []) (driver_row x) ≡ has_secret secret x
secret_test secret x = rw (text_test x.secret secret) (and-true (bytes_eq x.secret secret))

-- the test of a reading by holder is `has_holder`
pub holder_test : (holder : List ℕ) (x : DriverRow) → passes (column_is 2) (Blob holder ∷ []) (driver_row x) ≡ has_holder holder x
holder_test holder x = rw (blob_test x.holder holder) (and-true (bytes_eq x.holder holder))

-- a reading shows these columns of the drivers that pass
pub shows_drivers : (text : List ℕ) (tests terms : List Term) (names : List (List ℕ))
    → ((layout : Layout) → IsReading (archive_schema layout) text 1 tests terms [] names)
    → (params : Row) (t : DriverRow → Bool) → ((x : DriverRow) → passes tests params (driver_row x) ≡ t x)
    → (show : DriverRow → Row) → ((x : DriverRow) → eval_all terms (params ∷ driver_row x ∷ []) ≡ show x)
    → (old new : State) (rows : List Row) → IsArchive old.now → Shown text params old new rows
    → (all : List DriverRow) → AreNumberedRowsOf (old.now.trees 1) all → IsPermutation (map show (filter t all)) rows
shows_drivers text tests terms names each params t deaf show same old new rows is h all s =
    let db = old.now.trees in
    let it = each is.layout in
    let got = reads_as text params old new (archive_schema is.layout) is.schema _ it.meant it.plain it.unlisted rows h in
    let l = listed 1 tests terms [] (overlay db []) params rows (got.answer Null) in
    IsPermutation-trans _ _ _ (numbered_shown (passes tests params) t deaf (λ (r : Row). eval_all terms (params ∷ r ∷ [])) show same
    (db 1) all s) (rw (none_given db 1) at (shows 1 tests terms [] (overlay db []) params rows l))

-- ---- changes

module _ (old new : State) (driver : ℕ) (value : Value) (count : ℕ) (is : IsArchive old.now) where
  -- the parameters
  abbrev params : Row
  params = Int (pos driver) ∷ value ∷ []

  -- the row that is stored for a row that an UPDATE shows
  abbrev new_of : Row → Row
  new_of s = cast_row (record made.drivers { tree = 1 }) (drop 1 s)

  -- an UPDATE of the driver with this number changes no other driver
  changes : (text : List ℕ) (terms : List Term) (change : DriverRow → DriverRow)
      → ((layout : Layout)
      → IsStatement (archive_schema layout) text (Update 1 (record { lets = []; body = simple 1 (column_is 0) terms [] })))
      → ((x : DriverRow) → rowid (eval_all terms (params ∷ driver_row x ∷ [])) ≡ rowid (driver_row x))
      → ((x : DriverRow) → new_of (eval_all terms (params ∷ driver_row x ∷ [])) ≡ driver_row (change x))
      → Executes text params old new (Ok count)
      → Turns old new (λ a. record a { drivers = map (λ x. cond (has_number driver x) (change x) x) a.drivers })
  changes text terms change each finds makes h =
      let db = old.now.trees in
      let t = made.drivers in
      let it = each is.layout in
      let e = updated (archive_schema is.layout) old new is.schema text it.plain params count 1 (codes "drivers") 1 t.columns (Some 0)
      (0 ∷ []) ((2 ∷ []) ∷ (3 ∷ []) ∷ []) t.orders [] [] (drivers_at is.layout) (idle is.layout 1) _ it.meant h in
      let l = listed 1 (column_is 0) terms [] (overlay db []) params e.0 (e.1.answer Null) in
      let found = rw (none_given db 1) at (shows 1 (column_is 0) terms [] (overlay db []) params e.0 l) in
      let left = without_all (db 1) (ids_of e.0) in
      let rows = e.2.applies.rows ∙ ap (put_all left) (given left (map new_of e.0)) in
      let fresh : are_fresh left (map new_of e.0) ≡ true = ap (are_fresh left) (sym (given left (map new_of e.0))) ∙ e.2.applies.fresh in
      turns old new is e.2 (λ a. record a { drivers = map (λ x. cond (has_number driver x) (change x) x) a.drivers })
      (λ a s same.
      let all = map (λ x. cond (has_number driver x) (change x) x) a.drivers in
      let turned = numbered_updated (db 1) a.drivers s.drivers (passes (column_is 0) params) (has_number driver) (number_passes)
      (λ (r : Row). eval_all terms (params ∷ r ∷ [])) new_of change finds makes e.0 found fresh in
      with_drivers is.layout db e.2.next a e.2.sound s same e.2.applies.tables all
      (subst (λ rs. AreNumberedRowsOf rs all) (sym rows) turned))
    where
      number_passes : (x : DriverRow) → passes (column_is 0) params (driver_row x) ≡ has_number driver x
      number_passes x = rw (eq_test x.driver driver) (and-true (x.driver == driver))

-- it sets the driver's key
pub sets_key : (old new : State) (driver : ℕ) (key : List ℕ) (count : ℕ) → IsArchive old.now
    → Executes key_text (Int (pos driver) ∷ Text key ∷ []) old new (Ok count)
    → Turns old new (λ a. record a { drivers = map (with_row_key driver key) a.drivers })
sets_key old new driver key count is h =
    changes old new driver (Text key) count is key_text with_key_shown (λ x. record x { secret = key }) key_is (λ x. refl)
    (λ x. rw (cast_int (pos x.driver), cast_null, cast_int (pos x.base), cast_int (pos x.downloads), cast_int (pos x.entries)) refl) h

-- it sets the driver's name
pub sets_name : (old new : State) (driver : ℕ) (name : List ℕ) (count : ℕ) → IsArchive old.now
    → Executes name_text (Int (pos driver) ∷ Text name ∷ []) old new (Ok count)
    → Turns old new (λ a. record a { drivers = map (with_row_name driver name) a.drivers })
sets_name old new driver name count is h =
    changes old new driver (Text name) count is name_text with_name_shown (λ x. record x { name = name }) name_is (λ x. refl)
    (λ x. rw (cast_int (pos x.driver), cast_null, cast_int (pos x.base), cast_int (pos x.downloads), cast_int (pos x.entries)) refl) h

module _ (old new : State) (driver value count : ℕ) (is : IsArchive old.now) where
  -- the parameters, of which the second is a number
  abbrev numbers : Row
  numbers = Int (pos driver) ∷ Int (pos value) ∷ []

  -- it sets the driver's base
  pub sets_base : Executes base_text numbers old new (Ok count)
      → Turns old new (λ a. record a { drivers = map (with_row_base driver value) a.drivers })
  sets_base h =
      changes old new driver (Int (pos value)) count is base_text with_base_shown (λ x. record x { base = value }) base_is (λ x. refl)
      (λ x. rw (cast_int (pos x.driver), cast_null, cast_int (pos value), cast_int (pos x.downloads), cast_int (pos x.entries)) refl) h

  -- it sets how many numbers were given out to the driver's downloads
  pub sets_count : Executes count_text numbers old new (Ok count)
      → Turns old new (λ a. record a { drivers = map (with_downloads driver value) a.drivers })
  sets_count h =
      changes old new driver (Int (pos value)) count is count_text with_count_shown (λ x. record x { downloads = value }) count_is
      (λ x. refl)
      (λ x. rw (cast_int (pos x.driver), cast_null, cast_int (pos x.base), cast_int (pos value), cast_int (pos x.entries)) refl) h

  -- it sets how many numbers were given out to the driver's entries
  pub sets_entry_count : Executes entry_count_text numbers old new (Ok count)
      → Turns old new (λ a. record a { drivers = map (with_entries driver value) a.drivers })
  sets_entry_count h =
      changes old new driver (Int (pos value)) count is entry_count_text with_entry_count_shown (λ x. record x { entries = value })
      entry_count_is (λ x. refl)
      (λ x. rw (cast_int (pos x.driver), cast_null, cast_int (pos x.base), cast_int (pos x.downloads), cast_int (pos value)) refl) h
