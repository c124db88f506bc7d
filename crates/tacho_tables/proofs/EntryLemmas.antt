-- The table `entry_rows`, and what an UPDATE of it does.
use Rattle.std.proofs.Common.{◌≡◌, ℕ, pos, ◌==◌, List, [], ◌∷◌, map, codes, None, true, Ok, refl, sym, ap, subst, ◌∙◌, ◌&&◌, drop}
use Rattle.std.specs.List.Sorted.{IsSorted}
use Rattle.std.specs.Ordering.{is_lt, nat_cmp}
use Rattle.std.specs.Prelude.{nat_lt}
use Rattle.sqlite_rules.proofs.PlaceLemmas.{given}
use Rattle.sqlite_rules.specs.Calls.{ids_of}
use Rattle.sqlite.specs.declared.types.Value.{Value}
use Rattle.sqlite.specs.declared.types.Value.TheVariants.{Null, Int, Text}
use Rattle.sqlite.specs.Cast.{cast_row}
use Rattle.sqlite.specs.Order.{Row}
use Rattle.sqlite.specs.Term.{eval_all}
use Rattle.sqlite.specs.Edit.{without_all, put_all, are_fresh}
use Rattle.sqlite.specs.Program.{overlay}
use Rattle.sqlite.specs.State.{State, Executes, Shown}
use Rattle.sqlite.proofs.Callers.{reads_as}
use Rattle.tacho_tables.specs.Schema.{archive_schema, entry_tree, to_driver}
use Rattle.tacho_tables.specs.Schema as made
use Rattle.tacho_tables.specs.Rows.{AreRowsOf, SpanRow, EntryRow, entry_columns}
use Rattle.tacho_tables.specs.declared.entries.NewEntry.{NewEntry}
use Rattle.tacho_tables.specs.declared.rows.StoredEntry.{StoredEntry}
use Rattle.tacho_tables.specs.Tables.{Tables, HasTables, IsArchive, Turns, ListedEntry, entry_shown, is_entry, is_entry_of, is_kept_near, listed_entry, told_entry, with_withdrawn}
use Rattle.tacho_tables.proofs.Answers.{and-true, none_given, passes, listed, shows, eq_test, lt_test}
use Rattle.tacho_tables.proofs.Updates.{stands_updated}
use Rattle.tacho_tables.proofs.Idle.{idle}
use Rattle.tacho_tables.proofs.Kept.{with_entries}
use Rattle.tacho_tables.proofs.Places.{entry_place, entries_at}
use Rattle.tacho_tables.proofs.SortedLemmas.{by_one_number, sorted_after, sorted_before}
use Rattle.tacho_tables.proofs.TableLemmas.{IsTable, shows_sorted, stands_in}
use Rattle.tacho_tables.proofs.TurnLemmas.{turns}
use Rattle.tacho_tables.proofs.Statements.{by_number, entries_text, entries_is, own, numbered, seven_shown, withdrawn_shown, withdraw_text, withdraw_is, kept_near}
use Rattle.tacho_tables.proofs.Writes.{updated, cast_null, cast_int}

-- the values of a new entry, except its driver
abbrev pub entry_values : NewEntry → Row
entry_values e = Int (pos e.number) ∷ Int (pos e.span.start) ∷ Int (pos e.span.past) ∷ Int (pos e.span.mark)
    ∷ Text e.author.now ∷ Text e.note.now ∷ []

-- a default entry
abbrev pub no_entry : NewEntry
no_entry = record {
  number = 0;
  span = record { start = 0; past = 0; mark = 0 };
  author = record { ref_ptr = (0, 0); now = [] };
  note = record { ref_ptr = (0, 0); now = [] };
}

-- its list of `Tables`, and the tables with another list in its place
abbrev pub entries_in : Tables → List EntryRow
entries_in a = a.entries

abbrev pub with_entry_rows : List EntryRow → Tables → Tables
with_entry_rows rows a = record a { entries = rows }

pub entry_table : IsTable entry_columns (codes "entry_rows") made.entry_rows.columns made.entry_rows.checks entry_place entry_tree
    entries_in with_entry_rows
entry_table = record {
  at = entries_at;
  cast = λ layout x. rw (
    cast_null,
    cast_int (pos x.driver),
    cast_int (pos x.number),
    cast_int (pos x.start),
    cast_int (pos x.past),
    cast_int (pos x.mark),
    cast_int (pos x.withdrawn),
  ) refl;
  got = λ xs a. refl;
  same = λ a. refl;
  again = λ xs ys a. refl;
  stands = λ layout db a s same. subst (λ l. AreRowsOf entry_columns (db (entry_tree l)) a.entries) same s.entries;
  changed = with_entries;
}

-- the SQL tests of a reading by number are `is_entry`
pub entry_test : (driver number : ℕ) (v : Value) (x : EntryRow) → passes numbered (Int (pos driver) ∷ Int (pos number) ∷ []) (v ∷ entry_columns x) ≡ is_entry driver number x
entry_test driver number v x = rw (eq_test x.driver driver, eq_test x.number number) (ap (λ b. (x.driver == driver) && b) (and-true (x.number == number)))

-- the test of a reading of all entries is `is_entry_of`
pub own_test : (driver : ℕ) (v : Value) (x : EntryRow) → passes own (Int (pos driver) ∷ []) (v ∷ entry_columns x) ≡ is_entry_of driver x
own_test driver v x = rw (eq_test x.driver driver) (and-true (x.driver == driver))

-- the tests of a reading near a range are `is_kept_near`
pub kept_test : (driver start past : ℕ) (v : Value) (x : EntryRow) → passes kept_near (Int (pos driver) ∷ Int (pos start) ∷ Int (pos past) ∷ []) (v ∷ entry_columns x)
    ≡ is_kept_near driver start past x
kept_test driver start past v x =
    rw (eq_test x.driver driver, eq_test x.withdrawn 0, lt_test x.start past, lt_test start x.past)
    (ap (λ b. (x.driver == driver) && ((x.withdrawn == 0) && (nat_lt x.start past && b))) (and-true (nat_lt start x.past)))

-- an UPDATE marks the entry with this number, and no other
pub withdraws : (old new : State) (driver number count : ℕ) → IsArchive old.now
    → Executes withdraw_text (Int (pos driver) ∷ Int (pos number) ∷ []) old new (Ok count)
    → Turns old new (λ a. record a { entries = map (with_withdrawn driver number) a.entries })
withdraws old new driver number count is h =
    let db = old.now.trees in
    let tree = entry_tree is.layout in
    let params = Int (pos driver) ∷ Int (pos number) ∷ [] in
    let t = made.entry_rows in
    let it = withdraw_is is.layout in
    let e = updated (archive_schema is.layout) old new is.schema withdraw_text it.plain params count (entry_place is.layout)
    (codes "entry_rows") tree t.columns None (1 ∷ 2 ∷ []) ((1 ∷ 2 ∷ []) ∷ []) t.orders t.checks (to_driver ∷ []) (entries_at is.layout)
    (idle is.layout tree) _ it.meant h in
    let l = listed tree numbered withdrawn_shown [] (overlay db []) params e.0 (e.1.answer Null) in
    let found = rw (none_given db tree) at (shows tree numbered withdrawn_shown [] (overlay db []) params e.0 l) in
    let new_of : Row → Row = λ s. cast_row (record t { tree = tree }) (drop 1 s) in
    let left = without_all (db tree) (ids_of e.0) in
    let rows = e.2.applies.rows ∙ ap (put_all left) (given left (map new_of e.0)) in
    let fresh : are_fresh left (map new_of e.0) ≡ true = ap (are_fresh left) (sym (given left (map new_of e.0))) ∙ e.2.applies.fresh in
    turns old new is e.2 (λ a. record a { entries = map (with_withdrawn driver number) a.entries })
    (λ a s same.
    let all = map (with_withdrawn driver number) a.entries in
    let turned = stands_updated entry_columns (db tree) a.entries (stands_in entry_table old.now is a s) (passes numbered params)
    (is_entry driver number) (entry_test driver number) (λ (r : Row). eval_all withdrawn_shown (params ∷ r ∷ [])) new_of
    (λ x. record x { withdrawn = 1 }) (λ v x. refl)
    (λ id x. rw (
      cast_int id,
      cast_int (pos x.driver),
      cast_int (pos x.number),
      cast_int (pos x.start),
      cast_int (pos x.past),
      cast_int (pos x.mark),
      cast_int (pos 1),
    ) refl)
    (λ v x. rw (
      cast_int (pos x.driver),
      cast_int (pos x.number),
      cast_int (pos x.start),
      cast_int (pos x.past),
      cast_int (pos x.mark),
      cast_int (pos 1),
    ) refl) e.0 found fresh in
    with_entries is.layout db e.2.next a e.2.sound s same e.2.applies.tables all
    (subst (λ rs. AreRowsOf entry_columns rs all) (sym rows) turned))

-- an entry's minutes as a row of spans
abbrev pub entry_row_span : EntryRow → SpanRow
entry_row_span x = record { driver = x.driver; start = x.start; past = x.past; mark = x.mark }

-- all entries of a driver are read in the order of their numbers
pub read_sorted : (driver : ℕ) (old new : State) (rows : List Row) (found : List StoredEntry) → IsArchive old.now
    → Shown entries_text (Int (pos driver) ∷ []) old new rows → (a : Tables) → HasTables old.now.trees a
    → ((shown : List EntryRow) → rows ≡ map entry_shown shown → map told_entry found ≡ map listed_entry shown)
    → IsSorted (λ x y. nat_cmp x.number y.number) found
read_sorted driver old new rows found is h a s reads =
    let params = Int (pos driver) ∷ [] in
    let it = entries_is is.layout in
    let got = reads_as entries_text params old new (archive_schema is.layout) is.schema _ it.meant it.plain it.unlisted rows h in
    let sorted = shows_sorted entry_table own seven_shown by_number params (is_entry_of driver) (own_test driver)
    (λ x. (Int (pos x.number) ∷ [], entry_shown x)) (λ t v x. refl) (λ x y. is_lt (nat_cmp x.number y.number))
    (λ t x y. by_one_number x.number y.number) (λ xs. xs) old.now.trees is.layout a.entries (stands_in entry_table old.now is a s) rows
    (listed (entry_tree is.layout) own seven_shown by_number (overlay old.now.trees []) params rows (got.answer Null)) in
    let listed = sorted_after listed_entry (λ x y. is_lt (nat_cmp x.number y.number)) (λ x y. is_lt (nat_cmp x.number y.number)) sorted.0
    no_row (λ x y. refl) sorted.3 in
    sorted_before told_entry (λ x y. is_lt (nat_cmp x.number y.number)) (λ x y. is_lt (nat_cmp x.number y.number)) found (λ x y. refl)
    (subst (IsSorted (λ (x y : ListedEntry). nat_cmp x.number y.number)) (sym (reads sorted.0 sorted.1)) listed)
  where
    -- a default entry
    no_row : EntryRow
    no_row = record { driver = 0; number = 0; start = 0; past = 0; mark = 0; withdrawn = 0; author = []; note = [] }
