-- What the statements do that carry the tables of schema 1 over to schema 2.
use Rattle.std.proofs.Common.{◌≡◌, ◌∙◌, ℕ, List, [], ◌∷◌, ◌++◌, None, Ok, Some, ap, append-nil, arith, codes, drop, false, filter, map}
use Rattle.std.proofs.Common.{pos, refl, subst, sym, true}
use Rattle.std.specs.List.Sorted.{IsPermutation}
use Rattle.std.proofs.lemmas.List.Sorted.{IsPermutation-map, IsPermutation-trans}
use Rattle.sqlite.specs.declared.types.Value.TheVariants.{Null, Int, Text}
use Rattle.sqlite.specs.Command.TheVariants.{Insert, Update, Delete}
use Rattle.sqlite.specs.Source.TheVariants.{Query}
use Rattle.sqlite.specs.Term.{Term, lit, col, eval_all}
use Rattle.sqlite_tied.specs.Compute.{everything}
use Rattle.sqlite.specs.Cast.{cast_row}
use Rattle.sqlite.specs.Edit.{Edit, Applies, are_fresh, edit_of, numbered, put_all, without_all}
use Rattle.sqlite.specs.Effect.{Database}
use Rattle.sqlite.specs.Listing.{understood}
use Rattle.sqlite.specs.Order.{Row}
use Rattle.sqlite.specs.Program.{overlay}
use Rattle.sqlite.specs.Rowids.TheVariants.{Chosen, Given}
use Rattle.sqlite.specs.State.{State, Executes}
use Rattle.sqlite.specs.Tree.{Trees}
use Rattle.sqlite.proofs.Callers.{one_permutation}
use Rattle.sqlite_catalog.specs.Listing.{IsSound}
use Rattle.sqlite_rules.specs.Calls.{ids_of}
use Rattle.sqlite_schema.specs.declared.schema.Keys.TheVariants.{Enforced}
use Rattle.sqlite_trees.proofs.ListLemmas.{pull_back}
use Rattle.sqlite_value.specs.declared.keys.Collation.{Collation}
use Rattle.sqlite_value.specs.declared.keys.Collation.TheVariants.{Binary}
use Rattle.tacho_tables.specs.Schema.{Carried, archive_schema, current_version, entry_rows, old_schema, old_version, to_driver}
use Rattle.tacho_tables.specs.Schema as made
use Rattle.tacho_tables.specs.Rows.{AreNumberedRowsOf, AreRowsOf, OldEntryRow, by_office}
use Rattle.tacho_tables.specs.Rows.{download_columns, entry_columns, old_entry_columns, span_columns}
use Rattle.tacho_tables.specs.Tables.{Carries, OldTables, HasOldTables, IsVersion}
use Rattle.tacho_tables.specs.Making.{Copies, HasMade}
use Rattle.tacho_tables.proofs.Answers.{simple, passes, listed, shows, eq_test, uncollated}
use Rattle.tacho_tables.proofs.Idle.{idle}
use Rattle.tacho_tables.proofs.Kept.{AreKept}
use Rattle.tacho_tables.proofs.ListingLemmas.{all_pass}
use Rattle.tacho_tables.proofs.MakingLemmas.{no_permutation, nothing_stands}
use Rattle.tacho_tables.proofs.SpanLemmas.{none_given}
use Rattle.tacho_tables.proofs.Statements.{IsStatement, first_row}
use Rattle.tacho_tables.proofs.Stored.{own_id, shown_of, stands_left, stands_shuffled}
use Rattle.tacho_tables.proofs.Updates.{stands_chosen}
use Rattle.tacho_tables.proofs.Writes.{Edits, inserted_of, deleted, updated, cast_null, cast_int}

-- ---- the texts

-- the SQL that copies the entries
abbrev pub copy_text : List ℕ
copy_text =
    codes "INSERT INTO entry_rows (driver, number, start, past, mark, withdrawn, author, note) SELECT driver, number, start, past, mark, withdrawn, 'office', '' FROM entries"

-- what the copy puts for a row of schema 1: an entry of the office; the store gives the row's number
abbrev pub copied_shown : List Term
copied_shown =
    lit Null ∷ col 1 1 ∷ col 1 2 ∷ col 1 3 ∷ col 1 4 ∷ col 1 5 ∷ col 1 6 ∷ lit (Text (codes "office")) ∷ lit (Text []) ∷ []

-- the collations of these columns, which don't matter
abbrev copied_collations : List Collation
copied_collations = Binary ∷ Binary ∷ Binary ∷ Binary ∷ Binary ∷ Binary ∷ Binary ∷ Binary ∷ Binary ∷ []

-- the statement that `copy_text` is
pub copy_is : IsStatement (archive_schema Carried) copy_text
    (Insert 6 (Query (record { lets = []; body = record (simple 8 [] copied_shown []) { collations = copied_collations } })))
unfolding understood everything
copy_is = record { meant = refl; unlisted = refl; plain = (refl, refl) }

-- the SQL that removes the entries of schema 1
abbrev pub clear_text : List ℕ
clear_text = codes "DELETE FROM entries"

-- the statement that `clear_text` is
pub clear_is : IsStatement (archive_schema Carried) clear_text (Delete 4 (record { lets = []; body = simple 8 [] (col 1 0 ∷ []) [] }))
unfolding understood everything
clear_is = record { meant = refl; unlisted = refl; plain = (refl, refl) }

-- the SQL that sets the version
abbrev pub version_set_text : List ℕ
version_set_text = codes "UPDATE meta SET version = ?1 WHERE id = 1"

-- the row of `meta` with version ?1, after its old number
abbrev pub with_version_shown : List Term
with_version_shown = col 1 0 ∷ col 1 0 ∷ lit Null ∷ col 0 0 ∷ []

-- the statement that `version_set_text` is
pub version_set_is : IsStatement (archive_schema Carried) version_set_text
    (Update 0 (record { lets = []; body = simple 0 first_row with_version_shown [] }))
unfolding understood everything
version_set_is = record { meant = refl; unlisted = refl; plain = (refl, refl) }

-- ---- what each statement leaves

-- an edit of an archive that was carried over changed the rows of one table only
pub record Leaves (tree : ℕ) (old new : Database) : Type 0 where
  pub schema : new.schema ≡ archive_schema Carried
  pub sound : IsSound (archive_schema Carried) new.trees
  pub kept : AreKept Carried tree old.trees new.trees

-- each edit does
leaves : (old new : State) {edit : Edit} → Edits (archive_schema Carried) old new edit → Leaves edit.table.tree old.now new.now
leaves old new {edit} e =
    let trees = sym (ap (λ (d : Database). d.trees) e.now_is) in
    record {
      schema = ap (λ (d : Database). d.schema) e.now_is;
      sound = subst (IsSound (archive_schema Carried)) trees e.sound;
      kept = subst (AreKept Carried edit.table.tree old.now.trees) trees e.applies.tables;
    }

-- the row that is put for an entry of schema 1
abbrev put_for : OldEntryRow → Row
put_for x = Null ∷ entry_columns (by_office x)

-- its columns are stored unchanged
cast_all : (xs : List OldEntryRow) → map (λ s. cast_row (record made.entry_rows { tree = 12 }) (drop 0 s)) (map put_for xs)
    ≡ map (λ x. Null ∷ entry_columns x) (map by_office xs)
cast_all [] = refl
cast_all (x ∷ xs) = rw (
  cast_null,
  cast_int (pos x.driver),
  cast_int (pos x.number),
  cast_int (pos x.start),
  cast_int (pos x.past),
  cast_int (pos x.mark),
  cast_int (pos x.withdrawn),
  cast_all xs,
) refl

-- the rows that are put for the query's rows represent the entries
copied_stands : (db next : Trees) (found : List Row)
    → IsPermutation (map (λ r. eval_all copied_shown ([] ∷ r ∷ [])) (filter (passes [] []) (db 8))) found
    → Applies (archive_schema Carried) Enforced db (edit_of db (record made.entry_rows { tree = 12 }) [] Chosen 0 found) next
    → db 12 ≡ [] → (entries : List OldEntryRow) → AreRowsOf old_entry_columns (db 8) entries
    → AreRowsOf entry_columns (next 12) (map by_office entries)
copied_stands db next found same applies none entries s =
    let passed = shown_of old_entry_columns (db 8) entries s (passes [] []) (λ _. true) (λ v x. refl)
    (λ (r : Row). eval_all copied_shown ([] ∷ r ∷ [])) put_for (λ v x. refl) in
    let all = subst (λ xs. IsPermutation (map put_for xs) found) (all_pass entries) (IsPermutation-trans _ _ _ passed same) in
    let back = pull_back put_for _ found all entries refl in
    let some = map by_office back.0 in
    let put : List Row = map (λ x. Null ∷ entry_columns x) some in
    let news : map (λ s. cast_row (record made.entry_rows { tree = 12 }) (drop 0 s)) found ≡ put =
    ap (map (λ s. cast_row (record made.entry_rows { tree = 12 }) (drop 0 s))) back.2 ∙ cast_all back.0 in
    let rows : next 12 ≡ put_all (db 12) (numbered Chosen (db 12) put) =
    applies.rows ∙ ap (λ ns. put_all (db 12) (numbered Chosen (db 12) ns)) news in
    let fresh : are_fresh (db 12) (numbered Chosen (db 12) put) ≡ true =
    subst (λ ns. are_fresh (db 12) (numbered Chosen (db 12) ns) ≡ true) news applies.fresh in
    let stand = stands_chosen entry_columns some (db 12) [] (nothing_stands entry_columns (db 12) none) fresh in
    stands_shuffled entry_columns (next 12) (some ++ []) (map by_office entries)
    (subst (λ rs. AreRowsOf entry_columns rs (some ++ [])) (sym rows) stand)
    (subst (λ ys. IsPermutation (map entry_columns (map by_office entries)) (map entry_columns ys)) (sym (append-nil some))
    (IsPermutation-map entry_columns _ _ (IsPermutation-map by_office entries back.0 back.1)))

-- the INSERT copies each entry, and changes no other table
pub copies : (old new : State) (count : ℕ) → old.now.schema ≡ archive_schema Carried → Executes copy_text [] old new (Ok count)
    → Copies old.now new.now
copies old new count has h =
    let db = old.now.trees in
    let t = made.entry_rows in
    let e = inserted_of (archive_schema Carried) old new has copy_text copy_is.plain [] count 6 (codes "entry_rows") 12 t.columns None
    (1 ∷ 2 ∷ []) ((1 ∷ 2 ∷ []) ∷ []) t.orders t.checks (to_driver ∷ []) refl (idle Carried 12) _ copy_is.meant h in
    let answer = uncollated 8 [] copied_shown [] copied_collations (overlay db []) [] e.0 (e.1.answer Null) in
    let found = rw (none_given db 8) at
    (shows 8 [] copied_shown [] (overlay db []) [] e.0 (listed 8 [] copied_shown [] (overlay db []) [] e.0 answer)) in
    let left = leaves old new e.2 in
    let trees = sym (ap (λ (d : Database). d.trees) e.2.now_is) in
    let kept = left.kept in
    record {
      schema = left.schema;
      sound = left.sound;
      others = (
        kept.0 (λ e. omega (arith, e)),
        (
          kept.1.0 (λ e. omega (arith, e)),
          (
            kept.1.1.0 (λ e. omega (arith, e)),
            (
              kept.1.1.1.0 (λ e. omega (arith, e)),
              (kept.1.1.1.1.0 (λ e. omega (arith, e)), (kept.1.1.1.1.1.0 (λ e. omega (arith, e)), tt)),
            ),
          ),
        ),
      );
      copied = λ none entries s. subst (λ (ts : Trees). AreRowsOf entry_columns (ts 12) (map by_office entries)) trees
          (copied_stands db e.2.next e.0 found e.2.applies none entries s);
    }

-- rows that represent an empty list are empty
none_stand : {X : Type 0} (columns : X → Row) (rows : List Row) → AreRowsOf columns rows [] → rows ≡ []
none_stand columns [] s = refl
none_stand columns (r ∷ rows) s = absurd (let e = no_permutation (map (drop 1) (r ∷ rows)) s.same in cc)

-- a filter that nothing passes gives an empty list
none_pass : {X : Type 0} (xs : List X) → filter (λ _. false) xs ≡ []
none_pass [] = refl
none_pass (x ∷ xs) = none_pass xs

-- the DELETE empties the table of schema 1, and changes no other
pub clears : (old new : State) (count : ℕ) → old.now.schema ≡ archive_schema Carried → Executes clear_text [] old new (Ok count)
    → Leaves 8 old.now new.now
    × ((entries : List OldEntryRow) → AreRowsOf old_entry_columns (old.now.trees 8) entries → new.now.trees 8 ≡ [])
clears old new count has h =
    let db = old.now.trees in
    let t = made.entries in
    let e = deleted (archive_schema Carried) old new has clear_text clear_is.plain [] count 4 (codes "entries") 8 t.columns None
    (1 ∷ 2 ∷ []) ((1 ∷ 2 ∷ []) ∷ []) t.orders t.checks (to_driver ∷ []) refl (idle Carried 8) _ clear_is.meant h in
    let l = listed 8 [] (col 1 0 ∷ []) [] (overlay db []) [] e.0 (e.1.answer Null) in
    let found = rw (none_given db 8) at (shows 8 [] (col 1 0 ∷ []) [] (overlay db []) [] e.0 l) in (
      leaves old new e.2,
      λ entries s.
          let left = stands_left old_entry_columns (db 8) entries s (passes [] []) (λ _. true) (λ v x. refl) e.0 found in
          ap (λ (d : Database). d.trees 8) e.2.now_is ∙ e.2.applies.rows
          ∙ none_stand old_entry_columns _ (subst (AreRowsOf old_entry_columns (without_all (db 8) (ids_of e.0))) (none_pass entries) left),
    )

-- a row of meta
abbrev version_row : ℕ → Row
version_row version = Int (pos 1) ∷ Null ∷ Int (pos version) ∷ []

-- the row that is put for the one row that the query shows
version_put : (rows found : List Row) → rows ≡ version_row old_version ∷ []
    → found ≡ (Int (pos 1) ∷ version_row current_version) ∷ []
    → put_all (without_all rows (ids_of found))
    (numbered Given (without_all rows (ids_of found)) (map (λ s. cast_row made.meta (drop 1 s)) found))
    ≡ version_row current_version ∷ []
version_put rows found is shown = rw (is, shown, own_id (pos 1), cast_int (pos 1), cast_null, cast_int (pos current_version)) refl

-- the UPDATE sets the current version where the row of `meta` had the old one
pub sets_version : (old new : State) (count : ℕ) → old.now.schema ≡ archive_schema Carried → Executes version_set_text (Int (pos current_version) ∷ []) old new (Ok count)
    → Leaves 0 old.now new.now × (IsVersion old_version old.now.trees → IsVersion current_version new.now.trees)
sets_version old new count has h =
    let db = old.now.trees in
    let params = Int (pos current_version) ∷ [] in
    let t = made.meta in
    let e = updated (archive_schema Carried) old new has version_set_text version_set_is.plain params count 0 (codes "meta") 0 t.columns
    (Some 0) (0 ∷ []) [] [] [] [] refl (idle Carried 0) _ version_set_is.meant h in
    let l = listed 0 first_row with_version_shown [] (overlay db []) params e.0 (e.1.answer Null) in (
      leaves old new e.2,
      λ is.
          let found = one_permutation (Int (pos 1) ∷ version_row current_version) e.0
          (rw (none_given db 0, is, eq_test 1 1) at (shows 0 first_row with_version_shown [] (overlay db []) params e.0 l)) in
          ap (λ (d : Database). d.trees 0) e.2.now_is ∙ e.2.applies.rows ∙ version_put (db 0) e.0 is found,
    )

-- ---- all four steps

-- the four steps carry the tables over
pub carries : (first made copied cleared last : State) → HasMade old_schema entry_rows first made → Copies made.now copied.now
    → Leaves 8 copied.now cleared.now
    × ((entries : List OldEntryRow) → AreRowsOf old_entry_columns (copied.now.trees 8) entries → cleared.now.trees 8 ≡ [])
    → Leaves 0 cleared.now last.now × (IsVersion old_version cleared.now.trees → IsVersion current_version last.now.trees) → Carries first.now last.now
carries first made copied cleared last one two three four = record {
  schema = record { layout = Carried; schema = four.0.schema; sound = four.0.sound };
  stands = λ a s. record {
    layout = Carried;
    sound = four.0.sound;
    meta = four.1 (three.0.kept.0 (λ e. omega (arith, e)) ∙ two.others.0 ∙ one.others.0 ∙ s.meta);
    drivers = subst (λ rows. AreNumberedRowsOf rows a.drivers)
        (sym (four.0.kept.1.0 (λ e. omega (arith, e)) ∙ three.0.kept.1.0 (λ e. omega (arith, e)) ∙ two.others.1.0 ∙ one.others.1.0))
        s.drivers;
    downloads = subst (λ rows. AreRowsOf download_columns rows a.downloads)
        (sym (four.0.kept.1.1.0 (λ e. omega (arith, e)) ∙ three.0.kept.1.1.0 (λ e. omega (arith, e)) ∙ two.others.1.1.0 ∙ one.others.1.1.0))
        s.downloads;
    card_spans = subst (λ rows. AreRowsOf span_columns rows a.card_spans)
        (sym (four.0.kept.1.1.1.0 (λ e. omega (arith, e)) ∙ three.0.kept.1.1.1.0 (λ e. omega (arith, e)) ∙ two.others.1.1.1.0
        ∙ one.others.1.1.1.0))
        s.card_spans;
    entries = subst (λ rows. AreRowsOf entry_columns rows (map by_office a.entries))
        (sym (four.0.kept.1.1.1.1.1.1.0 (λ e. omega (arith, e)) ∙ three.0.kept.1.1.1.1.1.1.0 (λ e. omega (arith, e))))
        (two.copied one.empty a.entries (subst (λ rows. AreRowsOf old_entry_columns rows a.entries) (sym one.others.1.1.1.1.0) s.entries));
    old_entries = emptied a s;
    held = subst (λ rows. AreRowsOf span_columns rows a.held)
        (sym (four.0.kept.1.1.1.1.1.0 (λ e. omega (arith, e)) ∙ three.0.kept.1.1.1.1.1.0 (λ e. omega (arith, e)) ∙ two.others.1.1.1.1.1.0
        ∙ one.others.1.1.1.1.1.0)) s.held;
  };
  emptied = emptied;
}
  where
    -- `entries` is cleared, and stays empty
    emptied : (a : OldTables) → HasOldTables first.now.trees a → last.now.trees 8 ≡ []
    emptied a s = four.0.kept.1.1.1.1.0 (λ e. omega (arith, e))
        ∙ three.1 a.entries
        (subst (λ rows. AreRowsOf old_entry_columns rows a.entries) (sym (two.others.1.1.1.1.0 ∙ one.others.1.1.1.1.0)) s.entries)
