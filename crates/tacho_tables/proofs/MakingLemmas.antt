-- What CREATE TABLE leaves, and what is read from `meta`.
use Rattle.std.proofs.Common.{◌≡◌, ℕ, pos, List, [], ◌∷◌, codes, Ok, Err, Option, Some, None, true, false, inl, inr, refl, sym, ap, subst, ◌∙◌}
use Rattle.std.proofs.Common.{arith}
use Rattle.std.specs.Prelude.{IsPermutation, IfOk, IsErr, Result}
use Rattle.std.proofs.lemmas.List.Sorted.{IsPermutation-refl, length_permutation}
use Rattle.sqlite.specs.declared.types.Value.TheVariants.{Null, Int}
use Rattle.sqlite.specs.Order.{Row}
use Rattle.sqlite.specs.Source.TheVariants.{Values}
use Rattle.sqlite.specs.Term.{Term, lit, col}
use Rattle.sqlite_tied.specs.Compute.{everything}
use Rattle.sqlite.specs.Listing.{understood}
use Rattle.tacho_tables.specs.Schema.{Made, archive_schema, current_version}
use Rattle.tacho_tables.specs.Schema as made
use Rattle.tacho_tables.specs.Rows.{AreRowsOf, AreNumberedRowsOf, span_columns, download_columns, entry_columns}
use Rattle.tacho_tables.specs.Tables.{HasTables, IsArchive, IsVersion, no_rows}
use Rattle.tacho_tables.specs.Making.{AreEmpty, IsVersioned}
use Rattle.tacho_tables.specs.Calls.{IsFirst}
use Rattle.tacho_tables.proofs.Reading.{head_is}
use Rattle.tacho_tables.proofs.Idle.{idle}
use Rattle.tacho_tables.proofs.Answers.{listed, shows, eq_test}
use Rattle.tacho_tables.proofs.SpanLemmas.{none_given}
use Rattle.tacho_tables.proofs.Statements.{IsStatement, IsReading, version_text, version_is, version_was, first_row}
use Rattle.tacho_tables.proofs.Writes.{inserted, cast_null, cast_int}
use Rattle.sqlite.specs.Schema.{Schema}
use Rattle.sqlite.specs.Table.{Table}
use Rattle.sqlite.specs.Command.TheVariants.{CreateTable, Insert}
use Rattle.sqlite.specs.Change.{created, next_tree, KeepsRows}
use Rattle.sqlite.specs.Does.{Tally, lacks_sequence}
use Rattle.sqlite.specs.Effect.{Database}
use Rattle.sqlite.specs.Tree.{Trees}
use Rattle.sqlite_catalog.specs.Listing.{IsSound}
use Rattle.sqlite.specs.State.{State, Writes, Executes, Shows, Shown}
use Rattle.sqlite.specs.Program.{overlay}
use Rattle.sqlite.proofs.Callers.{runs_as, reads_as, one_permutation}
use Rattle.tacho_tables.specs.Making.{IsCreate, HasMade}
use Rattle.tacho_tables.proofs.Writes.{went, same_value}

-- a CREATE TABLE within a transaction makes the table
pub makes : (schema : Schema) (table : Table) (text : List ℕ) (old new : State) (count : ℕ) → old.now.schema ≡ schema
    → IsCreate schema text table → Executes text [] old new (Ok count)
    → Shows old new new.now old.committed true → HasMade schema table old new
makes schema table text old new count has it h shown =
    let w = subst (λ t. Writes old new None CreateTable t [] count) it.statement
    (runs_as text [] old new schema has CreateTable it.command it.plain count h) in
    let all = went w.changed in
    let first = went all.1 in
    let made = first.1 in
    let both : Ok made.table ≡ Ok table = sym made.defined ∙ it.defined in
    let same : made.table ≡ table = same_value both in
    let after : first.0.schema ≡ created schema table = made.is ∙ ap (λ s. created s made.table) has ∙ ap (created schema) same in
    let plain : lacks_sequence first.0.schema ≡ false = ap lacks_sequence after ∙ it.uncounted in
    let now : new.now ≡ first.0 = ap (λ (p : Tally × Database). p.1) (same_value all.2) ∙ same_value (rw plain at first.2) in
    record {
      inside = shown.mode;
      committed = shown.committed_is;
      after = ap (λ (d : Database). d.schema) now ∙ after;
      empty = ap (λ (d : Database). d.trees (next_tree schema)) now ∙ subst (λ s. first.0.trees (next_tree s) ≡ []) has made.empty;
      others = subst (λ (d : Database). KeepsRows schema.tables old.now.trees d.trees) (sym now)
          (subst (λ s. KeepsRows s.tables old.now.trees first.0.trees) has made.others);
    }

-- ---- the row of `meta`

-- the text that adds it
abbrev pub meta_row_text : List ℕ
meta_row_text = codes "INSERT INTO meta (id, version) VALUES (1, ?1)"

-- its values
abbrev meta_values : List Term
meta_values = lit (Int (pos 1)) ∷ lit Null ∷ col 0 0 ∷ []

-- the row
abbrev meta_row : Row
meta_row = Int (pos 1) ∷ Null ∷ Int (pos current_version) ∷ []

-- the statement that `meta_row_text` is
meta_row_is : IsStatement (archive_schema Made) meta_row_text (Insert 0 (Values meta_values 3))
unfolding understood everything
meta_row_is = record { meant = refl; unlisted = refl; plain = (refl, refl) }

-- no rows represent the empty list
pub nothing_stands : {X : Type 0} (columns : X → Row) (rows : List Row) → rows ≡ [] → AreRowsOf columns rows []
nothing_stands columns rows none = subst (λ rs. AreRowsOf columns rs []) (sym none)
    (record { stored = λ r has. absurd has; apart = λ a b has other same. absurd has; same = IsPermutation-refl [] })

-- no rows represent the empty list of drivers
no_driver_stands : (rows : List Row) → rows ≡ [] → AreNumberedRowsOf rows []
no_driver_stands rows none = subst (λ rs. AreNumberedRowsOf rs []) (sym none)
    (record { apart = λ a b has other same. absurd has; same = IsPermutation-refl [] })

-- with the row in `meta`, the six empty tables are an archive without drivers
pub makes_archive : (old new : State) (count : ℕ) → old.now.schema ≡ archive_schema Made
    → AreEmpty (0 ∷ 1 ∷ 4 ∷ 6 ∷ 8 ∷ 10 ∷ []) old.now.trees → Executes meta_row_text (Int (pos current_version) ∷ []) old new (Ok count)
    → IsArchive new.now × HasTables new.now.trees no_rows
makes_archive old new count has none h =
    let t = made.meta in
    let e = inserted (archive_schema Made) old new has meta_row_text meta_row_is.plain (Int (pos current_version) ∷ []) count 0 (codes "meta") 0 t.columns (Some 0)
    (0 ∷ []) [] [] [] [] refl (idle Made 0) meta_values 3 meta_row_is.meant (meta_row ∷ []) refl h in
    let stored = rw (cast_int (pos 1), cast_int (pos current_version), cast_null, none.0) at e.applies.rows in
    let kept = e.applies.tables in
    let trees : new.now.trees ≡ e.next = ap (λ (d : Database). d.trees) e.now_is in (
      record {
        layout = Made;
        schema = ap (λ (d : Database). d.schema) e.now_is;
        sound = subst (IsSound (archive_schema Made)) (sym trees) e.sound;
      },
      subst (λ (db : Trees). HasTables db no_rows) (sym trees) (record {
        layout = Made;
        sound = e.sound;
        meta = stored;
        drivers = no_driver_stands (e.next 1) (kept.1.0 (λ e. omega (arith, e)) ∙ none.1.0);
        downloads = nothing_stands download_columns (e.next 4) (kept.1.1.0 (λ e. omega (arith, e)) ∙ none.1.1.0);
        card_spans = nothing_stands span_columns (e.next 6) (kept.1.1.1.0 (λ e. omega (arith, e)) ∙ none.1.1.1.0);
        entries = nothing_stands entry_columns (e.next 8) (kept.1.1.1.1.0 (λ e. omega (arith, e)) ∙ none.1.1.1.1.0);
        old_entries = tt;
        held = nothing_stands span_columns (e.next 10) (kept.1.1.1.1.1.0 (λ e. omega (arith, e)) ∙ none.1.1.1.1.1.0);
      }),
    )

-- ---- the version

-- the SQL that reads the version is the same reading under each schema
pub version_reads : (d : Database) → IsVersioned d → IsReading d.schema version_text 0 first_row (col 1 2 ∷ []) [] (codes "version" ∷ [])
version_reads d (inl old) = subst (λ s. IsReading s version_text 0 first_row (col 1 2 ∷ []) [] (codes "version" ∷ [])) (sym old) version_was
version_reads d (inr new) =
    subst (λ s. IsReading s version_text 0 first_row (col 1 2 ∷ []) [] (codes "version" ∷ [])) (sym new.1) (version_is new.0)

-- the reading of the version shows the version that is stored
pub shows_version : (version : ℕ) (old new : State) (rows : List Row) → IsVersioned old.now → Shown version_text [] old new rows
    → IsVersion version old.now.trees → rows ≡ (Int (pos version) ∷ []) ∷ []
shows_version version old new rows has h is =
    let db = old.now.trees in
    let shown = col 1 2 ∷ [] in
    let it = version_reads old.now has in
    let got = reads_as version_text [] old new old.now.schema refl _ it.meant it.plain it.unlisted rows h in
    let l = listed 0 first_row shown [] (overlay db []) [] rows (got.answer Null) in
    one_permutation (Int (pos version) ∷ []) rows (rw (none_given db 0, is, eq_test 1 1) at
    (shows 0 first_row shown [] (overlay db []) [] rows l))

-- the number that is read from the first such row is the version
pub first_is : (version : ℕ) (found : Option ℕ) (rows : List Row) → rows ≡ (Int (pos version) ∷ []) ∷ []
    → IsFirst (λ n. Int (pos n) ∷ []) (λ n. n) (λ n. n) rows found → found ≡ Some version
first_is version None rows is first = absurd (let e = sym is ∙ first in cc)
first_is version (Some n) [] is first = absurd first
first_is version (Some n) (row ∷ rows) is first = ap Some (first version (head_is is))

-- only the empty list is a permutation of the empty list
pub no_permutation : (rows : List Row) → IsPermutation [] rows → rows ≡ []
no_permutation [] h = refl
no_permutation (r ∷ rows) h = absurd (let e = length_permutation [] (r ∷ rows) h in cc)

-- the reading of the version shows nothing if `meta` has no row
pub shows_no_version : (old new : State) (rows : List Row) → IsVersioned old.now → Shown version_text [] old new rows
    → old.now.trees 0 ≡ [] → rows ≡ []
shows_no_version old new rows has h is =
    let db = old.now.trees in
    let shown = col 1 2 ∷ [] in
    let it = version_reads old.now has in
    let got = reads_as version_text [] old new old.now.schema refl _ it.meant it.plain it.unlisted rows h in
    let l = listed 0 first_row shown [] (overlay db []) [] rows (got.answer Null) in
    no_permutation rows (rw (none_given db 0, is) at (shows 0 first_row shown [] (overlay db []) [] rows l))

-- so no version is found
pub first_is_none : (found : Option ℕ) (rows : List Row) → rows ≡ []
    → IsFirst (λ n. Int (pos n) ∷ []) (λ n. n) (λ n. n) rows found → found ≡ None
first_is_none None rows is first = refl
first_is_none (Some n) [] is first = absurd first
first_is_none (Some n) (row ∷ rows) is first = cc

-- a reading that can't have an answer fails
pub none_shown : {A E : Type 0} {P : A → Type 0} (r : Result A E) → ((x : A) → P x → ⊥) → IfOk r P → IsErr r
none_shown (Ok x) none it = absurd (none x it)
none_shown (Err e) none it = refl
