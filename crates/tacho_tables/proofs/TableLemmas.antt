-- What statements do on a table whose rows have hidden numbers, whichever table it is.
use Rattle.std.proofs.Common.{◌≡◌, ◌∙◌, ◌/◌, drop, length, ℕ, List, [], ◌∷◌, ◌++◌, map, filter, slice_get, Bool, true, None, Some, Ok, refl, sym, ap, subst}
use Rattle.std.specs.List.Sorted.{IsPermutation, IsSorted, IsSortedBy}
use Rattle.std.specs.Ordering.{is_lt}
use Rattle.std.proofs.lemmas.List.Sorted.{IsPermutation-trans}
use Rattle.sqlite.specs.declared.types.Value.{Value}
use Rattle.sqlite.specs.declared.types.Value.TheVariants.{Null}
use Rattle.sqlite.specs.Command.TheVariants.{Insert}
use Rattle.sqlite.specs.Source.TheVariants.{Values}
use Rattle.sqlite.specs.Order.{Row}
use Rattle.sqlite.specs.Table.{Table}
use Rattle.sqlite.specs.Tree.{Trees}
use Rattle.sqlite.specs.Term.{Term, eval_all}
use Rattle.sqlite.specs.Edit.{put_all, numbered, are_fresh}
use Rattle.sqlite.specs.Cast.{cast_row}
use Rattle.sqlite.specs.Rowids.TheVariants.{Chosen}
use Rattle.sqlite.specs.Effect.{Database, value_rows}
use Rattle.sqlite.specs.Program.{overlay}
use Rattle.sqlite.specs.State.{State, Executes, Shown}
use Rattle.sqlite.proofs.Callers.{reads_as}
use Rattle.sqlite_catalog.specs.Listing.{IsSound}
use Rattle.sqlite_schema.specs.declared.schema.Column.{Column}
use Rattle.sqlite_sql.specs.Query.{Output, output, output_cmp}
use Rattle.sqlite_trees.proofs.ListLemmas.{map-map, pull_back}
use Rattle.sqlite_value.specs.Keys.{plain}
use Rattle.sqlite_value.specs.declared.keys.Key.{Key}
use Rattle.tacho_tables.specs.Schema.{Layout, archive_schema, to_driver}
use Rattle.tacho_tables.specs.Rows.{AreRowsOf}
use Rattle.tacho_tables.specs.Tables.{Tables, HasTables, IsArchive, Turns}
use Rattle.tacho_tables.proofs.Answers.{ListedIn, passes, listed, none_given, shows, simple}
use Rattle.tacho_tables.proofs.CatalogLemmas.{layout_is}
use Rattle.tacho_tables.proofs.Idle.{idle}
use Rattle.tacho_tables.proofs.Kept.{AreKept}
use Rattle.tacho_tables.proofs.SortedLemmas.{sorted_before}
use Rattle.tacho_tables.proofs.Statements.{IsStatement, IsReading}
use Rattle.tacho_tables.proofs.Stored.{shown_of}
use Rattle.tacho_tables.proofs.TurnLemmas.{turns}
use Rattle.tacho_tables.proofs.Updates.{stands_chosen}
use Rattle.tacho_tables.proofs.Writes.{flat, inserted}

-- a table whose key is a driver and a number or a minute
abbrev pub keyed : List ℕ → List Column → List Term → ℕ → Table
keyed name kinds checks tree =
    flat name tree kinds None (1 ∷ 2 ∷ []) ((1 ∷ 2 ∷ []) ∷ []) (plain ∷ []) checks (to_driver ∷ [])

-- such a table of the archive: its place and its tree under each layout, and the list of `Tables` that its rows represent
pub record IsTable {X : Type 0} (columns : X → Row) (name : List ℕ) (kinds : List Column) (checks : List Term) (place tree : Layout → ℕ)
    (get : Tables → List X) (put : List X → Tables → Tables) : Type 0 where
  pub at : (layout : Layout) → slice_get (archive_schema layout).tables (place layout) ≡ Some (keyed name kinds checks (tree layout))
  pub cast : (layout : Layout) (x : X) → cast_row (keyed name kinds checks (tree layout)) (Null ∷ columns x) ≡ Null ∷ columns x
  pub got : (xs : List X) (a : Tables) → get (put xs a) ≡ xs
  pub same : (a : Tables) → put (get a) a ≡ a
  pub again : (xs ys : List X) (a : Tables) → put ys (put xs a) ≡ put ys a
  pub stands : (layout : Layout) (db : Trees) (a : Tables) (s : HasTables db a) → s.layout ≡ layout
      → AreRowsOf columns (db (tree layout)) (get a)
  pub changed : (layout : Layout) (db next : Trees) (a : Tables) → IsSound (archive_schema layout) next → (s : HasTables db a)
      → s.layout ≡ layout → AreKept layout (tree layout) db next → (xs : List X) → AreRowsOf columns (next (tree layout)) xs
      → HasTables next (put xs a)

module _ {X : Type 0} {columns : X → Row} {name : List ℕ} {kinds : List Column} {checks : List Term} {place tree : Layout → ℕ}
    {get : Tables → List X} {put : List X → Tables → Tables} (table : IsTable columns name kinds checks place tree get put) where
  -- the table's rows in an archive
  pub stands_in : (d : Database) (is : IsArchive d) (a : Tables) → HasTables d.trees a
      → AreRowsOf columns (d.trees (tree is.layout)) (get a)
  stands_in d is a s = table.stands is.layout d.trees a s (layout_is d a is s)

  -- a value as a row whose number the store gives; its columns are stored unchanged
  abbrev pub unnumbered : X → Row
  unnumbered x = Null ∷ columns x

  cast_all : (layout : Layout) (xs : List X)
      → map (λ s. cast_row (keyed name kinds checks (tree layout)) (drop 0 s)) (map unnumbered xs) ≡ map unnumbered xs
  cast_all layout [] = refl
  cast_all layout (x ∷ xs) = rw (table.cast layout x, cast_all layout xs) refl

  -- an INSERT of rows adds them to the table, and changes no other
  pub adds_rows : (text : List ℕ) (terms : List Term) (width : ℕ) (params : Row) (xs : List X) (old new : State) (count : ℕ)
      → (is : IsArchive old.now)
      → ((layout : Layout) → IsStatement (archive_schema layout) text (Insert (place layout) (Values terms width)))
      → value_rows params width (length terms / width) terms ≡ map unnumbered xs
      → Executes text params old new (Ok count) → Turns old new (λ a. put (xs ++ get a) a)
  adds_rows text terms width params xs old new count is each given h =
      let at = tree is.layout in
      let rows = old.now.trees at in
      let it = each is.layout in
      let news : List Row = map unnumbered xs in
      let e = inserted (archive_schema is.layout) old new is.schema text it.plain params count (place is.layout) name at kinds
      None (1 ∷ 2 ∷ []) ((1 ∷ 2 ∷ []) ∷ []) (plain ∷ []) checks (to_driver ∷ []) (table.at is.layout) (idle is.layout at)
      terms width it.meant news given h in
      let stored : e.next at ≡ put_all rows (numbered Chosen rows news) =
      e.applies.rows ∙ ap (λ ns. put_all rows (numbered Chosen rows ns)) (cast_all is.layout xs) in
      let fresh : are_fresh rows (numbered Chosen rows news) ≡ true =
      subst (λ ns. are_fresh rows (numbered Chosen rows ns) ≡ true) (cast_all is.layout xs) e.applies.fresh in
      turns old new is e (λ a. put (xs ++ get a) a)
      (λ a s same. table.changed is.layout old.now.trees e.next a e.sound s same e.applies.tables (xs ++ get a)
      (subst (λ rs. AreRowsOf columns rs (xs ++ get a)) (sym stored)
      (stands_chosen columns xs rows (get a) (stands_in old.now is a s) fresh)))

  -- a reading shows these columns of the values that pass
  pub shows_rows : (text : List ℕ) (tests terms : List Term) (order : List (Term × Key)) (names : List (List ℕ))
      → ((layout : Layout) → IsReading (archive_schema layout) text (tree layout) tests terms order names)
      → (params : Row) (p : X → Bool) → ((v : Value) (x : X) → passes tests params (v ∷ columns x) ≡ p x)
      → (show : X → Row) → ((v : Value) (x : X) → eval_all terms (params ∷ (v ∷ columns x) ∷ []) ≡ show x)
      → (old new : State) (rows : List Row) → IsArchive old.now → Shown text params old new rows
      → (a : Tables) → HasTables old.now.trees a → IsPermutation (map show (filter p (get a))) rows
  shows_rows text tests terms order names each params p tested show same old new rows is h a s =
      let db = old.now.trees in
      let at = tree is.layout in
      let it = each is.layout in
      let got = reads_as text params old new (archive_schema is.layout) is.schema _ it.meant it.plain it.unlisted rows h in
      let l = listed at tests terms order (overlay db []) params rows (got.answer Null) in
      IsPermutation-trans _ _ _ (shown_of columns (db at) (get a) (stands_in old.now is a s) (passes tests params) p tested
      (λ (r : Row). eval_all terms (params ∷ r ∷ [])) show same)
      (rw (none_given db at) at (shows at tests terms order (overlay db []) params rows l))

  -- a reading in an order shows the values that pass in that order, or as many of them as it shows
  module _ (tests terms : List Term) (order : List (Term × Key)) (params : Row) (p : X → Bool)
      (tested : (v : Value) (x : X) → passes tests params (v ∷ columns x) ≡ p x) (shown_as : X → Output)
      (out : (t : ℕ) (v : Value) (x : X) → output (simple t tests terms order) (params ∷ (v ∷ columns x) ∷ []) ≡ shown_as x)
      (before : X → X → Bool)
      (sorts : (t : ℕ) (x y : X) → is_lt (output_cmp (simple t tests terms order) (shown_as x) (shown_as y)) ≡ before x y) where
    pub shows_sorted : (cut : List Row → List Row) (db : Trees) (layout : Layout) (all : List X) → AreRowsOf columns (db (tree layout)) all
        → (rows : List Row) → ListedIn cut (tree layout) tests terms order (overlay db []) params rows
        → (shown : List X) × (rows ≡ cut (map (λ x. (shown_as x).1) shown)) × IsPermutation (filter p all) shown × IsSortedBy before shown
    shows_sorted cut db layout all stands rows l =
        let at = tree layout in
        let q = simple at tests terms order in
        let passed = shown_of columns (db at) all stands (passes tests params) p tested
        (λ (r : Row). output q (params ∷ r ∷ [])) shown_as (out at) in
        let same = IsPermutation-trans _ _ _ passed (rw (none_given db at) at l.same) in
        let back = pull_back shown_as _ l.all same (filter p all) refl in (
          back.0,
          l.shown_is ∙ ap (λ xs. cut (map (λ (o : Output). o.1) xs)) back.2
              ∙ ap cut (map-map (λ (o : Output). o.1) shown_as back.0),
          back.1,
          sorted_before shown_as (λ o u. is_lt (output_cmp q o u)) before back.0 (sorts at)
              (subst (IsSorted (output_cmp q)) back.2 l.sorted),
        )
