-- Each stored row is that of a driver who has a row in `drivers`, by the schema's foreign keys.
use Rattle.std.proofs.Common.{codes, ◌≡◌, ◌∙◌, ℕ, ℤ, ◌||◌, Bool, true, false, true≢false, List, [], ◌∷◌, Option, Some, drop, map, slice_get, refl, sym, ap, subst}
use Rattle.std.specs.List.{list_all}
use Rattle.std.specs.Ordering.{int_eq}
use Rattle.std.proofs.lemmas.Bool.{and_parts}
use Rattle.sqlite_value.specs.declared.value.Value.TheVariants.{Int}
use Rattle.sqlite_value.specs.declared.keys.Collation.{Collation}
use Rattle.sqlite_value.specs.declared.keys.Collation.TheVariants.{Binary}
use Rattle.sqlite_value.specs.Keys.{plain, first_key, joined}
use Rattle.sqlite_value.specs.Order.{Row, column}
use Rattle.sqlite_sql.specs.Ops.{is_null}
use Rattle.sqlite_catalog.specs.Listing.{IsSound}
use Rattle.sqlite_schema.specs.declared.schema.Constraint.TheVariants.{ForeignKey}
use Rattle.sqlite_schema.specs.declared.schema.Table.{Table}
use Rattle.sqlite_schema.specs.Names.{same_name}
use Rattle.sqlite_schema.specs.Rules.{ParentKey, passes, has_parent, is_held, parent_key, agree, equal}
use Rattle.sqlite_keyed.proofs.KeyedLemmas.{same_int}
use Rattle.sqlite_rules.specs.Lists.{Has}
use Rattle.sqlite_rules.proofs.ListLemmas.{all_has, all_from, some_has, has_kept}
use Rattle.sqlite_trees.specs.Tree.{Trees}
use Rattle.sqlite_trees.proofs.ListLemmas.{filter_none}
use Rattle.sqlite_rules.proofs.ProbeLemmas.{has_mapped}
use Rattle.tacho_tables.specs.Schema.{Layout, Made, Carried, archive_schema, entry_tree}
use Rattle.tacho_tables.specs.Schema as made
use Rattle.tacho_tables.specs.declared.table.TableName.{TableName}
use Rattle.tacho_tables.specs.declared.table.TableName.TheVariants.{Drivers, Downloads, CardSpans, EntryRows, Held}
use Rattle.tacho_tables.specs.Readable.{is_number, is_own, own_rows, stored_rows, AreNumbered}
use Rattle.tacho_tables.proofs.AskLemmas.{int_test}
use Rattle.tacho_tables.proofs.UniqueLemmas.{HasDriver, rows_pass, downloads_at, card_spans_at, held_at, entry_place, entries_at, downloads_have, card_spans_have, entries_have, held_have}
use Rattle.tacho_check.proofs.TypeLemmas.{column_after}

-- the reference leads to the number of a row of `drivers`
key_is : (layout : Layout) → parent_key (archive_schema layout).tables made.to_driver ≡ Some (1, 0 ∷ [], plain)
unfolding joined same_name
key_is Made = refl
key_is Carried = refl

binary_first : (first_key plain).collation ≡ Binary
unfolding first_key
binary_first = refl

or_rest : (a b : Bool) → a ≡ false → (a || b) ≡ true → b ≡ true
or_rest true b none h = absurd (true≢false none)
or_rest false b none h = h

-- values that agree are the same number
agree_number : (k n : ℤ) (d r : Row) → column d 0 ≡ Int k → column r 1 ≡ Int n → agree plain (0 ∷ []) d (1 ∷ []) r ≡ true
    → int_eq k n ≡ true
agree_number k n d r own theirs h =
    let same : equal (first_key plain).collation (column d 0) (column r 1) ≡ true = (and_parts _ _ h).0 in
    sym (int_test k n)
    ∙ subst (λ (c : Collation). equal c (Int k) (Int n) ≡ true) binary_first (rw (own, theirs) at same)

module _ (layout : Layout) (db : Trees) (sound : IsSound (archive_schema layout) db) (numbered : AreNumbered (db made.driver_rows)) where
  -- a row that references a driver has the number of a row of `drivers`
  parent : (at : ℕ) (table : Table) → slice_get (archive_schema layout).tables at ≡ Some table → table.references ≡ made.to_driver ∷ []
      → (r : Row) → Has (db table.tree) r → (n : ℤ) → column r 1 ≡ Int n → (d : Row) × Has (db made.driver_rows) d × (is_own n d ≡ true)
  parent at table is refers r has n first =
      let each : list_all (has_parent (archive_schema layout).tables db r) table.references ≡ true =
      all_has (λ row. passes ForeignKey (archive_schema layout) db table row ≡ true) (db table.tree) r
      (rows_pass layout db sound ForeignKey at table is) has in
      let passed : has_parent (archive_schema layout).tables db r made.to_driver ≡ true = (and_parts _ _ (rw refers at each)).0 in
      let some : (is_null (column r 1) || false) ≡ false = rw first refl in
      let held : is_held db (1 ∷ []) r (parent_key (archive_schema layout).tables made.to_driver) ≡ true = or_rest _ _ some passed in
      let there = some_has (λ (d : Row). agree plain (0 ∷ []) d (1 ∷ []) r) (db made.driver_rows)
      (subst (λ (key : Option ParentKey). is_held db (1 ∷ []) r key ≡ true) (key_is layout) held) in
      let number = numbered.numbered there.0 there.1 in
      (there.0, there.1, ap (is_number n) number.1 ∙ agree_number number.0 n there.0 r number.1 first there.2)

  -- where a driver has no row in `drivers`, the driver has none in a table that references it
  none_there : (at : ℕ) (table : Table) → slice_get (archive_schema layout).tables at ≡ Some table → table.references ≡ made.to_driver ∷ []
      → HasDriver (db table.tree) → (m : ℤ) → own_rows m (db made.driver_rows) ≡ [] → own_rows m (map (drop 1) (db table.tree)) ≡ []
  none_there at table is refers has_driver m none =
      filter_none (is_own m) (map (drop 1) (db table.tree))
      (all_from (λ (y : Row). is_own m y ≡ false) (map (drop 1) (db table.tree)) (λ y has. go y has (is_own m y) refl))
    where
      go : (y : Row) → Has (map (drop 1) (db table.tree)) y → (b : Bool) → is_own m y ≡ b → is_own m y ≡ false
      go y has false e = e
      go y has true e =
          let row = has_mapped (drop 1) (db table.tree) y has in
          let number = has_driver row.0 row.1 in
          let first : column y 0 ≡ Int number.0 = ap (λ (z : Row). column z 0) row.2 ∙ number.1 in
          let same : number.0 ≡ m = same_int number.0 m (sym (ap (is_number m) first) ∙ e) in
          let d = parent at table is refers row.0 row.1 number.0 (sym (column_after row.0 0) ∙ number.1) in
          let own : Has (own_rows m (db made.driver_rows)) d.0 =
          has_kept (is_own m) (db made.driver_rows) d.0 d.1 (subst (λ (z : ℤ). is_own z d.0 ≡ true) same d.2) in
          absurd (subst (λ (xs : List Row). Has xs d.0) none own)

  -- and so in each table
  pub none_anywhere : (m : ℤ) → own_rows m (db made.driver_rows) ≡ [] → (j : TableName) → own_rows m (stored_rows layout j db) ≡ []
  none_anywhere m none Drivers = none
  none_anywhere m none Downloads =
      none_there 2 (record made.downloads { tree = 4 }) (downloads_at layout) refl (downloads_have layout db sound) m none
  none_anywhere m none CardSpans =
      none_there 3 (record (made.spans (codes "card_spans")) { tree = 6 }) (card_spans_at layout) refl
      (card_spans_have layout db sound) m none
  none_anywhere m none EntryRows =
      none_there (entry_place layout) (record made.entry_rows { tree = entry_tree layout }) (entries_at layout) refl
      (entries_have layout db sound) m none
  none_anywhere m none Held =
      none_there 5 (record (made.spans (codes "held")) { tree = 10 }) (held_at layout) refl (held_have layout db sound) m none
