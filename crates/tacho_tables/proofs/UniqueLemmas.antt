-- What the schema's rules say of stored rows: whose they are, and that no two drivers have the same key or the same holder.
use Rattle.std.proofs.Common.{◌≡◌, ◌≢◌, ◌∙◌, ℕ, ℤ, pos, ◌&&◌, Bool, true, false, not, true≢false, List, [], ◌∷◌, Option, Some, None, codes, drop, slice_get, refl, sym, ap, subst₂, arith}
use Rattle.std.specs.List.{AllByRecursion}
use Rattle.std.specs.Ordering.{is_eq, is_ne, int_cmp}
use Rattle.std.proofs.lemmas.Bool.{and_parts, not-true}
use Rattle.std.proofs.lemmas.Int.{ints}
use Rattle.std.proofs.lemmas.Map.Text.{is_eq-slice_cmp}
use Rattle.std.proofs.lemmas.Slice.Eq.{bytes_eq-Decides}
use Rattle.sqlite_value.specs.Order.{Row, column, value_cmp}
use Rattle.sqlite_value.specs.declared.value.Value.TheVariants.{Null, Int, Real, Text, Blob}
use Rattle.sqlite_value.specs.Keys.{plain, first_key}
use Rattle.sqlite_value.proofs.OrderLemmas.{value_cmp-Int, value_cmp-Text, value_cmp-Blob}
use Rattle.sqlite_sql.specs.Ops.{binary, is_true, from_truth}
use Rattle.sqlite_schema.specs.declared.schema.Constraint.{Constraint}
use Rattle.sqlite_schema.specs.declared.schema.Constraint.TheVariants.{Datatype, NotNull, Unique}
use Rattle.sqlite_schema.specs.declared.schema.Column.{Column}
use Rattle.sqlite_schema.specs.declared.schema.Index.{Index}
use Rattle.sqlite_schema.specs.declared.schema.Table.{Table}
use Rattle.sqlite_schema.specs.declared.schema.Kind.TheVariants.{Integer}
use Rattle.sqlite_schema.specs.Rules.{passes, are_typed, are_present, has_computed, equal, differ, clashes, agree, guards}
use Rattle.sqlite_catalog.specs.Listing.{IsSound, automatic}
use Rattle.sqlite_rules.specs.Lists.{Has}
use Rattle.sqlite_rules.proofs.ListLemmas.{all_has, test_has, some_from, has_got}
use Rattle.sqlite_trees.specs.Tree.{Trees}
use Rattle.tacho_tables.specs.Schema.{Layout, archive_schema, need, entry_tree}
use Rattle.tacho_tables.specs.Schema as made
use Rattle.tacho_tables.specs.Rows.{DriverRow, driver_row}
use Rattle.tacho_tables.proofs.Layouts.{each}
pub use Rattle.tacho_tables.proofs.Places.{drivers_at, downloads_at, card_spans_at, held_at, entry_place, entries_at}

-- ---- a NOT NULL column of integers

first_number : (name : List ℕ) (more : List Column) (row : Row) → are_present None 0 (need name Integer ∷ more) row ≡ true
    → are_typed None 0 (need name Integer ∷ more) (drop 1 row) ≡ true → (n : ℤ) × (column (drop 1 row) 0 ≡ Int n)
first_number name more [] present typed = absurd (let e = present in cc)
first_number name more (v ∷ []) present typed = absurd (let e = present in cc)
first_number name more (v ∷ Null ∷ vs) present typed = absurd (let e = present in cc)
first_number name more (v ∷ Int n ∷ vs) present typed = (n, refl)
first_number name more (v ∷ Real x ∷ vs) present typed = absurd (let e = typed in cc)
first_number name more (v ∷ Text t ∷ vs) present typed = absurd (let e = typed in cc)
first_number name more (v ∷ Blob b ∷ vs) present typed = absurd (let e = typed in cc)

module _ (layout : Layout) (db : Trees) (sound : IsSound (archive_schema layout) db) where
  -- the rows of a table pass its rules
  pub rows_pass : (rule : Constraint) (at : ℕ) (table : Table) → slice_get (archive_schema layout).tables at ≡ Some table
      → AllByRecursion (λ row. passes rule (archive_schema layout) db table row ≡ true) (db table.tree)
  rows_pass rule at table is =
      all_has (λ (t : Table). AllByRecursion (λ row. passes rule (archive_schema layout) db t row ≡ true) (db t.tree))
      (archive_schema layout).tables table
      (sound.obeys.rules rule) (has_got (archive_schema layout).tables at table is)

  -- each row of a table whose first column is a driver's number has one
  hidden : (at : ℕ) (table : Table) → slice_get (archive_schema layout).tables at ≡ Some table → table.key ≡ None
      → table.columns ≡ need (codes "driver") Integer ∷ drop 1 table.columns
      → (r : Row) → Has (db table.tree) r → (n : ℤ) × (column (drop 1 r) 0 ≡ Int n)
  hidden at table is key columns r has =
      let present : are_present table.key 0 table.columns r ≡ true =
      all_has (λ row. passes NotNull (archive_schema layout) db table row ≡ true) (db table.tree) r (rows_pass NotNull at table is) has in
      let both : (are_typed table.key 0 table.columns (drop 1 r) && has_computed table r) ≡ true =
      all_has (λ row. passes Datatype (archive_schema layout) db table row ≡ true) (db table.tree) r (rows_pass Datatype at table is) has in
      first_number (codes "driver") (drop 1 table.columns) r
      (subst₂ (λ (k : Option ℕ) (cs : List Column). are_present k 0 cs r ≡ true) key columns present)
      (subst₂ (λ (k : Option ℕ) (cs : List Column). are_typed k 0 cs (drop 1 r) ≡ true) key columns
      (and_parts (are_typed table.key 0 table.columns (drop 1 r)) (has_computed table r) both).0)

-- ---- the drivers' numbers

-- the driver's number of a stored row, in each table whose rows have hidden numbers
abbrev pub HasDriver : List Row → Type 0
HasDriver rows = (r : Row) → Has rows r → (n : ℤ) × (column (drop 1 r) 0 ≡ Int n)

module _ (layout : Layout) (db : Trees) (sound : IsSound (archive_schema layout) db) where
  pub downloads_have : HasDriver (db made.download_rows)
  downloads_have = hidden layout db sound 2 (record made.downloads { tree = 4 }) (downloads_at layout) refl refl

  pub card_spans_have : HasDriver (db made.card_span_rows)
  card_spans_have = hidden layout db sound 3 (record (made.spans (codes "card_spans")) { tree = 6 }) (card_spans_at layout) refl refl

  pub entries_have : HasDriver (db (entry_tree layout))
  entries_have = hidden layout db sound (entry_place layout) (record made.entry_rows { tree = entry_tree layout })
      (entries_at layout) refl refl

  pub held_have : HasDriver (db made.held_rows)
  held_have = hidden layout db sound 5 (record (made.spans (codes "held")) { tree = 10 }) (held_at layout) refl refl

-- ---- the drivers' keys and holders

-- the indexes of `drivers`
abbrev holder_index : Index
holder_index = automatic (record made.drivers { tree = 1 }) 0 (2 ∷ []) 2

abbrev key_index : Index
key_index = automatic (record made.drivers { tree = 1 }) 1 (3 ∷ []) 3

holder_at : (layout : Layout) → slice_get (archive_schema layout).indexes 0 ≡ Some holder_index
holder_at = each _ _ refl

key_at : (layout : Layout) → slice_get (archive_schema layout).indexes 1 ≡ Some key_index
key_at = each _ _ refl

test_is : (b : Bool) → is_true (from_truth (Some b)) ≡ b
test_is true = refl
test_is false = refl

bytes_self : (x : List ℕ) → is_eq (value_cmp (Blob x) (Blob x)) ≡ true
bytes_self x = ap is_eq (value_cmp-Blob x x) ∙ is_eq-slice_cmp x x ∙ (bytes_eq-Decides x x).1 refl

text_self : (x : List ℕ) → is_eq (value_cmp (Text x) (Text x)) ≡ true
text_self x = ap is_eq (value_cmp-Text x x) ∙ is_eq-slice_cmp x x ∙ (bytes_eq-Decides x x).1 refl

-- equal values are equal in SQL
same_holder : (x : List ℕ) → equal (first_key plain).collation (Blob x) (Blob x) ≡ true
unfolding binary first_key
same_holder x = test_is (is_eq (value_cmp (Blob x) (Blob x))) ∙ bytes_self x

same_key : (x : List ℕ) → equal (first_key plain).collation (Text x) (Text x) ≡ true
unfolding binary first_key
same_key x = test_is (is_eq (value_cmp (Text x) (Text x))) ∙ text_self x

-- different numbers differ in SQL
numbers_differ : (a b : ℕ) → a ≢ b → differ (Int (pos a)) (Int (pos b)) ≡ true
unfolding binary
numbers_differ a b other = test_is (is_ne (value_cmp (Int (pos a)) (Int (pos b)))) ∙ ap is_ne (value_cmp-Int (pos a) (pos b))
    ∙ unequal a b other where
      unequal : (a b : ℕ) → (a ≡ b → ⊥) → is_ne (int_cmp (pos a) (pos b)) ≡ true
      unequal a b other = grind (arith, ints)

module _ (layout : Layout) (db : Trees) (sound : IsSound (archive_schema layout) db) (a b : DriverRow)
    (first : Has (db made.driver_rows) (driver_row a)) (second : Has (db made.driver_rows) (driver_row b))
    (other : a.driver ≢ b.driver) where
  abbrev table : Table
  table = record made.drivers { tree = 1 }

  -- no other row has the same values in the columns of an index
  no_clash : (at : ℕ) (i : Index) → slice_get (archive_schema layout).indexes at ≡ Some i → guards i table ≡ true
      → clashes i.order i.columns (db made.driver_rows) (driver_row b) ≡ false
  no_clash at i is guarded =
      let unique = all_has (λ row. passes Unique (archive_schema layout) db table row ≡ true) (db made.driver_rows) (driver_row b)
      (rows_pass layout db sound Unique 1 table (drivers_at layout)) second in
      let passed : not (guards i table && clashes i.order i.columns (db made.driver_rows) (driver_row b)) ≡ true =
      test_has (λ (i : Index). not (guards i table && clashes i.order i.columns (db made.driver_rows) (driver_row b)))
      (archive_schema layout).indexes i unique
      (has_got (archive_schema layout).indexes at i is) in
      not-true (clashes i.order i.columns (db made.driver_rows) (driver_row b)) (rw guarded at passed)

  -- the two rows clash if they agree
  clash : (order : _) (columns : List ℕ) → agree order columns (driver_row a) columns (driver_row b) ≡ true
      → clashes order columns (db made.driver_rows) (driver_row b) ≡ true
  clash order columns alike =
      some_from (λ (o : Row). agree order columns o columns (driver_row b) && differ (column o 0) (column (driver_row b) 0))
      (db made.driver_rows) (driver_row a) first
      (rw alike (numbers_differ a.driver b.driver other))

  pub holders_differ : a.holder ≢ b.holder
  holders_differ e =
      let alike : agree plain (2 ∷ []) (driver_row a) (2 ∷ []) (driver_row b) ≡ true =
      rw e (ap (λ t. t && true) (same_holder b.holder)) in
      true≢false (sym (clash plain (2 ∷ []) alike) ∙ no_clash 0 holder_index (holder_at layout) refl)

  pub keys_differ : a.secret ≢ b.secret
  keys_differ e =
      let alike : agree plain (3 ∷ []) (driver_row a) (3 ∷ []) (driver_row b) ≡ true =
      rw e (ap (λ t. t && true) (same_key b.secret)) in
      true≢false (sym (clash plain (3 ∷ []) alike) ∙ no_clash 1 key_index (key_at layout) refl)
