-- The types of stored columns, by the rules of the schema.
use Rattle.std.proofs.Common.{codes, ◌≡◌, ℕ, zero, suc, ◌+◌, ◌<◌, ◌≤◌, true, not, true≢false, List, [], ◌∷◌, Option, None, Some, drop, length, slice_get, refl, sym, ap, ◌∙◌, arith}
use Rattle.std.specs.List.{AllByRecursion}
use Rattle.std.proofs.lemmas.Bool.{and_parts}
use Rattle.sqlite_value.specs.declared.value.Value.{Value}
use Rattle.sqlite_value.specs.declared.value.Value.TheVariants.{Null, Int, Real, Text, Blob}
use Rattle.sqlite_value.specs.Order.{Row, column}
use Rattle.sqlite_sql.specs.Ops.{is_null}
use Rattle.sqlite_catalog.specs.Listing.{IsSound}
use Rattle.sqlite_schema.specs.declared.schema.Constraint.TheVariants.{Datatype}
use Rattle.sqlite_schema.specs.declared.schema.Column.{Column}
use Rattle.sqlite_schema.specs.declared.schema.Table.{Table}
use Rattle.sqlite_schema.specs.Rules.{passes, are_typed, has_computed}
use Rattle.sqlite_rules.specs.Lists.{Has}
use Rattle.sqlite_rules.proofs.ListLemmas.{all_has, has_got}
use Rattle.sqlite_trees.specs.Tree.{Trees}
use Rattle.tacho_tables.specs.Schema.{Layout, archive_schema, entry_tree}
use Rattle.tacho_tables.specs.Schema as made
use Rattle.tacho_tables.proofs.UniqueLemmas.{drivers_at, downloads_at, card_spans_at, held_at, entry_place, entries_at}

-- the stored columns of a table have the types of its schema
abbrev pub HasTypes : List Column → List Row → Type 0
HasTypes columns rows = (r : Row) → Has rows r → are_typed None 0 columns (drop 1 r) ≡ true

module _ (layout : Layout) (db : Trees) (sound : IsSound (archive_schema layout) db) (at : ℕ) (table : Table)
    (is : slice_get (archive_schema layout).tables at ≡ Some table) (r : Row) (has : Has (db table.tree) r) where
  -- the columns of a row have the types of its table
  pub row_typed : are_typed table.key 0 table.columns (drop 1 r) ≡ true
  row_typed =
      let rows = all_has (λ (t : Table). AllByRecursion (λ row. passes Datatype (archive_schema layout) db t row ≡ true) (db t.tree))
      (archive_schema layout).tables table (sound.obeys.rules Datatype) (has_got (archive_schema layout).tables at table is) in
      (and_parts (are_typed table.key 0 table.columns (drop 1 r)) (has_computed table r)
      (all_has (λ row. passes Datatype (archive_schema layout) db table row ≡ true) (db table.tree) r rows has)).0

-- ---- the tables of the schema

module _ (layout : Layout) (db : Trees) (sound : IsSound (archive_schema layout) db) where
  pub downloads_types : HasTypes made.downloads.columns (db made.download_rows)
  downloads_types = row_typed layout db sound 2 (record made.downloads { tree = 4 }) (downloads_at layout)

  pub card_spans_types : HasTypes (made.spans []).columns (db made.card_span_rows)
  card_spans_types = row_typed layout db sound 3 (record (made.spans (codes "card_spans")) { tree = 6 }) (card_spans_at layout)

  pub held_types : HasTypes (made.spans []).columns (db made.held_rows)
  held_types = row_typed layout db sound 5 (record (made.spans (codes "held")) { tree = 10 }) (held_at layout)

  pub entries_types : HasTypes made.entry_rows.columns (db (entry_tree layout))
  entries_types = row_typed layout db sound (entry_place layout) (record made.entry_rows { tree = entry_tree layout }) (entries_at layout)

  pub drivers_types : (r : Row) → Has (db made.driver_rows) r → are_typed (Some 0) 0 made.drivers.columns (drop 1 r) ≡ true
  drivers_types = row_typed layout db sound 1 (record made.drivers { tree = 1 }) (drivers_at layout)

-- ---- columns

-- a row has at most the columns of its table
pub typed_length : (key : Option ℕ) (at : ℕ) (cs : List Column) (w : Row) → are_typed key at cs w ≡ true → length w ≤ length cs
typed_length key at [] [] typed = omega arith
typed_length key at [] (v ∷ w) typed = absurd (true≢false (sym typed))
typed_length key at (c ∷ cs) [] typed = omega arith
typed_length key at (c ∷ cs) (v ∷ w) typed =
    let more = typed_length key (at + 1) cs w (and_parts _ (are_typed key (at + 1) cs w) typed).1 in omega (arith, more)

-- a row without its number
pub column_after : (r : Row) (k : ℕ) → column (drop 1 r) k ≡ column r (suc k)
column_after [] k = refl
column_after (v ∷ r) k = refl

-- a column that isn't NULL is there
pub long_enough : (w : Row) (k : ℕ) → not (is_null (column w k)) ≡ true → k < length w
long_enough [] k some = absurd (true≢false (sym some))
long_enough (v ∷ w) zero some = omega arith
long_enough (v ∷ w) (suc k) some = let more = long_enough w k some in omega (arith, more)

-- a row is the list of its columns
abbrev pub listed : ℕ → (ℕ → Value) → Row
listed zero at = []
listed (suc n) at = at 0 ∷ listed n (λ k. at (suc k))

all_columns : (w : Row) → w ≡ listed (length w) (column w)
all_columns [] = refl
all_columns (v ∷ w) = ap (λ vs. v ∷ vs) (all_columns w)

-- so it is where it has the types of its table, and its last column isn't NULL
pub whole_row : (key : Option ℕ) (cs : List Column) (w : Row) (n : ℕ) → are_typed key 0 cs w ≡ true → length cs ≡ suc n
    → not (is_null (column w n)) ≡ true → w ≡ listed (suc n) (column w)
whole_row key cs w n typed many some =
    let short = typed_length key 0 cs w typed in
    let long = long_enough w n some in
    let is : length w ≡ suc n = omega (arith, many, short, long) in
    all_columns w ∙ ap (λ k. listed k (column w)) is

pub null_of : (v : Value) → is_null v ≡ true → v ≡ Null
null_of Null is = refl
null_of (Int n) is = absurd (let e = is in cc)
null_of (Real x) is = absurd (let e = is in cc)
null_of (Text t) is = absurd (let e = is in cc)
null_of (Blob b) is = absurd (let e = is in cc)
