-- In a store whose transaction isn't broken no row number of the archive's tables occurs twice: the store keeps the rows of each table in
-- the order of their numbers, and its list of objects says which of its trees are tables.
use Rattle.std.proofs.Common.{◌≡◌, ◌≢◌, ◌∙◌, ℕ, ℤ, List, [], ◌∷◌, Some, codes, slice_get, IsTrue, refl, sym, ap, subst, inl, inr}
use Rattle.std.specs.declared.cmp.Ordering.TheVariants.{Less, Equal}
use Rattle.std.specs.List.{AllByRecursion}
use Rattle.std.proofs.lemmas.Cmp.{tied_itself}
use Rattle.sqlite_value.specs.declared.value.Value.{Value}
use Rattle.sqlite_value.specs.declared.value.Value.TheVariants.{Null, Int, Real, Text, Blob}
use Rattle.sqlite_value.specs.Order.{Row, value_cmp}
use Rattle.sqlite_value.proofs.OrderLemmas.{value_cmp_total}
use Rattle.sqlite_trees.specs.declared.store.Shape.{Shape}
use Rattle.sqlite_trees.specs.declared.store.Shape.TheVariants as shape
use Rattle.sqlite_trees.specs.Tree.{Trees, rowid, IsTable}
use Rattle.sqlite_trees.specs.View.{is_int, IsShaped, IsOrdered}
use Rattle.sqlite_trees.specs.Objects.{catalog_tree, IsListed}
use Rattle.sqlite_schema.specs.declared.schema.Table.{Table}
use Rattle.sqlite_rules.specs.Lists.{Has}
use Rattle.sqlite_rules.proofs.ListLemmas.{all_has, has_got}
use Rattle.sqlite_catalog.specs.Listing.{IsSound}
use Rattle.sqlite_catalog.proofs.LayoutLemmas.{table_shape}
use Rattle.tacho_tables.specs.Schema.{Layout, archive_schema, entry_tree}
use Rattle.tacho_tables.specs.Schema as made
use Rattle.tacho_tables.specs.Readable.{AreNumbered, AreAllNumbered}
use Rattle.tacho_tables.proofs.UniqueLemmas.{drivers_at, downloads_at, card_spans_at, entries_at, entry_place, held_at}

-- ---- rows in order

-- a row that is above a number has another
not_above : (id : Value) (rows : List Row) (r : Row) → AllByRecursion (λ b. value_cmp id (rowid b) ≡ Less) rows → Has rows r → id ≢ rowid r
not_above id rows r above has same =
    let lower : value_cmp id (rowid r) ≡ Less = all_has (λ (b : Row). value_cmp id (rowid b) ≡ Less) rows r above has in
    let tied : value_cmp id (rowid r) ≡ Equal = ap (value_cmp id) (sym same) ∙ tied_itself value_cmp_total id in
    cc

-- rows with one number are one row
once : (rows : List Row) → IsTable rows → (a b : Row) → Has rows a → Has rows b → rowid a ≡ rowid b → a ≡ b
once [] up a b first second same = absurd first
once (r ∷ rows) up a b (inl here) (inl there) same = here ∙ sym there
once (r ∷ rows) up a b (inl here) (inr there) same = absurd (not_above (rowid r) rows b up.0 there (ap rowid (sym here) ∙ same))
once (r ∷ rows) up a b (inr here) (inl there) same = absurd (not_above (rowid r) rows a up.0 here (ap rowid (sym there) ∙ sym same))
once (r ∷ rows) up a b (inr here) (inr there) same = once rows up.1 a b here there same

integer_in : (v : Value) → IsTrue (is_int v) → (id : ℤ) × (v ≡ Int id)
integer_in Null h = absurd cc
integer_in (Int n) h = (n, refl)
integer_in (Real x) h = absurd cc
integer_in (Text t) h = absurd cc
integer_in (Blob b) h = absurd cc

-- the rows of a tree that is a table
are_numbered : (rows : List Row) → IsShaped shape.Table rows → AreNumbered rows
are_numbered rows shaped = record {
  numbered = λ r has. integer_in (rowid r) (all_has (λ (x : Row). IsTrue (is_int (rowid x))) rows r shaped.1 has);
  apart = once rows shaped.0;
}

-- ---- the archive's tables

module _ (layout : Layout) (db : Trees) (sound : IsSound (archive_schema layout) db) (shapes : ℕ → Shape) (reals : ℕ → ℕ)
    (listed : IsListed (db catalog_tree) shapes reals) (ordered : IsOrdered shapes db) where
  -- the list of objects is in the order of its row numbers too
  objects_rise : IsTable (db catalog_tree)
  objects_rise = (subst (λ (s : Shape). IsShaped s (db catalog_tree)) listed.itself.0 (ordered catalog_tree)).0

  table_is_numbered : (at : ℕ) (table : Table) → slice_get (archive_schema layout).tables at ≡ Some table → AreNumbered (db table.tree)
  table_is_numbered at table is =
      let member = has_got (archive_schema layout).tables at table is in
      let kind : shapes table.tree ≡ shape.Table = (table_shape listed objects_rise sound.lists.listed table member).0 in
      are_numbered (db table.tree) (subst (λ (s : Shape). IsShaped s (db table.tree)) kind (ordered table.tree))

pub all_numbered : (layout : Layout) (db : Trees) → IsSound (archive_schema layout) db → (shapes : ℕ → Shape) (reals : ℕ → ℕ)
    → IsListed (db catalog_tree) shapes reals → IsOrdered shapes db → AreAllNumbered layout db
all_numbered layout db sound shapes reals listed ordered =
    let numbered = table_is_numbered layout db sound shapes reals listed ordered in
    record {
      drivers = numbered 1 (record made.drivers { tree = 1 }) (drivers_at layout);
      downloads = numbered 2 (record made.downloads { tree = 4 }) (downloads_at layout);
      card_spans = numbered 3 (record (made.spans (codes "card_spans")) { tree = 6 }) (card_spans_at layout);
      entries = numbered (entry_place layout) (record made.entry_rows { tree = entry_tree layout }) (entries_at layout);
      held = numbered 5 (record (made.spans (codes "held")) { tree = 10 }) (held_at layout);
    }
