-- The places of the tables in the archive's schema.
use Rattle.std.proofs.Common.{◌≡◌, ℕ, List, Some, codes, refl, slice_get}
use Rattle.tacho_tables.specs.Schema.{Layout, Made, Carried, archive_schema, entry_tree, spans}
use Rattle.tacho_tables.specs.Schema as made
use Rattle.tacho_tables.specs.declared.spans.SpanTable.{SpanTable}
use Rattle.tacho_tables.specs.declared.spans.SpanTable.TheVariants.{CardSpans, Held}
use Rattle.tacho_tables.specs.Spans.{span_table_rows}
use Rattle.tacho_tables.proofs.Layouts.{each}

-- the place of `entry_rows`
abbrev pub entry_place : Layout → ℕ
entry_place Made = 4
entry_place Carried = 6

-- the place of a table of spans
abbrev pub place_of : SpanTable → ℕ
place_of CardSpans = 3
place_of Held = 5

-- the name of a table of spans
abbrev pub name_of : SpanTable → List ℕ
name_of CardSpans = codes "card_spans"
name_of Held = codes "held"

-- `meta` is the first table
pub meta_at : (layout : Layout) → slice_get (archive_schema layout).tables 0 ≡ Some (record made.meta { tree = 0 })
meta_at = each _ _ refl

-- `drivers` is the second
pub drivers_at : (layout : Layout) → slice_get (archive_schema layout).tables 1 ≡ Some (record made.drivers { tree = 1 })
drivers_at = each _ _ refl

-- `downloads` is the third
pub downloads_at : (layout : Layout) → slice_get (archive_schema layout).tables 2 ≡ Some (record made.downloads { tree = 4 })
downloads_at = each _ _ refl

-- the tables of spans are the fourth and the sixth
pub card_spans_at : (layout : Layout) → slice_get (archive_schema layout).tables 3 ≡ Some (record (spans (codes "card_spans")) { tree = 6 })
card_spans_at = each _ _ refl

pub held_at : (layout : Layout) → slice_get (archive_schema layout).tables 5 ≡ Some (record (spans (codes "held")) { tree = 10 })
held_at = each _ _ refl

-- `entry_rows` is at its place
pub entries_at : (layout : Layout)
    → slice_get (archive_schema layout).tables (entry_place layout) ≡ Some (record made.entry_rows { tree = entry_tree layout })
entries_at = each _ _ refl
