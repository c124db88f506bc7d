-- What a change of one table leaves unchanged in the others.
use Rattle.std.proofs.Common.{◌≡◌, ◌≢◌, ◌∙◌, ℕ, List, arith, refl, subst, sym}
use Rattle.std.specs.List.{AllByRecursion}
use Rattle.sqlite.specs.Tree.{Trees}
use Rattle.sqlite_catalog.specs.Listing.{IsSound}
use Rattle.tacho_tables.specs.Schema.{Layout, Made, Carried, archive_schema, current_version, entry_tree}
use Rattle.tacho_tables.specs.Rows.{AreRowsOf, AreNumberedRowsOf, SpanRow, DownloadRow, EntryRow, DriverRow, span_columns, download_columns, entry_columns}
use Rattle.tacho_tables.specs.Tables.{Tables, HasTables, HasNoOldEntries, IsVersion}

-- every table except the one with this tree keeps its rows
abbrev pub AreKept : Layout → ℕ → Trees → Trees → Type 0
AreKept layout tree db next = AllByRecursion (λ t. t.tree ≢ tree → next t.tree ≡ db t.tree) (archive_schema layout).tables

-- if nothing changed, every table keeps its rows
pub kept_itself : (layout : Layout) (tree : ℕ) (db : Trees) → AreKept layout tree db db
kept_itself Made tree db = (λ _. refl, (λ _. refl, (λ _. refl, (λ _. refl, (λ _. refl, (λ _. refl, tt))))))
kept_itself Carried tree db = (λ _. refl, (λ _. refl, (λ _. refl, (λ _. refl, (λ _. refl, (λ _. refl, (λ _. refl, tt)))))))

-- each of the six tables, except the one with this tree, keeps its rows
pub record IsKept (layout : Layout) (tree : ℕ) (db next : Trees) : Type 0 where
  pub meta : 0 ≢ tree → next 0 ≡ db 0
  pub drivers : 1 ≢ tree → next 1 ≡ db 1
  pub downloads : 4 ≢ tree → next 4 ≡ db 4
  pub card_spans : 6 ≢ tree → next 6 ≡ db 6
  pub entries : entry_tree layout ≢ tree → next (entry_tree layout) ≡ db (entry_tree layout)
  pub held : 10 ≢ tree → next 10 ≡ db 10

-- `AreKept` implies `IsKept`, whatever the layout
pub each_kept : (layout : Layout) (tree : ℕ) (db next : Trees) → AreKept layout tree db next → IsKept layout tree db next
each_kept Made tree db next kept = record {
  meta = kept.0;
  drivers = kept.1.0;
  downloads = kept.1.1.0;
  card_spans = kept.1.1.1.0;
  entries = kept.1.1.1.1.0;
  held = kept.1.1.1.1.1.0;
}
each_kept Carried tree db next kept = record {
  meta = kept.0;
  drivers = kept.1.0;
  downloads = kept.1.1.0;
  card_spans = kept.1.1.1.0;
  entries = kept.1.1.1.1.1.1.0;
  held = kept.1.1.1.1.1.0;
}

-- only the table of entries has the tree of the entries
apart : (layout : Layout) (tree : ℕ) → tree ≢ 8 → tree ≢ 12 → entry_tree layout ≢ tree
apart Made tree made carried same = made (sym same)
apart Carried tree made carried same = carried (sym same)

-- `entries` has another tree
old_apart : (layout : Layout) → layout ≡ Carried → 8 ≢ entry_tree layout
old_apart Made carried same = cc
old_apart Carried carried same = omega (arith, same)

-- `entries` stays empty, unless it is the table with this tree
still_none : (layout : Layout) (tree : ℕ) (db next : Trees) → AreKept layout tree db next → (layout ≡ Carried → 8 ≢ tree)
    → HasNoOldEntries layout db → HasNoOldEntries layout next
still_none Made tree db next kept other none = tt
still_none Carried tree db next kept other none = kept.1.1.1.1.0 (other refl) ∙ none

module _ (layout : Layout) (db next : Trees) (a : Tables) (sound : IsSound (archive_schema layout) next) (s : HasTables db a)
    (same : s.layout ≡ layout) where
  module _ (tree : ℕ) (all : AreKept layout tree db next) where
    -- which tables keep their rows
    abbrev kept : IsKept layout tree db next
    kept = each_kept layout tree db next all

    -- the version stays
    meta_stays : 0 ≢ tree → IsVersion current_version next
    meta_stays other = kept.meta other ∙ s.meta

    -- the drivers stay
    drivers_stay : 1 ≢ tree → AreNumberedRowsOf (next 1) a.drivers
    drivers_stay other = subst (λ rows. AreNumberedRowsOf rows a.drivers) (sym (kept.drivers other)) s.drivers

    -- the downloads stay
    downloads_stay : 4 ≢ tree → AreRowsOf download_columns (next 4) a.downloads
    downloads_stay other = subst (λ rows. AreRowsOf download_columns rows a.downloads) (sym (kept.downloads other)) s.downloads

    -- the spans of the cards stay
    card_spans_stay : 6 ≢ tree → AreRowsOf span_columns (next 6) a.card_spans
    card_spans_stay other = subst (λ rows. AreRowsOf span_columns rows a.card_spans) (sym (kept.card_spans other)) s.card_spans

    -- the entries stay
    entries_stay : entry_tree layout ≢ tree → AreRowsOf entry_columns (next (entry_tree layout)) a.entries
    entries_stay other = subst (λ rows. AreRowsOf entry_columns rows a.entries) (sym (kept.entries other))
        (subst (λ l. AreRowsOf entry_columns (db (entry_tree l)) a.entries) same s.entries)

    -- `entries` stays empty
    no_old_entries : (layout ≡ Carried → 8 ≢ tree) → HasNoOldEntries layout next
    no_old_entries other = still_none layout tree db next all other (subst (λ l. HasNoOldEntries l db) same s.old_entries)

    -- the spans that the drivers hold stay
    held_stays : 10 ≢ tree → AreRowsOf span_columns (next 10) a.held
    held_stays other = subst (λ rows. AreRowsOf span_columns rows a.held) (sym (kept.held other)) s.held

  -- only the rows of `held` changed
  pub with_held : AreKept layout 10 db next → (held : List SpanRow) → AreRowsOf span_columns (next 10) held
      → HasTables next (record a { held = held })
  with_held kept held it = record {
    layout = layout;
    sound = sound;
    meta = meta_stays 10 kept (λ e. omega (arith, e));
    drivers = drivers_stay 10 kept (λ e. omega (arith, e));
    downloads = downloads_stay 10 kept (λ e. omega (arith, e));
    card_spans = card_spans_stay 10 kept (λ e. omega (arith, e));
    entries = entries_stay 10 kept (apart layout 10 (λ e. omega (arith, e)) (λ e. omega (arith, e)));
    old_entries = no_old_entries 10 kept (λ _ e. omega (arith, e));
    held = it;
  }

  -- only the rows of `card_spans` changed
  pub with_card_spans : AreKept layout 6 db next → (card_spans : List SpanRow) → AreRowsOf span_columns (next 6) card_spans
      → HasTables next (record a { card_spans = card_spans })
  with_card_spans kept card_spans it = record {
    layout = layout;
    sound = sound;
    meta = meta_stays 6 kept (λ e. omega (arith, e));
    drivers = drivers_stay 6 kept (λ e. omega (arith, e));
    downloads = downloads_stay 6 kept (λ e. omega (arith, e));
    card_spans = it;
    entries = entries_stay 6 kept (apart layout 6 (λ e. omega (arith, e)) (λ e. omega (arith, e)));
    old_entries = no_old_entries 6 kept (λ _ e. omega (arith, e));
    held = held_stays 6 kept (λ e. omega (arith, e));
  }

  -- only the rows of `downloads` changed
  pub with_downloads : AreKept layout 4 db next → (downloads : List DownloadRow) → AreRowsOf download_columns (next 4) downloads
      → HasTables next (record a { downloads = downloads })
  with_downloads kept downloads it = record {
    layout = layout;
    sound = sound;
    meta = meta_stays 4 kept (λ e. omega (arith, e));
    drivers = drivers_stay 4 kept (λ e. omega (arith, e));
    downloads = it;
    card_spans = card_spans_stay 4 kept (λ e. omega (arith, e));
    entries = entries_stay 4 kept (apart layout 4 (λ e. omega (arith, e)) (λ e. omega (arith, e)));
    old_entries = no_old_entries 4 kept (λ _ e. omega (arith, e));
    held = held_stays 4 kept (λ e. omega (arith, e));
  }

  -- only the rows of `drivers` changed
  pub with_drivers : AreKept layout 1 db next → (drivers : List DriverRow) → AreNumberedRowsOf (next 1) drivers
      → HasTables next (record a { drivers = drivers })
  with_drivers kept drivers it = record {
    layout = layout;
    sound = sound;
    meta = meta_stays 1 kept (λ e. omega (arith, e));
    drivers = it;
    downloads = downloads_stay 1 kept (λ e. omega (arith, e));
    card_spans = card_spans_stay 1 kept (λ e. omega (arith, e));
    entries = entries_stay 1 kept (apart layout 1 (λ e. omega (arith, e)) (λ e. omega (arith, e)));
    old_entries = no_old_entries 1 kept (λ _ e. omega (arith, e));
    held = held_stays 1 kept (λ e. omega (arith, e));
  }

  -- only the rows of `entry_rows` changed
  pub with_entries : AreKept layout (entry_tree layout) db next → (entries : List EntryRow)
      → AreRowsOf entry_columns (next (entry_tree layout)) entries → HasTables next (record a { entries = entries })
  with_entries kept entries it = record {
    layout = layout;
    sound = sound;
    meta = meta_stays (entry_tree layout) kept (another 0 (λ e. omega (arith, e)) (λ e. omega (arith, e)));
    drivers = drivers_stay (entry_tree layout) kept (another 1 (λ e. omega (arith, e)) (λ e. omega (arith, e)));
    downloads = downloads_stay (entry_tree layout) kept (another 4 (λ e. omega (arith, e)) (λ e. omega (arith, e)));
    card_spans = card_spans_stay (entry_tree layout) kept (another 6 (λ e. omega (arith, e)) (λ e. omega (arith, e)));
    entries = it;
    old_entries = no_old_entries (entry_tree layout) kept (old_apart layout);
    held = held_stays (entry_tree layout) kept (another 10 (λ e. omega (arith, e)) (λ e. omega (arith, e)));
  }
    where
      -- a tree other than 8 and 12 is not that of the entries
      another : (tree : ℕ) → tree ≢ 8 → tree ≢ 12 → tree ≢ entry_tree layout
      another tree made carried same = apart layout tree made carried (sym same)
