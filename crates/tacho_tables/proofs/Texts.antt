-- What the CREATE TABLE texts define.
use Rattle.std.proofs.Common.{codes, refl}
use Rattle.sqlite_tied.specs.Compute.{everything}
use Rattle.sqlite.specs.Change.{created}
use Rattle.sqlite.specs.Listing.{understood}
use Rattle.tacho_tables.specs.Making.{IsCreate}
use Rattle.tacho_tables.specs.Schema.{meta, drivers, downloads, spans, entry_rows}
use Rattle.tacho_tables.specs.Schema.{no_schema, with_meta, with_drivers, with_downloads, with_card_spans, old_schema}
use Rattle.tacho_tables.specs.Schema.{meta_text, drivers_text, downloads_text, card_spans_text, entry_rows_text, held_text}

-- the first text makes `meta`
pub makes_meta : IsCreate no_schema meta_text meta
unfolding understood everything
makes_meta = record { command = refl; statement = refl; plain = (refl, refl); defined = refl; uncounted = refl }

-- the second makes `drivers`
pub makes_drivers : IsCreate with_meta drivers_text drivers
unfolding understood everything
makes_drivers = record { command = refl; statement = refl; plain = (refl, refl); defined = refl; uncounted = refl }

-- the third makes `downloads`
pub makes_downloads : IsCreate with_drivers downloads_text downloads
unfolding understood everything
makes_downloads = record { command = refl; statement = refl; plain = (refl, refl); defined = refl; uncounted = refl }

-- the fourth makes `card_spans`
pub makes_card_spans : IsCreate with_downloads card_spans_text (spans (codes "card_spans"))
unfolding understood everything
makes_card_spans = record { command = refl; statement = refl; plain = (refl, refl); defined = refl; uncounted = refl }

-- the fifth makes `entry_rows`
pub makes_entry_rows : IsCreate with_card_spans entry_rows_text entry_rows
unfolding understood everything
makes_entry_rows = record { command = refl; statement = refl; plain = (refl, refl); defined = refl; uncounted = refl }

-- the sixth makes `held`
pub makes_held : IsCreate (created with_card_spans entry_rows) held_text (spans (codes "held"))
unfolding understood everything
makes_held = record { command = refl; statement = refl; plain = (refl, refl); defined = refl; uncounted = refl }

-- `entry_rows` can also be made next to the tables of schema 1
pub carries_entry_rows : IsCreate old_schema entry_rows_text entry_rows
unfolding understood everything
carries_entry_rows = record { command = refl; statement = refl; plain = (refl, refl); defined = refl; uncounted = refl }
