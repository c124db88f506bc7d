-- Private to tacho_store: What an import consists of: the driver for whom it is, and what is new of a file's spans.
use Rattle.std.specs.Prelude.{◌≡◌, ℕ, ◌+◌, ◌<◌, ◌≤◌, List, map, ◌∷◌, ◌++◌, length, Option, Some, None, Result, Ok, Err, bytes_eq, if◌then◌else◌}
use Rattle.sqlite.specs.Tree.{Trees}
use Rattle.tacho_time.specs.declared.span.Span.{Span}
use Rattle.tacho_card.specs.declared.file.Part.{Part}
use Rattle.tacho_state.specs.declared.fault.StoreFault.{StoreFault}
use Rattle.tacho_state.specs.declared.fault.StoreFault.TheVariants.{UnknownDriver, NotYourCard, Full}
use Rattle.tacho_state.specs.declared.imported.Imported.{Imported}
use Rattle.tacho_state.specs.declared.imported.Imported.TheVariants.{Added, Repeated}
use Rattle.tacho_state.specs.Content.{FileTells}
use Rattle.tacho_state.specs.Numbers.{part_number}
use Rattle.tacho_state.specs.State.{Driver, State, driver_of, holding, put, with_download}
use Rattle.tacho_state.specs.Steps.{Content, Turn, turn_of, import_own, most_records, known_driver}
use Rattle.tacho_tables.specs.Rows.{SpanRow}
use Rattle.tacho_tables.specs.Tables.{Tables, HasTables, with_downloads}
use Rattle.tacho_reading.specs.Standing.{Follows, span_row}
use Rattle.tacho_reading.specs.Finding.{IsFindingFault, IsFound}
use Rattle.tacho_state.specs.declared.content.CardContent.{CardContent}
use Rattle.tacho_store.specs.declared.import.Importer.{Importer}
use Rattle.tacho_store.specs.declared.news.News.{News}

-- the driver, or S4; S5 if the driver's card has another holder
abbrev pub with_card : List ℕ → Option Driver → Result Driver StoreFault
with_card holder None = Err UnknownDriver
with_card holder (Some d) = if bytes_eq d.holder holder then Ok d else Err NotYourCard

-- the driver for whom an import is: for the office, the driver whose card has the holder; for a driver, that driver
abbrev pub importer : Option ℕ → List ℕ → State → Result Driver StoreFault
importer None holder s = known_driver (holding holder s)
importer (Some n) holder s = with_card holder (driver_of n s)

-- the importer has the driver's number and count of downloads
pub record IsImporterOf (s : State) (d : Driver) (it : Importer) : Type 0 where
  pub found : driver_of it.number s ≡ Some d
  pub downloads : it.downloads ≡ length d.downloads

-- the driver was found; or the look-up was refused, ran out of memory, or the store failed
abbrev pub IsImporter : State → Result Importer StoreFault → Result Driver StoreFault → Type 0
IsImporter s result told = IsFound (λ it. (d : Driver) × (told ≡ Ok d) × IsImporterOf s d it) told result

-- the tables after the writes of a download: its number is the driver's count, and new rows are in front of the old ones
abbrev pub tables_after_download : ℕ → ℕ → ℕ → List ℕ → List SpanRow → List SpanRow → Tables → Tables
tables_after_download n number part file cards helds t = record t {
  drivers = map (with_downloads n number) t.drivers;
  downloads = record { driver = n; number = number; part = part; file = file } ∷ t.downloads;
  card_spans = cards ++ t.card_spans;
  held = helds ++ t.held;
}

-- the driver's import of spans, of which `cards` are new to the driver's downloads and `helds` to what the driver holds: it is added if
-- there is a number for it, and tables with its rows follow
pub record AreAdded (db : Trees) (s : State) (n : ℕ) (d : Driver) (spans cards helds : List Span) : Type 0 where
  pub added : (part : ℕ) (file : List ℕ) → length d.downloads < most_records → import_own part file spans d ≡ Ok (Added d.number (1 + length d.downloads), with_download part file spans d)
  pub full : (part : ℕ) (file : List ℕ) → most_records ≤ length d.downloads → import_own part file spans d ≡ Err Full
  pub follows : (part : Part) (file holder : List ℕ) (next : Trees) → FileTells part file (Ok (record { holder = holder; spans = spans }))
      → ((t : Tables) → HasTables db t → HasTables next (tables_after_download n (1 + length d.downloads) (part_number part) file (map (span_row n) cards) (map (span_row n) helds) t))
      → Follows db next s (put (with_download (part_number part) file spans d) s)

-- what is new of a file's spans decides the driver's import; or the call ran out of memory or the store failed
unfoldable pub AreDecided : Trees → State → ℕ → Driver → List Span → Result (Option News) StoreFault → Type 0
AreDecided db s n d spans (Ok None) = (part : ℕ) (file : List ℕ) → import_own part file spans d ≡ Ok (Repeated d.number, d)
AreDecided db s n d spans (Ok (Some news)) = AreAdded db s n d spans news.card_spans.items news.held.items
AreDecided db s n d spans (Err fault) = (part : ℕ) (file : List ℕ) → IsFindingFault fault (import_own part file spans d)

-- the content that was read from a card file
abbrev pub content_told : CardContent → Content
content_told it = record { holder = it.holder; spans = it.spans.items }

-- the step of the driver's import of spans, read by a part
abbrev pub import_turn : Part → List ℕ → List Span → Driver → State → Turn Imported
import_turn part file spans d s = turn_of s (import_own (part_number part) file spans d)

-- a driver for whom a file is imported, and the holder in the file
abbrev pub AreToImport : Importer → Part → List ℕ → List Span → Driver × List ℕ → Trees → State → Type 0
AreToImport it part file spans p db s = IsImporterOf s p.0 it × FileTells part file (Ok (record { holder = p.1; spans = spans }))

-- a driver for whom a file's spans are added, these spans, and the holder in the file
abbrev pub AreToAdd : Importer → Part → List ℕ → News → Driver × List Span × List ℕ → Trees → State → Type 0
AreToAdd it part file news p db s =
    IsImporterOf s p.0 it × AreAdded db s it.number p.0 p.1 news.card_spans.items news.held.items
    × FileTells part file (Ok (record { holder = p.2; spans = p.1 }))
