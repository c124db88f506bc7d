-- Private to tacho_check: The judgement of a driver's rows.
use Rattle.std.specs.Prelude.{◌≡◌, ℕ, ℤ, ◌<◌, List, [], ◌∷◌, ◌++◌, Option, None, Some, Vec}
use Rattle.std.specs.List.{AllByRecursion}
use Rattle.std.specs.declared.alloc.Global.{Global}
use Rattle.sqlite.specs.Order.{Row}
use Rattle.tacho_time.specs.declared.span.Span.{Span}
use Rattle.tacho_state.specs.State.{Download, Entry, given_spans, entered_spans}
use Rattle.tacho_tables.specs.Rows.{DriverRow, driver_row}
use Rattle.tacho_tables.specs.Schema as made
use Rattle.tacho_tables.specs.Ask.{three_shown, seven_shown}
use Rattle.tacho_tables.specs.declared.table.TableName.{TableName}
use Rattle.tacho_tables.specs.declared.table.TableName.TheVariants.{Drivers, Downloads, CardSpans, EntryRows, Held}
use Rattle.tacho_check.specs.declared.files.FileRow.{FileRow}
use Rattle.tacho_check.specs.declared.own.OwnRows.{OwnRows}
use Rattle.tacho_check.specs.declared.registered.Basis.{Basis}
use Rattle.tacho_check.specs.Check.{place}
use Rattle.tacho_check.specs.Files.{Give}
use Rattle.tacho_check.specs.Fits.{Agrees, DownloadsFit, EntriesFit, SpansFit}
use Rattle.tacho_check.specs.Member.{IsOwnSound}
use Rattle.tacho_check.specs.Registered.{HasOwnColumns, IsBasis}
use Rattle.tacho_check.specs.Typed.{AreShown, IsInCalendar}

-- ---- spans that agree

-- these spans, if they agree
abbrev pub IsAgreed : List Span → Option (Vec Span Global) → Type 0
IsAgreed spans None = ¬ (Agrees spans)
IsAgreed spans (Some same) = Agrees spans × (same.items ≡ spans)

-- what files give together, if that agrees
abbrev pub AreAgreed : List ℕ → List FileRow → Option (Vec Span Global) → Type 0
AreAgreed holder files None = (all : List Span) → Give holder files all → ¬ (Agrees all)
AreAgreed holder files (Some given) = Give holder files given.items × Agrees given.items

-- ---- each table

-- what the downloads that have these rows give, if there are such
abbrev pub AreDownloads : ℕ → List ℕ → ℕ → List Row → Option (Vec Span Global) → Type 0
AreDownloads n holder count rows None = (ds : List Download) → ¬ (DownloadsFit n holder count rows ds)
AreDownloads n holder count rows (Some given) =
    ((ds : List Download) × DownloadsFit n holder count rows ds)
    × ((ds : List Download) → DownloadsFit n holder count rows ds → given_spans ds ≡ given.items)

-- what downloads and the entries that have these rows give, if there are such
abbrev pub AreEntries : ℕ → ℕ → List Row → List Span → Option (Vec Span Global) → Type 0
AreEntries n count rows given None = (es : List Entry) → ¬ (EntriesFit n count rows given es)
AreEntries n count rows given (Some all) =
    ((es : List Entry) × EntriesFit n count rows given es)
    × ((es : List Entry) → EntriesFit n count rows given es → given ++ entered_spans es ≡ all.items)

-- spans of the calendar have these rows, and keep what is given
abbrev pub AreKept : ℕ → List Row → List Span → Type 0
AreKept n rows given = (spans : List Span) × AllByRecursion IsInCalendar spans × SpansFit n rows given spans

-- ---- the driver

-- the first table at which the driver's rows aren't sound, or none
abbrev pub IsJudged : (TableName → List Row) → ℤ → Option TableName → Type 0
IsJudged rows n None = IsOwnSound rows n Held
IsJudged rows n (Some k) = (¬ (IsOwnSound rows n k)) × ((j : TableName) → place j < place k → IsOwnSound rows n j)

-- the driver has this row in `drivers`, and these rows that were read in the other tables
pub record IsReadDriver (rows : TableName → List Row) (r : DriverRow) (basis : Basis) (found : OwnRows) : Type 0 where
  pub own : rows Drivers ≡ driver_row r ∷ []
  pub columns : HasOwnColumns r
  pub judged_by : IsBasis basis r
  pub downloads : AreShown r.driver made.downloads.columns three_shown (rows Downloads) found.downloads.items
  pub card_spans : AreShown r.driver (made.spans []).columns three_shown (rows CardSpans) found.card_spans.items
  pub entries : AreShown r.driver made.entry_rows.columns seven_shown (rows EntryRows) found.entry_rows.items
  pub held : AreShown r.driver (made.spans []).columns three_shown (rows Held) found.held.items
