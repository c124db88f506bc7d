-- Trusted in part: What the archive's tables represent: rows by driver, and the state of all drivers.
use Rattle.std.specs.Prelude.{◌≡◌, ℕ, ◌+◌, ◌==◌, ◌<◌, ◌≤◌, ◌⊎◌, All, List, [], ◌∷◌, length, map, filter, not, IsPermutation, if◌then◌else◌}
use Rattle.sqlite.specs.Tree.{Trees}
use Rattle.tacho_time.specs.declared.span.Span.{Span}
use Rattle.tacho_time.specs.Spans.{Gives, IsFirstConflict}
use Rattle.tacho_state.specs.declared.entry.Entry.{Entry as Listed}
use Rattle.tacho_state.specs.Distinct.{AreDistinct, HasNot}
use Rattle.tacho_state.specs.Limits.{IsName, IsNote}
use Rattle.tacho_state.specs.Numbers.{activity_number, mark_number, numbered_activity, numbered_mark, IsMark}
use Rattle.tacho_state.specs.State.{Download, Entry, Driver, State, IsDownloaded, Held, AreFull, driver_of}
use Rattle.tacho_state.specs.Disjoint.{GiveExactly}
use Rattle.tacho_state.specs.Content.{AreRead}
use Rattle.tacho_state.specs.Summaries.{Summary}
use Rattle.tacho_tables.specs.Rows.{SpanRow, DownloadRow, EntryRow, DriverRow}
use Rattle.tacho_tables.specs.declared.rows.StoredSpan.{StoredSpan}
use Rattle.tacho_tables.specs.Tables.{ListedDriver, ListedEntry, Tables, HasTables, has_number, is_of, is_row_near, is_kept_near, span_of, entry_span_of}
use Rattle.tacho_time.specs.Limits.{greatest_day, greatest_minute}

-- ---- rows of a driver

-- the span of a row, and the row of a driver's span
abbrev pub row_span : SpanRow → Span
row_span r = record { start = r.start; past = r.past; mark = numbered_mark r.mark }

abbrev pub span_row : ℕ → Span → SpanRow
span_row n s = record { driver = n; start = s.start; past = s.past; mark = mark_number s.mark }

-- the spans of a driver's rows
abbrev pub spans_of : ℕ → List SpanRow → List Span
spans_of n [] = []
spans_of n (r ∷ rows) = if r.driver == n then row_span r ∷ spans_of n rows else spans_of n rows

-- the rows of a driver's downloads and entries; the first has number `i`
abbrev pub rows_of_downloads : ℕ → ℕ → List Download → List DownloadRow
rows_of_downloads n i [] = []
rows_of_downloads n i (d ∷ ds) = record { driver = n; number = i; part = d.part; file = d.file } ∷ rows_of_downloads n (i + 1) ds

abbrev pub entry_row : ℕ → ℕ → Entry → EntryRow
entry_row n i e = record {
  driver = n;
  number = i;
  start = e.start;
  past = e.past;
  mark = activity_number e.activity;
  withdrawn = (if e.withdrawn then 1 else 0);
  author = e.author;
  note = e.note;
}

abbrev pub rows_of_entries : ℕ → ℕ → List Entry → List EntryRow
rows_of_entries n i [] = []
rows_of_entries n i (e ∷ es) = entry_row n i e ∷ rows_of_entries n (i + 1) es

-- a driver's own row: the columns downloads and entries count the numbers that were given out
abbrev pub driver_columns : Driver → DriverRow
driver_columns d = record { driver = d.number; holder = d.holder; secret = d.key; base = d.base; name = d.name; downloads = length d.downloads; entries = length d.entries }

abbrev pub downloads_of : ℕ → List DownloadRow → List DownloadRow
downloads_of n rows = filter (λ r. r.driver == n) rows

abbrev pub driver_entry_rows : ℕ → List EntryRow → List EntryRow
driver_entry_rows n rows = filter (λ r. r.driver == n) rows

-- ---- what the tables represent

-- the rows of one driver: `card_spans` give exactly what the driver's downloads give, and `held` exactly what the driver holds, each in
-- disjoint rows
pub record RowsRepresent (t : Tables) (d : Driver) : Type 0 where
  pub downloads : downloads_of d.number t.downloads ≡ rows_of_downloads d.number 1 d.downloads
  pub read : AreRead d.downloads
  pub entries : driver_entry_rows d.number t.entries ≡ rows_of_entries d.number 1 d.entries
  pub full : AreFull d.entries
  pub card_spans : GiveExactly (spans_of d.number t.card_spans) (IsDownloaded d)
  pub held : GiveExactly (spans_of d.number t.held) (Held d)

abbrev pub RowsRepresentEach : Tables → State → Type 0
RowsRepresentEach t [] = Unit {0}
RowsRepresentEach t (d ∷ s) = RowsRepresent t d × RowsRepresentEach t s

-- each row belongs to a driver of the state
pub record AreKnown (t : Tables) (s : State) : Type 0 where
  pub downloads : (n : ℕ) → HasNot n s → downloads_of n t.downloads ≡ []
  pub entries : (n : ℕ) → HasNot n s → driver_entry_rows n t.entries ≡ []
  pub card_spans : (n : ℕ) → HasNot n s → spans_of n t.card_spans ≡ []
  pub held : (n : ℕ) → HasNot n s → spans_of n t.held ≡ []

-- the rows of both tables of spans have the numbers of marks
pub record AreMarked (t : Tables) : Type 0 where
  pub card_spans : All (λ r. IsMark r.mark) t.card_spans
  pub held : All (λ r. IsMark r.mark) t.held

-- the tables represent the state
pub record TablesRepresent (t : Tables) (s : State) : Type 0 where
  pub drivers : t.drivers ≡ map driver_columns s
  pub distinct : AreDistinct s
  pub each : RowsRepresentEach t s
  pub known : AreKnown t s
  pub marked : AreMarked t

-- the stored rows represent the state
unfoldable pub Represents : Trees → State → Type 0
Represents db s = (t : Tables) × HasTables db t × TablesRepresent t s

-- the two tables have the same rows of one driver
pub record HaveSameRowsOf (n : ℕ) (t u : Tables) : Type 0 where
  pub drivers : filter (has_number n) t.drivers ≡ filter (has_number n) u.drivers
  pub downloads : downloads_of n t.downloads ≡ downloads_of n u.downloads
  pub card_spans : filter (is_of n) t.card_spans ≡ filter (is_of n) u.card_spans
  pub entries : driver_entry_rows n t.entries ≡ driver_entry_rows n u.entries
  pub held : filter (is_of n) t.held ≡ filter (is_of n) u.held

-- the rows stored before and after are the same for one driver
unfoldable pub KeepsRowsOf : ℕ → Trees → Trees → Type 0
KeepsRowsOf n db next = (t : Tables) × (u : Tables) × HasTables db t × HasTables next u × HaveSameRowsOf n t u

-- the rows stored after represent the state after, and are the same for each driver that is the same in both states
pub record Follows (db next : Trees) (s after : State) : Type 0 where
  pub stands : Represents next after
  pub others : (n : ℕ) → driver_of n after ≡ driver_of n s → KeepsRowsOf n db next

-- ---- rows in another order, and rows that were read

-- the tables have the same rows, in any order
pub record SameRows (t u : Tables) : Type 0 where
  pub drivers : IsPermutation t.drivers u.drivers
  pub downloads : IsPermutation t.downloads u.downloads
  pub card_spans : IsPermutation t.card_spans u.card_spans
  pub entries : IsPermutation t.entries u.entries
  pub held : IsPermutation t.held u.held

-- both numbers are minutes: 68428800 is the last minute
pub record AreMinutes (from until : ℕ) : Type 0 where
  pub start : from ≤ greatest_minute
  pub past : until ≤ greatest_minute

-- a stored span that an archive can have written: its numbers are minutes and a mark
pub record IsFit (s : StoredSpan) : Type 0 where
  pub minutes : AreMinutes s.start s.past
  pub mark : IsMark s.mark

-- a stored entry that can be listed: its numbers are minutes and an activity, and its texts are within their limits
pub record IsListed (it : ListedEntry) : Type 0 where
  pub minutes : AreMinutes it.start it.past
  pub mark : it.mark < 4
  pub author : IsName it.author
  pub note : IsNote it.note

-- the span of a stored span
abbrev pub stored_span : StoredSpan → Span
stored_span s = record { start = s.start; past = s.past; mark = numbered_mark s.mark }

-- stored rows that have no line: some row isn't fit, or two of them contradict
abbrev pub HaveNoLine : List StoredSpan → Type 0
HaveNoLine rows = (¬ All IsFit rows) ⊎ ((minute : ℕ) × IsFirstConflict (Gives (map stored_span rows)) minute)

-- the rows that are read near a range, in any order
abbrev pub IsReadNear : List SpanRow → ℕ → ℕ → ℕ → List StoredSpan → Type 0
IsReadNear rows n start past found = IsPermutation (map span_of (filter (is_row_near n start past) rows)) found

-- the entries that aren't withdrawn and are read near a range, in any order
abbrev pub IsKeptNear : List EntryRow → ℕ → ℕ → ℕ → List StoredSpan → Type 0
IsKeptNear rows n start past found = IsPermutation (map entry_span_of (filter (is_kept_near n start past) rows)) found

-- a stored entry as it is listed
abbrev pub listed_as : ListedEntry → Listed
listed_as it = record {
  number = it.number;
  line = record { start = it.start; past = it.past; activity = numbered_activity it.mark; author = it.author; note = it.note };
  withdrawn = not (it.withdrawn == 0);
}

-- a stored driver as they are listed
abbrev pub summary_of_listed : ListedDriver → Summary
summary_of_listed d = record { number = d.driver; holder = d.holder; base = d.base; downloads = d.downloads; entries = d.entries; name = d.name }

-- the driver's base is the number of a day: 47520 is the last
abbrev pub HasBaseDay : ListedDriver → Type 0
HasBaseDay d = d.base ≤ greatest_day
