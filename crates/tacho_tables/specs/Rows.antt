-- Trusted: The rows of the archive's tables as typed values, and when stored rows represent a list of them.
use Rattle.std.specs.Prelude.{◌≡◌, ℕ, ℤ, pos, List, [], ◌∷◌, codes, map, drop, IsPermutation}
use Rattle.sqlite.specs.declared.types.Value.TheVariants.{Null, Int, Text, Blob}
use Rattle.sqlite.specs.Order.{Row}
use Rattle.sqlite.specs.Tree.{rowid}
use Rattle.sqlite_rules.specs.Lists.{Has}

-- ---- tables whose rows have a hidden number

-- each stored row is a hidden number, different for each row, and then the columns of one of these values; all values are stored, in any
-- order
pub record AreRowsOf {X : Type 0} (columns : X → Row) (rows : List Row) (all : List X) : Type 0 where
  pub stored : (r : Row) → Has rows r → (id : ℤ) × (x : X) × (r ≡ Int id ∷ columns x)
  pub apart : (a b : Row) → Has rows a → Has rows b → rowid a ≡ rowid b → a ≡ b
  pub same : IsPermutation (map columns all) (map (drop 1) rows)

-- minutes of a driver, from start to before past, and the number of their mark
pub record SpanRow : Type 0 where
  pub driver : ℕ
  pub start : ℕ
  pub past : ℕ
  pub mark : ℕ

abbrev pub span_columns : SpanRow → Row
span_columns r = Int (pos r.driver) ∷ Int (pos r.start) ∷ Int (pos r.past) ∷ Int (pos r.mark) ∷ []

-- a card file of a driver: its number among the driver's downloads, and the part that was read from it
pub record DownloadRow : Type 0 where
  pub driver : ℕ
  pub number : ℕ
  pub part : ℕ
  pub file : List ℕ

abbrev pub download_columns : DownloadRow → Row
download_columns r = Int (pos r.driver) ∷ Int (pos r.number) ∷ Int (pos r.part) ∷ Blob r.file ∷ []

-- hours of a driver entered by hand: their number among the driver's entries, 1 if they are withdrawn (else 0), their author and note
pub record EntryRow : Type 0 where
  pub driver : ℕ
  pub number : ℕ
  pub start : ℕ
  pub past : ℕ
  pub mark : ℕ
  pub withdrawn : ℕ
  pub author : List ℕ
  pub note : List ℕ

abbrev pub entry_columns : EntryRow → Row
entry_columns r = Int (pos r.driver) ∷ Int (pos r.number) ∷ Int (pos r.start) ∷ Int (pos r.past) ∷ Int (pos r.mark) ∷ Int (pos r.withdrawn)
    ∷ Text r.author ∷ Text r.note ∷ []

-- an entry in schema 1: without author and note
pub record OldEntryRow : Type 0 where
  pub driver : ℕ
  pub number : ℕ
  pub start : ℕ
  pub past : ℕ
  pub mark : ℕ
  pub withdrawn : ℕ

abbrev pub old_entry_columns : OldEntryRow → Row
old_entry_columns r = Int (pos r.driver) ∷ Int (pos r.number) ∷ Int (pos r.start) ∷ Int (pos r.past) ∷ Int (pos r.mark)
    ∷ Int (pos r.withdrawn) ∷ []

-- this entry in schema 2: its author is the office, and its note is empty
abbrev pub by_office : OldEntryRow → EntryRow
by_office r =
    record { driver = r.driver; number = r.number; start = r.start; past = r.past; mark = r.mark; withdrawn = r.withdrawn; author = codes "office"; note = [] }

-- ---- drivers: the row's number is the driver's number

-- a driver: the card's holder, the key, the day from which the driver is examined, the name, and how many downloads and entries there are
pub record DriverRow : Type 0 where
  pub driver : ℕ
  pub holder : List ℕ
  pub secret : List ℕ
  pub base : ℕ
  pub name : List ℕ
  pub downloads : ℕ
  pub entries : ℕ

-- the whole stored row: the number, and then an empty column in its place
abbrev pub driver_row : DriverRow → Row
driver_row r =
    Int (pos r.driver) ∷ Null ∷ Blob r.holder ∷ Text r.secret ∷ Int (pos r.base) ∷ Text r.name ∷ Int (pos r.downloads) ∷ Int (pos r.entries) ∷ []

-- the stored rows are those of these drivers, in any order, and no two have the same number
pub record AreNumberedRowsOf (rows : List Row) (all : List DriverRow) : Type 0 where
  pub apart : (a b : Row) → Has rows a → Has rows b → rowid a ≡ rowid b → a ≡ b
  pub same : IsPermutation (map driver_row all) rows
