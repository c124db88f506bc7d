-- Trusted: The archive's state: its drivers, with the card files that were accepted for each and the hours that were entered for each.
use Rattle.std.specs.Prelude.{ℕ, ◌+◌, ◌<◌, ◌==◌, nat_le, ◌&&◌, Bool, true, false, List, [], ◌∷◌, ◌++◌, Option, Some, None, bytes_eq, if◌then◌else◌}
use Rattle.tacho_time.specs.declared.span.Span.{Span}
use Rattle.tacho_time.specs.declared.span.Mark.{Mark}
use Rattle.tacho_time.specs.declared.span.Activity.{Activity}
use Rattle.tacho_time.specs.Spans.{Gives}
use Rattle.tacho_line.specs.Line.{mark_at}

-- a card file that was accepted, the part that was read from it, and the spans that this gave
pub record Download : Type 0 where
  pub part : ℕ
  pub file : List ℕ
  pub spans : List Span

-- hours that were entered: minutes from start to before past, their author and note; a withdrawn entry stays listed and gives nothing
pub record Entry : Type 0 where
  pub start : ℕ
  pub past : ℕ
  pub activity : Activity
  pub author : List ℕ
  pub note : List ℕ
  pub withdrawn : Bool

-- a driver: their card's holder, their key, the day from which they are examined, their name, and their downloads and entries ordered by
-- number; numbers begin at 1
pub record Driver : Type 0 where
  pub number : ℕ
  pub holder : List ℕ
  pub key : List ℕ
  pub base : ℕ
  pub name : List ℕ
  pub downloads : List Download
  pub entries : List Entry

-- the drivers; their order doesn't matter
abbrev pub State : Type 0
State = List Driver

-- ---- what a driver holds

-- the spans of a driver's accepted downloads
abbrev pub given_spans : List Download → List Span
given_spans [] = []
given_spans (d ∷ ds) = d.spans ++ given_spans ds

-- the span of an entry: the driver is alone (single)
abbrev pub entry_span : Entry → Span
entry_span e = record { start = e.start; past = e.past; mark = record { activity = e.activity; crew = false } }

-- the spans of the entries that aren't withdrawn
abbrev pub entered_spans : List Entry → List Span
entered_spans [] = []
entered_spans (e ∷ es) = if e.withdrawn then entered_spans es else entry_span e ∷ entered_spans es

-- the pairs that a driver's accepted downloads give
abbrev pub IsDownloaded : Driver → ℕ → Mark → Type 0
IsDownloaded d = Gives (given_spans d.downloads)

-- the spans of a driver's downloads, and of the entries that aren't withdrawn: together they give what the driver holds
abbrev pub held_spans : Driver → List Span
held_spans d = given_spans d.downloads ++ entered_spans d.entries

abbrev pub Held : Driver → ℕ → Mark → Type 0
Held d = Gives (held_spans d)

-- the mark with which the driver holds a minute, if it is held
abbrev pub held_mark : Driver → ℕ → Option Mark
held_mark d m = mark_at (held_spans d) m

-- ---- drivers, downloads and entries by their numbers, keys and holders

-- the driver with a number
abbrev pub driver_of : ℕ → State → Option Driver
driver_of n [] = None
driver_of n (d ∷ s) = if d.number == n then Some d else driver_of n s

-- the driver with a key
abbrev pub driver_with_key : List ℕ → State → Option Driver
driver_with_key key [] = None
driver_with_key key (d ∷ s) = if bytes_eq d.key key then Some d else driver_with_key key s

-- the driver whose card has this holder
abbrev pub holding : List ℕ → State → Option Driver
holding holder [] = None
holding holder (d ∷ s) = if bytes_eq d.holder holder then Some d else holding holder s

-- the state with this driver in place of the one with the same number
abbrev pub put : Driver → State → State
put d [] = []
put d (x ∷ s) = if x.number == d.number then d ∷ s else x ∷ put d s

-- the download with this number, if the first of the list has number `i`
abbrev pub download_from : ℕ → ℕ → List Download → Option Download
download_from i number [] = None
download_from i number (d ∷ ds) = if i == number then Some d else download_from (i + 1) number ds

-- the entry with this number, if the first of the list has number `i`
abbrev pub entry_from : ℕ → ℕ → List Entry → Option Entry
entry_from i number [] = None
entry_from i number (e ∷ es) = if i == number then Some e else entry_from (i + 1) number es

-- the entries, with the one with this number withdrawn
abbrev pub marked_from : ℕ → ℕ → List Entry → List Entry
marked_from i number [] = []
marked_from i number (e ∷ es) = if i == number then record e { withdrawn = true } ∷ es else e ∷ marked_from (i + 1) number es

-- ---- a driver after a command

abbrev pub with_download : ℕ → List ℕ → List Span → Driver → Driver
with_download part file spans d = record d { downloads = d.downloads ++ record { part = part; file = file; spans = spans } ∷ [] }

abbrev pub with_batch : List Entry → Driver → Driver
with_batch batch d = record d { entries = d.entries ++ batch }

abbrev pub with_marked : ℕ → Driver → Driver
with_marked number d = record d { entries = marked_from 1 number d.entries }

abbrev pub with_base : ℕ → Driver → Driver
with_base base d = record d { base = base }

abbrev pub with_key : List ℕ → Driver → Driver
with_key key d = record d { key = key }

abbrev pub with_name : List ℕ → Driver → Driver
with_name name d = record d { name = name }

-- the entries, if the first of the list has number `i`, with those withdrawn whose numbers are from `first` to `last`
abbrev pub marked_between : ℕ → ℕ → ℕ → List Entry → List Entry
marked_between i first last [] = []
marked_between i first last (e ∷ es) =
    (if nat_le first i && nat_le i last then record e { withdrawn = true } else e) ∷ marked_between (i + 1) first last es

abbrev pub with_marked_between : ℕ → ℕ → Driver → Driver
with_marked_between first last d = record d { entries = marked_between 1 first last d.entries }

-- no entry is empty
abbrev pub AreFull : List Entry → Type 0
AreFull [] = Unit {0}
AreFull (e ∷ es) = (e.start < e.past) × AreFull es
