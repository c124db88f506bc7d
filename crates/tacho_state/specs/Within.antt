-- Trusted: The limits of a state: what commands check before they add it.
use Rattle.std.specs.Prelude.{◌≡◌, ◌≤◌, ℕ, List, IsUtf8, length, true}
use Rattle.std.specs.List.{AllByRecursion}
use Rattle.tacho_state.specs.Batch.{Hours, IsEntryLine}
use Rattle.tacho_state.specs.Content.{HasContent}
use Rattle.tacho_state.specs.Limits.{IsName, IsNote}
use Rattle.tacho_state.specs.Registration.{Registration, IsRegistration}
use Rattle.tacho_state.specs.State.{Download, Driver, Entry, State}
use Rattle.tacho_state.specs.Steps.{is_monday, most_records}

-- the file is of a card of this holder, and gives the download's spans
abbrev pub IsOf : List ℕ → Download → Type 0
IsOf holder d = HasContent d.part d.file (record { holder = holder; spans = d.spans })

-- a driver's registration, and an entry's hours
abbrev pub registration_of : Driver → Registration
registration_of d = record { number = d.number; holder = d.holder; key = d.key; base = d.base; name = d.name }

abbrev pub hours_of : Entry → Hours
hours_of e = record { start = e.start; past = e.past; activity = e.activity; author = e.author; note = e.note }

-- A driver's own columns: number, key, base and name have their form, the base is a Monday, the holder has fifteen bytes, the texts are
-- UTF-8, and there are no more downloads and entries than numbers.
pub record AreColumns (r : Registration) (downloads entries : ℕ) : Type 0 where
  pub registration : IsRegistration r
  pub monday : is_monday r.base ≡ true
  pub holder : length r.holder ≡ 15
  pub key : IsUtf8 r.key
  pub name : IsUtf8 r.name
  pub few_files : downloads ≤ most_records
  pub few_entries : entries ≤ most_records

abbrev pub HasColumns : Driver → Type 0
HasColumns d = AreColumns (registration_of d) (length d.downloads) (length d.entries)

-- each card file is of the driver's card
abbrev pub AreOwnFiles : Driver → Type 0
AreOwnFiles d = AllByRecursion (IsOf d.holder) d.downloads

-- an entry: it isn't empty, lies within 2000-01-03 to the end of 2099, and has at most 366 days; its author and its note have their form
pub record IsEntry (e : Entry) : Type 0 where
  pub line : IsEntryLine (hours_of e)
  pub author : IsName e.author
  pub note : IsNote e.note
  pub author_text : IsUtf8 e.author
  pub note_text : IsUtf8 e.note

-- a driver, and a state, within their limits
pub record IsWithinLimits (d : Driver) : Type 0 where
  pub columns : HasColumns d
  pub files : AreOwnFiles d
  pub entries : AllByRecursion IsEntry d.entries

abbrev pub AreWithinLimits : State → Type 0
AreWithinLimits s = AllByRecursion IsWithinLimits s
