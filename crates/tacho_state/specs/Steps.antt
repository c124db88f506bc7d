-- Trusted in part: What each command and each reading answers, and the state after it. A refusal leaves the state as it was. If several refusals
-- apply, the first in the order S1 to S14 is answered; a fault of the card file (S11) comes before all others.
use Rattle.std.specs.Prelude.{ℕ, zero, suc, ◌+◌, ◌-◌, ◌%◌, ◌==◌, nat_lt, not, Bool, false, List, [], ◌∷◌, ◌++◌, length, Option, Some, None, is_some, option_map, Result, Ok, Err, bytes_eq, if◌then◌else◌}
use Rattle.tacho_time.specs.declared.span.Span.{Span}
use Rattle.tacho_time.specs.declared.span.Mark.{Mark}
use Rattle.tacho_card.specs.declared.fault.CardFault.{CardFault}
use Rattle.tacho_state.specs.declared.fault.StoreFault.{StoreFault}
use Rattle.tacho_state.specs.declared.fault.StoreFault.TheVariants.{DriverTaken, KeyTaken, HolderTaken, UnknownDriver, NotYourCard, Contradiction, UnknownEntry, AlreadyWithdrawn, NotMonday, UnknownDownload, Card, Full}
use Rattle.tacho_state.specs.declared.entry.Entry.{Entry as Listed}
use Rattle.tacho_state.specs.declared.imported.Imported.{Imported}
use Rattle.tacho_state.specs.declared.imported.Imported.TheVariants.{Added, Repeated}
use Rattle.tacho_state.specs.State.{Download, Entry, Driver, State, given_spans, entered_spans, held_spans, held_mark, driver_of, driver_with_key, holding, put, download_from, entry_from, with_download, with_batch, with_marked, with_base, with_key, with_name}
use Rattle.tacho_state.specs.Least.{least_conflict, is_within}

-- an answer, and the state after it
pub record Turn (A : Type 0) : Type 0 where
  pub answer : Result A StoreFault
  pub after : State

abbrev pub refusal_turn : {A : Type 0} → StoreFault → State → Turn A
refusal_turn fault s = record { answer = Err fault; after = s }

-- what a command on one driver answers, and the driver after it
abbrev pub Own : Type 0 → Type 0
Own A = Driver → Result (A × Driver) StoreFault

abbrev pub turn_of : {A : Type 0} → State → Result (A × Driver) StoreFault → Turn A
turn_of s (Ok told) = record { answer = Ok told.0; after = put told.1 s }
turn_of s (Err fault) = refusal_turn fault s

-- a command on one driver; S4 if there is none
abbrev pub own_turn : {A : Type 0} → Own A → State → Option Driver → Turn A
own_turn f s None = refusal_turn UnknownDriver s
own_turn f s (Some d) = turn_of s (f d)

-- how many downloads, and how many entries, a driver may have
abbrev pub most_records : ℕ
most_records = 1000000

-- a day is a Monday: day 0 was a Thursday
abbrev pub is_monday : ℕ → Bool
is_monday day = (day + 3) % 7 == 0

-- ---- register

-- adds the driver, without downloads and entries; S1, S2, S3, S9
abbrev pub register_step : ℕ → List ℕ → List ℕ → ℕ → List ℕ → State → Turn (Unit {0})
register_step number holder key base name s =
    if is_some (driver_of number s) then refusal_turn DriverTaken s
    else (if is_some (driver_with_key key s) then refusal_turn KeyTaken s
    else (if is_some (holding holder s) then refusal_turn HolderTaken s
    else (if is_monday base
    then record { answer = Ok tt; after = s ++ record { number = number; holder = holder; key = key; base = base; name = name; downloads = []; entries = [] } ∷ [] }
    else refusal_turn NotMonday s)))

-- ---- import

-- the content of a card file: its holder, and the spans of the part that is read
pub record Content : Type 0 where
  pub holder : List ℕ
  pub spans : List Span

-- adds the file, unless it contradicts what is held (S6, with the least minute) or no number is left (S14)
abbrev pub kept_by : ℕ → List ℕ → List Span → Driver → Option ℕ → Result (Imported × Driver) StoreFault
kept_by part file spans d (Some m) = Err (Contradiction m)
kept_by part file spans d None =
    if nat_lt (length d.downloads) most_records then Ok (Added d.number (1 + length d.downloads), with_download part file spans d) else Err Full

-- a file is repeated if downloads already give all its pairs; entries don't count for this
abbrev pub import_own : ℕ → List ℕ → List Span → Own Imported
import_own part file spans d =
    if is_within spans (given_spans d.downloads) then Ok (Repeated d.number, d)
    else kept_by part file spans d (least_conflict (held_spans d ++ spans))

-- an import by a driver: S5 if the card is another driver's
abbrev pub import_by_driver : ℕ → List ℕ → Content → Own Imported
import_by_driver part file content d = if bytes_eq d.holder content.holder then import_own part file content.spans d else Err NotYourCard

-- an import by the office (no number), which finds the driver by the holder, or by a driver; a fault of the file comes first
abbrev pub import_step : Option ℕ → ℕ → List ℕ → Result Content CardFault → State → Turn Imported
import_step caller part file (Err fault) s = refusal_turn (Card fault) s
import_step None part file (Ok content) s = own_turn (import_own part file content.spans) s (holding content.holder s)
import_step (Some n) part file (Ok content) s = own_turn (import_by_driver part file content) s (driver_of n s)

-- ---- enter

-- adds all entries of a batch or none: S6, S14
abbrev pub entered_by : List Entry → Driver → Option ℕ → Result (ℕ × Driver) StoreFault
entered_by batch d (Some m) = Err (Contradiction m)
entered_by batch d None =
    if nat_lt most_records (length d.entries + length batch) then Err Full else Ok (1 + length d.entries, with_batch batch d)

abbrev pub enter_own : List Entry → Own ℕ
enter_own batch d = entered_by batch d (least_conflict (held_spans d ++ entered_spans batch))

-- answers the number of the first entry
abbrev pub enter_step : ℕ → List Entry → State → Turn ℕ
enter_step n batch s = own_turn (enter_own batch) s (driver_of n s)

-- ---- withdraw, rebase, rekey, rename

-- S7, S8
abbrev pub withdrawn_by : ℕ → Driver → Option Entry → Result (Unit {0} × Driver) StoreFault
withdrawn_by number d None = Err UnknownEntry
withdrawn_by number d (Some e) = if e.withdrawn then Err AlreadyWithdrawn else Ok (tt, with_marked number d)

abbrev pub withdraw_own : ℕ → Own (Unit {0})
withdraw_own number d = withdrawn_by number d (entry_from 1 number d.entries)

abbrev pub withdraw_step : ℕ → ℕ → State → Turn (Unit {0})
withdraw_step n number s = own_turn (withdraw_own number) s (driver_of n s)

-- one change of a driver, and another of the driver after it; the first refusal refuses both
abbrev pub and_then : {A : Type 0} → Result (A × Driver) StoreFault → Own (Unit {0}) → Result (Unit {0} × Driver) StoreFault
and_then (Err fault) next = Err fault
and_then (Ok told) next = next told.1

-- withdraws `count` entries from number `first` on, one after the other
abbrev pub withdraw_from : ℕ → ℕ → Own (Unit {0})
withdraw_from first zero d = Ok (tt, d)
withdraw_from first (suc count) d = and_then (withdraw_own first d) (withdraw_from (first + 1) count)

-- withdraws the entries from `first` to `last`, all of them or none
abbrev pub withdraw_range_step : ℕ → ℕ → ℕ → State → Turn (Unit {0})
withdraw_range_step n first last s = own_turn (withdraw_from first (last + 1 - first)) s (driver_of n s)

-- S9
abbrev pub rebase_own : ℕ → Own (Unit {0})
rebase_own base d = if is_monday base then Ok (tt, with_base base d) else Err NotMonday

abbrev pub rebase_step : ℕ → ℕ → State → Turn (Unit {0})
rebase_step n base s = own_turn (rebase_own base) s (driver_of n s)

-- it is a driver, and not the one with this number
abbrev pub is_another : ℕ → Option Driver → Bool
is_another n None = false
is_another n (Some d) = not (d.number == n)

abbrev pub rekey_own : List ℕ → Own (Unit {0})
rekey_own key d = Ok (tt, with_key key d)

-- S2 if another driver has the key; the driver's own key is no fault
abbrev pub rekey_step : ℕ → List ℕ → State → Turn (Unit {0})
rekey_step n key s =
    if is_another n (driver_with_key key s) then refusal_turn KeyTaken s else own_turn (rekey_own key) s (driver_of n s)

abbrev pub rename_own : List ℕ → Own (Unit {0})
rename_own name d = Ok (tt, with_name name d)

abbrev pub rename_step : ℕ → List ℕ → State → Turn (Unit {0})
rename_step n name s = own_turn (rename_own name) s (driver_of n s)

-- ---- readings

-- a reading of one driver; S4 if there is none
abbrev pub reading_of : {A : Type 0} → (Driver → Result A StoreFault) → Option Driver → Result A StoreFault
reading_of f None = Err UnknownDriver
reading_of f (Some d) = f d

-- the driver, if there is one: S4
abbrev pub known_driver : Option Driver → Result Driver StoreFault
known_driver None = Err UnknownDriver
known_driver (Some d) = Ok d

-- the number of the driver with this key, if there is one
abbrev pub owner : List ℕ → State → Result (Option ℕ) StoreFault
owner key s = Ok (option_map (λ (d : Driver). d.number) (driver_with_key key s))

abbrev pub name_reading : ℕ → State → Result (List ℕ) StoreFault
name_reading n s = reading_of (λ d. Ok d.name) (driver_of n s)

abbrev pub key_reading : ℕ → State → Result (List ℕ) StoreFault
key_reading n s = reading_of (λ d. Ok d.key) (driver_of n s)

-- the driver's timeline: the mark of each held minute
abbrev pub line_reading : ℕ → State → Result (ℕ → Option Mark) StoreFault
line_reading n s = reading_of (λ d. Ok (held_mark d)) (driver_of n s)

-- the entries with their numbers, which begin at `i`
abbrev pub numbered_from : ℕ → List Entry → List Listed
numbered_from i [] = []
numbered_from i (e ∷ es) =
    record {
      number = i;
      line = record { start = e.start; past = e.past; activity = e.activity; author = e.author; note = e.note };
      withdrawn = e.withdrawn;
    } ∷ numbered_from (i + 1) es

-- all entries of a driver ordered by number, including withdrawn ones
abbrev pub entries_reading : ℕ → State → Result (List Listed) StoreFault
entries_reading n s = reading_of (λ d. Ok (numbered_from 1 d.entries)) (driver_of n s)

-- the bytes of a download: S10
abbrev pub file_of : Option Download → Result (List ℕ) StoreFault
file_of None = Err UnknownDownload
file_of (Some d) = Ok d.file

abbrev pub file_reading : ℕ → ℕ → State → Result (List ℕ) StoreFault
file_reading n number s = reading_of (λ d. file_of (download_from 1 number d.downloads)) (driver_of n s)

-- Ok if there is a driver to report on, else S4
abbrev pub report_reading : ℕ → State → Result (Unit {0}) StoreFault
report_reading n s = reading_of (λ d. Ok tt) (driver_of n s)
