-- Trusted: The list of a driver's card files.
use Rattle.std.specs.Prelude.{ℕ, ◌+◌, ◌-◌, List, [], ◌∷◌, Option, Some, None, Result, Ok, length, slice_get}
use Rattle.sha2.specs.Sha256.{sha256}
use Rattle.tacho_time.specs.declared.span.Span.{Span}
use Rattle.tacho_state.specs.State.{Download, State, driver_of}
use Rattle.tacho_state.specs.Numbers.{part_number}
use Rattle.tacho_state.specs.Steps.{reading_of}
use Rattle.tacho_state.specs.declared.fault.StoreFault.{StoreFault}
use Rattle.tacho_state.specs.declared.file.FileSummary.{FileSummary}

-- the minute at which a span starts, and the one before which it ends; 0 without a span
abbrev pub start_of : Option Span → ℕ
start_of (Some s) = s.start
start_of None = 0

abbrev pub past_of : Option Span → ℕ
past_of (Some s) = s.past
past_of None = 0

-- what is listed of a card file: its number, the part that was read, its length in bytes, the start of the first of its spans and the past of
-- the last, and the SHA-256 digest of its bytes
pub record ListedFile : Type 0 where
  pub number : ℕ
  pub part : ℕ
  pub length : ℕ
  pub first : ℕ
  pub past : ℕ
  pub digest : List ℕ

abbrev pub listed_file : ℕ → Download → ListedFile
listed_file number d = record {
  number = number;
  part = d.part;
  length = length d.file;
  first = start_of (slice_get d.spans 0);
  past = past_of (slice_get d.spans (length d.spans - 1));
  digest = sha256 d.file;
}

-- the downloads with their numbers, which begin at `i`
abbrev pub listed_from : ℕ → List Download → List ListedFile
listed_from i [] = []
listed_from i (d ∷ ds) = listed_file i d ∷ listed_from (i + 1) ds

-- all card files of a driver ordered by number; S4
abbrev pub files_reading : ℕ → State → Result (List ListedFile) StoreFault
files_reading n s = reading_of (λ d. Ok (listed_from 1 d.downloads)) (driver_of n s)

-- the `ListedFile` of a `FileSummary`
abbrev pub told_file : FileSummary → ListedFile
told_file f = record { number = f.number; part = part_number f.part; length = f.length; first = f.first; past = f.past; digest = f.digest }
