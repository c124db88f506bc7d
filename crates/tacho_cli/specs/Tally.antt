-- Private to tacho_cli: One file of several, and the tally of those so far.
use Rattle.std.specs.Prelude.{◌≡◌, ℕ, List, Result, nat_lt, true}
use Rattle.tacho_card.specs.declared.file.Part.{Part}
use Rattle.tacho_state.specs.State.{State}
use Rattle.tacho_desk.specs.Doing.{CarriesOut}
use Rattle.tacho_desk.specs.Told.{Answer}
use Rattle.tacho_sheet.specs.declared.fault.Fault.{Fault}
use Rattle.tacho_cli.specs.Files.{FileAnswer, ImportsRead, IsFileRead, count_of, ends, is_added, is_refused, is_repeated}
use Rattle.tacho_cli.specs.declared.tally.Tally.{Tally}

-- a file was read, or not, and the call is the import of what was read
pub record AnswersFile {K : Type 0} (Gives : List ℕ → Result (List ℕ) Fault → Type 0) (stands : K → State → Type 0) (is_clean is_live : K → Type 0) (leaves : K → List State → Type 0)
    (is_same : K → K → Type 0) (old new : K) (p : Part) (name : List ℕ) (answer : Answer) : Type 0 where
  pub read : Result (List ℕ) Fault
  pub given : Gives name read
  pub is : IsFileRead read
  pub serves : CarriesOut stands is_clean is_live leaves is_same old new true answer (ImportsRead p read)

-- the counts are those of these files
pub record IsTally (tally : Tally) (files : List FileAnswer) : Type 0 where
  pub added : tally.added ≡ count_of is_added files
  pub repeated : tally.repeated ≡ count_of is_repeated files
  pub refused : tally.refused ≡ count_of is_refused files
  pub ended : tally.ended ≡ nat_lt 0 (count_of ends files)
