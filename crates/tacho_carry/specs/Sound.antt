-- Trusted: States that commands lead to.
use Rattle.std.specs.Prelude.{◌≡◌, ◌≤◌, ◌++◌, ◌∷◌, ℕ, List, length, true}
use Rattle.std.specs.List.{AllByRecursion}
use Rattle.tacho_time.specs.Spans.{Conflicts, Gives}
use Rattle.tacho_state.specs.Disjoint.{AllWithin}
use Rattle.tacho_state.specs.Distinct.{AreDistinct}
use Rattle.tacho_state.specs.State.{Download, Driver, Held, State, given_spans}
use Rattle.tacho_state.specs.Steps.{is_monday, most_records}
use Rattle.tacho_state.specs.Within.{IsOf}

-- each card file gives a minute and mark that none before it gives
abbrev pub AreNews : List Download → Type 0
AreNews ds = (before later : List Download) (d : Download) → ds ≡ before ++ d ∷ later
    → ¬ (AllWithin (Gives d.spans) (Gives (given_spans before)))

-- a driver whom commands have made: no minute has two marks
pub record IsSoundDriver (d : Driver) : Type 0 where
  pub monday : is_monday d.base ≡ true
  pub files : AllByRecursion (IsOf d.holder) d.downloads
  pub news : AreNews d.downloads
  pub agreed : (m : ℕ) → ¬ (Conflicts (Held d) m)
  pub few_files : length d.downloads ≤ most_records
  pub few_entries : length d.entries ≤ most_records

-- a state that commands have made
pub record IsSound (s : State) : Type 0 where
  pub distinct : AreDistinct s
  pub each : AllByRecursion IsSoundDriver s
