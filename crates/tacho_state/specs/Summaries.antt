-- Trusted: What is listed of an archive's drivers.
use Rattle.std.specs.Prelude.{ℕ, List, Ok, Result, IsPermutation, IsSorted, length, map, string_bytes}
use Rattle.std.specs.Ordering.{nat_cmp}
use Rattle.tacho_state.specs.State.{Driver, State, driver_of}
use Rattle.tacho_state.specs.Steps.{reading_of}
use Rattle.tacho_state.specs.declared.fault.StoreFault.{StoreFault}
use Rattle.tacho_state.specs.declared.summary.DriverSummary.{DriverSummary}

-- what is listed of a driver: their number, their card's holder, the day from which they are examined, the number of their downloads and of
-- their entries (including withdrawn ones), and their name; neither their key nor what they hold
pub record Summary : Type 0 where
  pub number : ℕ
  pub holder : List ℕ
  pub base : ℕ
  pub downloads : ℕ
  pub entries : ℕ
  pub name : List ℕ

abbrev pub summary_of : Driver → Summary
summary_of d = record {
  number = d.number;
  holder = d.holder;
  base = d.base;
  downloads = length d.downloads;
  entries = length d.entries;
  name = d.name;
}

-- the `Summary` of a `DriverSummary`
abbrev pub told_summary : DriverSummary → Summary
told_summary d = record {
  number = d.number;
  holder = d.holder.items;
  base = d.base;
  downloads = d.downloads;
  entries = d.entries;
  name = string_bytes d.name;
}

-- what is listed of the driver with a number; S4 if there is none
abbrev pub driver_reading : ℕ → State → Result Summary StoreFault
driver_reading n s = reading_of (λ d. Ok (summary_of d)) (driver_of n s)

-- each driver of the state once, the lowest number first
pub record AreSummaries (s : State) (summaries : List Summary) : Type 0 where
  pub all : IsPermutation (map summary_of s) summaries
  pub sorted : IsSorted (λ (x y : Summary). nat_cmp x.number y.number) summaries
