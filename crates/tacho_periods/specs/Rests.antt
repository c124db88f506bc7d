-- Private to tacho_periods: Rests in order of time.
use Rattle.std.specs.Prelude.{◌<◌, ◌≤◌, List, All, AllPairs}
use Rattle.tacho_law.specs.declared.run.Run.{Run}
use Rattle.tacho_law.specs.Limits.{latest}
use Rattle.tacho_law.specs.Runs.{Before}

-- the rests are in order of time, none is empty, and each starts by the end of 2099
pub record AreInTime (rests : List Run) : Type 0 where
  pub some : All (λ run. run.start < run.past) rests
  pub in_order : AllPairs Before rests
  pub early : All (λ run. run.start ≤ latest) rests
