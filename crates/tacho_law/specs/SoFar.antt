-- Private to tacho_law: What a pass knows of a line's rest runs, breaks and breaches so far: terms of passes, which are no part of the
-- rules.
use Rattle.std.specs.Prelude.{◌≡◌, ◌≢◌, ℕ, ◌+◌, ◌<◌, ◌≤◌, ◌⊎◌, List, All, AllPairs, Contains, Bool, IsTrue}
use Rattle.tacho_time.specs.declared.span.Activity.TheVariants.{Rest}
use Rattle.tacho_law.specs.declared.run.Run.{Run}
use Rattle.tacho_law.specs.declared.breach.Breach.{Breach}
use Rattle.tacho_law.specs.Exactly.{AreExactly}
use Rattle.tacho_law.specs.Line.{Line}
use Rattle.tacho_law.specs.Limits.{first_part_of_break}
use Rattle.tacho_law.specs.Runs.{IsRestRun, Before, minutes_of}
use Rattle.tacho_law.specs.Breaks.{AreCompleteBreaks}
use Rattle.tacho_law.specs.Order.{Apart}

-- what is known of a line up to minute p: the runs that end before `start`, and that the line is at rest from `start` to p
pub record Reached (line : Line) (runs : List Run) (start p : ℕ) : Type 0 where
  pub each : All (λ run. IsRestRun line run) runs
  pub all : (run : Run) → IsRestRun line run → run.start < start → Contains runs run
  pub in_order : AllPairs Before runs
  pub ended : All (λ run. run.past < start) runs
  pub resting : (m : ℕ) → start ≤ m → m < p → line m ≡ Rest
  pub from : (start ≡ 0) ⊎ ((m : ℕ) → m + 1 ≡ start → line m ≢ Rest)
  pub below : start ≤ p

-- there is a first part after all of the breaks so far
pub record HasShort (seen breaks : List Run) : Type 0 where
  pub part : Run
  pub among : Contains seen part
  pub enough : first_part_of_break ≤ minutes_of part
  pub after : (b : Run) → Contains breaks b → Before b part

-- the complete breaks among the runs so far, and whether a first part is open
pub record Breaking (seen breaks : List Run) (short : Bool) : Type 0 where
  pub whole : AreCompleteBreaks seen breaks
  pub set : IsTrue short → HasShort seen breaks
  pub has : HasShort seen breaks → IsTrue short

-- exactly these breaches, no two of which have the same place: as they are found, before they are put in order
abbrev pub AreCollected : (Breach → Type 0) → List Breach → Type 0
AreCollected P found = AreExactly P Apart found
