-- Trusted: That one week's step on the ten outcomes is exact.
use Rattle.std.specs.Prelude.{ℕ, ◌+◌, ◌≤◌, ◌↔◌, Bool}
use Rattle.tacho_law.specs.Line.{Line}
use Rattle.tacho_law.specs.Choice.{CanServe}
use Rattle.tacho_choice.specs.declared.weekly_rests.WeeklyRests.{WeeklyRests}
use Rattle.tacho_choice.specs.declared.outcome.Outcome.{Outcome}
use Rattle.tacho_choice.specs.Step.{IsNext, IsFirst}
use Rattle.tacho_choice.specs.Weeks.{IsInWeeks, IsWeekOf, CanReach, IsPairAsked}

-- the outcomes of a week are exactly those to which a step leads from an outcome of the week before
abbrev pub ChoicesReach : Type 0
ChoicesReach = (line : Line) (first u : ℕ) (old new : WeeklyRests) (asks : Bool) (outcome : Outcome)
    → IsInWeeks line → first ≤ u → IsWeekOf line u old → IsWeekOf line (u + 1) new → IsPairAsked line u asks
    → CanReach line first (u + 1) outcome
    ↔ ((before : Outcome) × (CanReach line first u before × IsNext new asks before outcome))

-- the outcomes of the first week are exactly those of all choices
abbrev pub ChoicesStart : Type 0
ChoicesStart = (line : Line) (first : ℕ) (week : WeeklyRests) (outcome : Outcome)
    → IsInWeeks line → IsWeekOf line first week
    → CanReach line first first outcome ↔ IsFirst week outcome

-- some choice is valid up to a week iff it leaves some outcome of that week
abbrev pub ChoicesServe : Type 0
ChoicesServe = (line : Line) (first u : ℕ) (week : WeeklyRests) → IsInWeeks line → IsWeekOf line u week
    → CanServe line first u ↔ ((outcome : Outcome) × CanReach line first u outcome)
