-- Private to tacho_rests: Choices of a week for each weekly rest, rest by rest and week by week (Regulation (EC) No 561/2006, Articles
-- 8(6), first subparagraph, and 8(9)).
use Rattle.std.specs.Prelude.{◌≡◌, ℕ, ◌+◌, ◌-◌, ◌<◌, ◌≤◌, ◌⊎◌, ◌↔◌, ◌&&◌, not, Bool, true, false, List, [], ◌∷◌}
use Rattle.std.specs.Prelude.{Option, None, Some, MatchOption}
use Rattle.tacho_law.specs.declared.run.Run.{Run}
use Rattle.tacho_law.specs.declared.breach.Breach.{Breach}
use Rattle.tacho_law.specs.declared.breach.Kind.TheVariants.{B9}
use Rattle.tacho_law.specs.Line.{Line}
use Rattle.tacho_law.specs.Limits.{weekly_rest}
use Rattle.tacho_law.specs.Runs.{IsRestOf}
use Rattle.tacho_law.specs.Weeks.{week_start, IsWhollyAtRest}
use Rattle.tacho_law.specs.Choice.{CanServe}
use Rattle.tacho_law.specs.Anew.{Fails, EndedBy}
use Rattle.tacho_law.specs.SoFar.{AreCollected}
use Rattle.tacho_law.specs.Breaches.{IsB9}
use Rattle.tacho_choice.specs.declared.outcome.Outcome.{Outcome}
use Rattle.tacho_choice.specs.declared.outcome.TheConstants.{ANY}
use Rattle.tacho_choice.specs.declared.week.WeekOfRests.{WeekOfRests}
use Rattle.tacho_choice.specs.declared.weekly_rests.WeeklyRests.{WeeklyRests}
use Rattle.tacho_choice.specs.Step.{HasOutcome, IsNext}
use Rattle.tacho_choice.specs.Weeks.{IsWeekOf, IsWeekOfRests, CanReach, week_none, week_with}

-- the breach for a week and the one before it, if no choice is valid up to the week
abbrev pub unserved_breach : ℕ → Breach
unserved_breach w = record { kind = B9; moment = week_start (w + 1); since = week_start (w - 1); amount = 0 }

-- a week with only the last rest
abbrev pub week_of_last : ℕ → Option Run → WeekOfRests
week_of_last w None = week_none
week_of_last w (Some rest) = week_with w rest week_none

-- the outcomes of a week are exactly those reached from the outcomes of the week before
abbrev pub IsStep : WeeklyRests → Bool → List Bool → List Bool → Type 0
IsStep week asks old next =
    (new : Outcome) → HasOutcome next new ↔ ((before : Outcome) × (HasOutcome old before × IsNext week asks before new))

-- and some outcome is left
abbrev pub IsServedStep : WeekOfRests → Bool → List Bool → List Bool → Type 0
IsServedStep week rested old next =
    IsStep week.rests (not rested && not week.whole) old next × ((left : Outcome) × HasOutcome next left)

-- or no outcome is left
abbrev pub IsUnservedStep : WeekOfRests → Bool → List Bool → Type 0
IsUnservedStep week rested old =
    (next : List Bool)
    × (IsStep week.rests (not rested && not week.whole) old next × ((left : Outcome) → HasOutcome next left → ⊥))

-- a week is closed: some choice is valid up to it; or none is, there is a breach, and choices start again from this week
abbrev pub IsJudged : ℕ → WeekOfRests → Bool → List Bool → List Bool → List Breach → Type 0
IsJudged w week rested old next more =
    (IsServedStep week rested old next × (more ≡ []))
    ⊎ (IsUnservedStep week rested old × IsStep week.rests false ANY next × (more ≡ unserved_breach w ∷ []))

-- a breach for two weeks, of which the first is before week w and no choice is valid up to the second
pub record IsLackingBefore (line : Line) (base horizon w : ℕ) (breach : Breach) : Type 0 where
  pub kind : breach.kind ≡ B9
  pub is : IsB9 line base horizon breach
  pub before : is.week < w

-- a weekly rest that starts before a minute
abbrev pub IsSeen : Line → ℕ → Run → Type 0
IsSeen line start rest = IsRestOf line weekly_rest rest × (rest.start < start)

-- the last weekly rest that starts before a minute; it starts before the end of the week
pub record IsLastSeen (line : Line) (start w : ℕ) (rest : Run) : Type 0 where
  pub is : IsSeen line start rest
  pub last : (x : Run) → IsSeen line start x → x.start ≤ rest.start
  pub within : rest.start < week_start (w + 1)

-- a closed week: the outcomes that choices leave of it, if they are valid since the first week or the last failure
pub record IsClosed (line : Line) (horizon first u : ℕ) (rested : Bool) (outcomes : List Bool) : Type 0 where
  pub start : ℕ
  pub starts : (start ≡ first) ⊎ Fails (CanServe line) (EndedBy horizon) first start
  pub within : start ≤ u
  pub each : (left : Outcome) → HasOutcome outcomes left ↔ CanReach line start u left
  pub serves : CanServe line start u
  pub rests : (rested ≡ true) ↔ IsWhollyAtRest line u
  pub week : WeeklyRests
  pub is_week : IsWeekOf line u week

-- at the first week, nothing is known and nothing is found
pub record IsAtFirst (first w : ℕ) (rested : Bool) (outcomes : List Bool) (own : List Breach) : Type 0 where
  pub here : w ≡ first
  pub any : outcomes ≡ ANY
  pub rests : rested ≡ true
  pub none : own ≡ []

-- after a closed week, all breaches up to it are found
pub record IsAfter (line : Line) (horizon first w : ℕ) (rested : Bool) (outcomes : List Bool) (own : List Breach) :
    Type 0 where
  pub u : ℕ
  pub here : u + 1 ≡ w
  pub from : first ≤ u
  pub closed : IsClosed line horizon first u rested outcomes
  pub found : AreCollected (IsLackingBefore line (week_start first) horizon u) own

-- given the weekly rests that start before a minute: those of the current week, the last one, and the outcomes of the week before
pub record AreChoices (line : Line) (horizon first start w : ℕ) (current : WeekOfRests) (last : Option Run)
    (rested : Bool) (outcomes : List Bool) (own : List Breach) : Type 0 where
  pub current_is : IsWeekOfRests (IsSeen line start) w current
  pub last_is : MatchOption last ((x : Run) → IsSeen line start x → ⊥) (λ rest. IsLastSeen line start w rest)
  pub behind : IsAtFirst first w rested outcomes own ⊎ IsAfter line horizon first w rested outcomes own
