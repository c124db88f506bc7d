-- Private to tacho_rests: Weekly rests that start late (Regulation (EC) No 561/2006, Article 8(6), second subparagraph), rest by rest: the
-- state of the rule, and what it represents.
use Rattle.std.specs.Prelude.{◌≡◌, ℕ, ◌+◌, ◌-◌, ◌<◌, ◌≤◌, nat_lt, nat_le, List, [], Option, None, Some, MatchOption}
use Rattle.std.specs.Prelude.{if◌then◌else◌}
use Rattle.tacho_time.specs.declared.span.Span.{Span}
use Rattle.tacho_law.specs.declared.run.Run.{Run}
use Rattle.tacho_law.specs.declared.breach.Breach.{Breach}
use Rattle.tacho_law.specs.declared.debt.Debt.{Debt}
use Rattle.tacho_law.specs.declared.breach.Kind.TheVariants.{B8}
use Rattle.tacho_law.specs.Line.{line_of, Joined, Line}
use Rattle.tacho_law.specs.Limits.{first_week, weekly_rest, six_days}
use Rattle.tacho_law.specs.Runs.{AreRestRuns, IsRestOf, minutes_of}
use Rattle.tacho_law.specs.SoFar.{AreCollected}
use Rattle.tacho_law.specs.Breaches.{IsB8, IsLate}
use Rattle.tacho_pass.specs.Heard.{Continues, IsHeard}
use Rattle.tacho_rests.specs.declared.late_rest.Late.{Late}

-- Article 8(6): the breach of a weekly rest that starts later than six days after the end of the last one
abbrev pub late_of : Option ℕ → Run → Option Breach
late_of None run = None
late_of (Some end) run =
    if nat_lt (end + six_days) run.start
    then Some (record { kind = B8; moment = end + six_days; since = end; amount = run.start - (end + six_days) })
    else None

-- a breach of a weekly rest that starts before a minute
pub record IsLateBefore (line : Line) (start : ℕ) (breach : Breach) : Type 0 where
  pub kind : breach.kind ≡ B8
  pub is : IsB8 line breach
  pub before : is.later.start < start

-- the last weekly rest that starts before a minute, and its end
pub record IsLastRest (line : Line) (start end : ℕ) : Type 0 where
  pub rest : Run
  pub is : IsRestOf line weekly_rest rest
  pub before : rest.start < start
  pub ends : rest.past ≡ end
  pub last : (other : Run) → IsRestOf line weekly_rest other → other.start < start → other.start ≤ rest.start

-- the end of the last weekly rest that starts before a minute, and the breaches of all weekly rests that do
pub record IsLateSoFar (line : Line) (start : ℕ) (end : Option ℕ) (own : List Breach) : Type 0 where
  pub last : MatchOption end
      ((other : Run) → IsRestOf line weekly_rest other → other.start < start → ⊥)
      (λ p. IsLastRest line start p)
  pub found : AreCollected (λ breach. IsLateBefore line start breach) own

-- the end of the last weekly rest, after a run
abbrev pub end_after : Option ℕ → Run → Option ℕ
end_after end run = if nat_le weekly_rest (minutes_of run) then Some run.past else end

-- the breach of a run, if it is a weekly rest that starts late
abbrev pub late_run : Option ℕ → Run → Option Breach
late_run end run = if nat_le weekly_rest (minutes_of run) then late_of end run else None

-- for a line known up to a minute: the open rest run, and the weekly rests that have ended
pub record IsLateUpTo (line : Line) (start place : ℕ) (end : Option ℕ) (own : List Breach) : Type 0 where
  pub e : ℕ
  pub low : first_week ≤ e
  pub heard : IsHeard line start place e
  pub so_far : IsLateSoFar line start end own

-- the state represents the spans: the above holds for each line that continues them
pub record LateStands (late : Late) (start place : ℕ) (own : List Breach) (owed : List Debt) (base : ℕ)
    (spans : List Span) : Type 0 where
  pub none : owed ≡ []
  pub joined : Joined spans base place
  pub kept : (line : Line) (runs : List Run)
      → AreRestRuns line runs → Continues line spans place → IsLateUpTo line start place late.end own

-- exactly the breaches of late weekly rests are found, and no debts
pub record LateDefined (own : List Breach) (owed : List Debt) (base horizon : ℕ) (spans : List Span) : Type 0 where
  pub none : owed ≡ []
  pub breaches : AreCollected (λ breach. IsLate (line_of spans) breach) own
