-- Private to tacho_days: What the pass over daily rests represents (Regulation (EC) No 561/2006, Articles 4(g), 8(2) and 8(4)).
use Rattle.std.specs.Prelude.{◌≡◌, ℕ, ◌<◌, ◌≤◌, ◌⊎◌, ◌↔◌, IsTrue, List, Contains, []}
use Rattle.tacho_time.specs.declared.span.Span.{Span}
use Rattle.tacho_law.specs.declared.run.Run.{Run}
use Rattle.tacho_law.specs.declared.days.DutyDay.{DutyDay}
use Rattle.tacho_law.specs.declared.breach.Breach.{Breach}
use Rattle.tacho_law.specs.declared.breach.Kind.TheVariants.{B2, B3}
use Rattle.tacho_law.specs.declared.debt.Debt.{Debt}
use Rattle.tacho_law.specs.Line.{Line, line_of, Joined}
use Rattle.tacho_law.specs.Runs.{minutes_of}
use Rattle.tacho_law.specs.SoFar.{Reached, AreCollected}
use Rattle.tacho_law.specs.Days.{IsReduced, EarlierDay}
use Rattle.tacho_law.specs.Exactly.{HasCount}
use Rattle.tacho_law.specs.Breaches.{IsB2, IsB3}
use Rattle.tacho_law.specs.Limits.{first_part_of_daily_rest, daily_rest, weekly_rest}
use Rattle.tacho_pass.specs.Heard.{Continues}
use Rattle.tacho_days.specs.declared.daily_rest.RestingDay.{RestingDay}
use Rattle.tacho_days.specs.DutyDays.{IsLastOf, IsBeforeFirst}

-- there was a daily rest, and a weekly rest
pub record IsAfterRests (runs : List Run) (d : RestingDay) : Type 0 where
  pub daily : IsLastOf daily_rest runs d.from
  pub weekly : IsLastOf weekly_rest runs d.weekly

-- Article 4(g): there is a rest of three hours or more from a minute on
pub record HasPart (runs : List Run) (from : ℕ) : Type 0 where
  pub part : Run
  pub among : Contains runs part
  pub enough : first_part_of_daily_rest ≤ minutes_of part
  pub behind : from ≤ part.start

-- Article 8(4): a reduced daily rest after a minute
pub record IsReducedSince (line : Line) (runs : List Run) (since : ℕ) (day : DutyDay) : Type 0 where
  pub reduced : IsReduced line day
  pub seen : Contains runs day.rest
  pub behind : since < day.rest.start

-- Article 8(2): a breach of a daily rest that is among the runs
pub record IsB2Seen (line : Line) (runs : List Run) (breach : Breach) : Type 0 where
  pub kind : breach.kind ≡ B2
  pub is : IsB2 line breach
  pub seen : Contains runs is.day.rest

-- Article 8(4): likewise
pub record IsB3Seen (line : Line) (runs : List Run) (breach : Breach) : Type 0 where
  pub kind : breach.kind ≡ B3
  pub is : IsB3 line breach
  pub seen : Contains runs is.day.rest

-- either of these breaches
abbrev pub IsRestSeen : Line → List Run → Breach → Type 0
IsRestSeen line runs breach = IsB2Seen line runs breach ⊎ IsB3Seen line runs breach

-- for a line at rest from `start` to `place`: the daily rests that ended before `start`; the first one is a weekly rest
pub record IsResting (line : Line) (start place : ℕ) (d : RestingDay) (own : List Breach) : Type 0 where
  pub runs : List Run
  pub reached : Reached line runs start place
  pub last : IsBeforeFirst weekly_rest runs start place ⊎ IsAfterRests runs d
  pub within : d.from ≤ start
  pub part : IsTrue d.part ↔ HasPart runs d.from
  pub how_many : HasCount (IsReducedSince line runs d.weekly) EarlierDay d.number
  pub found : AreCollected (IsRestSeen line runs) own

-- the state represents the spans: the above holds for each line that continues them
pub record DailyRestsStand (start place : ℕ) (d : RestingDay) (own : List Breach) (owed : List Debt) (base : ℕ)
    (spans : List Span) : Type 0 where
  pub none : owed ≡ []
  pub joined : Joined spans base place
  pub kept : (line : Line) → Continues line spans place → IsResting line start place d own

-- Articles 8(2) and 8(4): a breach of the rules on daily rests
abbrev pub IsDailyRestBreach : Line → Breach → Type 0
IsDailyRestBreach line breach = ((breach.kind ≡ B2) × IsB2 line breach) ⊎ ((breach.kind ≡ B3) × IsB3 line breach)

-- exactly these breaches are found, and no debts
pub record DailyRestsDefined (own : List Breach) (owed : List Debt) (base horizon : ℕ) (spans : List Span) : Type 0 where
  pub none : owed ≡ []
  pub breaches : AreCollected (IsDailyRestBreach (line_of spans)) own
