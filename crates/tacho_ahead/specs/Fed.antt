-- Private to tacho_ahead: A scan that was fed a plan from the base to a minute.
use Rattle.std.specs.Prelude.{◌≡◌, ℕ, ◌+◌, ◌<◌, ◌≤◌, ◌↔◌, ◌⊎◌, List, All, Contains, Option, None, Some, false}
use Rattle.tacho_time.specs.declared.span.Activity.{Activity}
use Rattle.tacho_time.specs.declared.span.Activity.TheVariants.{Rest, Work, Drive}
use Rattle.tacho_time.specs.declared.span.Mark.{Mark}
use Rattle.tacho_time.specs.declared.span.Span.{Span}
use Rattle.tacho_time.specs.Spans.{Gives}
use Rattle.tacho_line.specs.Line.{mark_at, Holds}
use Rattle.tacho_law.specs.declared.breach.Breach.{Breach}
use Rattle.tacho_law.specs.declared.breach.Kind.{Kind}
use Rattle.tacho_law.specs.Limits.{latest}
use Rattle.tacho_law.specs.Line.{Joined, IsBase}
use Rattle.tacho_pass.specs.declared.found.Found.{Found}
use Rattle.tacho_rules.specs.declared.scan.Scan.{Scan}
use Rattle.tacho_rules.specs.Scan.{IsScanOf}
use Rattle.tacho_ahead.specs.Plans.{plan, IsReported}
use Rattle.tacho_ahead.specs.Ahead.{IsReach}

-- the scan was fed what the plan holds from the base to before the place; none of it is crew
pub record IsFedTo (s : Scan) (found : Found) (plan : List Span) (base place : ℕ) : Type 0 where
  pub monday : IsBase base
  pub parts : List Span
  pub joined : Joined parts base place
  pub single : All (λ x. x.mark.crew ≡ false) parts
  pub held : (m : ℕ) (mark : Mark) → Gives parts m mark → Holds plan m mark
  pub scanned : IsScanOf s found base parts

-- the plan holds each minute of a range with this activity, without a second driver
abbrev pub GivesAll : List Span → ℕ → ℕ → Activity → Type 0
GivesAll plan start past activity = (m : ℕ) → start ≤ m → m < past → Holds plan m (record { activity = activity; crew = false })

-- the plan holds nothing at a minute, and nothing after 2099
pub record EndsAt (plan : List Span) (end : ℕ) : Type 0 where
  pub none : mark_at plan end ≡ None
  pub within : All (λ span. span.past ≤ latest) plan

-- driving to before `past`, and then five weeks of rest
pub record GoesToRest (plan : List Span) (start past : ℕ) : Type 0 where
  pub drives : GivesAll plan start past Drive
  pub rests : GivesAll plan past (past + 50400) Rest
  pub ends : EndsAt plan (past + 50400)

-- the same, with a daily rest and a minute of work before
pub record GoesToWork (plan : List Span) (start past : ℕ) : Type 0 where
  pub drives : GivesAll plan start past Drive
  pub sleeps : GivesAll plan past (past + 660) Rest
  pub works : GivesAll plan (past + 660) (past + 661) Work
  pub rests : GivesAll plan (past + 661) (past + 51061) Rest
  pub ends : EndsAt plan (past + 51061)

-- the list has exactly the breaches of the report
abbrev pub AreReported : List Span → ℕ → List Breach → Type 0
AreReported held base found = (breach : Breach) → Contains found breach ↔ IsReported held base breach

-- what is held, with rest to before `start`, was fed; nothing is held from there on
pub record IsReady (s : Scan) (found : Found) (held : List Span) (base start : ℕ) : Type 0 where
  pub fed : IsFedTo s found held base start
  pub none : (m : ℕ) → start ≤ m → mark_at held m ≡ None
  pub within : All (λ span. span.past ≤ latest) held

-- nothing has been added
pub record HasSame (old new : Found) : Type 0 where
  pub breaches : new.breaches.items ≡ old.breaches.items
  pub debts : new.debts.items ≡ old.debts.items

-- `had` has the breaches that are reported if no minute is driven, and all that is found so far
pub record IsKnown (s : Scan) (found : Found) (had : List Breach) (held : List Span) (base start : ℕ) : Type 0 where
  pub ready : IsReady s found held base start
  pub rested : AreReported (plan held start start) base had
  pub before : (breach : Breach) → Contains found.breaches.items breach → Contains had breach

-- the list has a breach of the kind that `had` doesn't have
abbrev pub HasNew : List Breach → List Breach → Kind → Type 0
HasNew breaches had kind = (breach : Breach) × Contains breaches breach × (breach.kind ≡ kind) × ¬ (Contains had breach)

-- a rule's limit before and after driving to before until + 1 was tried: it was known; or now it is known; or it isn't known
abbrev pub IsPicked : ℕ → Kind → ℕ → List Breach → List Breach → Option ℕ → Option ℕ → Type 0
IsPicked start kind until breaches had (Some u) new = new ≡ Some u
IsPicked start kind until breaches had None None = (past : ℕ) × IsReach start kind past × ((past ≤ until) ⊎ ¬ (HasNew breaches had kind))
IsPicked start kind until breaches had None (Some u) =
    (past : ℕ) × IsReach start kind past × (until < past) × (u ≡ until) × HasNew breaches had kind
