-- Trusted: Until when a driver can drive on before a rule on driving and rest hours is broken (Regulation (EC) No 561/2006, Articles 6, 7 and
-- 8). No Article prescribes this: it is a forecast of reports.
use Rattle.std.specs.Prelude.{◌≡◌, ℕ, ◌+◌, ◌<◌, ◌≤◌, List, Option, None, Some}
use Rattle.tacho_time.specs.declared.span.Span.{Span}
use Rattle.tacho_law.specs.declared.breach.Breach.{Breach}
use Rattle.tacho_law.specs.declared.breach.Kind.{Kind}
use Rattle.tacho_law.specs.declared.breach.Kind.TheVariants.{B1, B2, B3, B4, B5, B6, B7, B8, B9, B10}
use Rattle.tacho_law.specs.Weeks.{week_start, IsInWeek}
use Rattle.tacho_ahead.specs.declared.limits.Limits.{Limits}
use Rattle.tacho_ahead.specs.Plans.{plan, plan_for, IsReported}

-- the first minute of the n-th week after that of a minute
abbrev pub IsWeekEnd : ℕ → ℕ → ℕ → Type 0
IsWeekEnd n m past = (week : ℕ) × IsInWeek week m × (past ≡ week_start (week + n))

-- up to where driving is looked at: for a day; up to the end of the week; for a week; up to the end of the next week. B10 has no limit.
abbrev pub IsReach : ℕ → Kind → ℕ → Type 0
IsReach start B1 past = past ≡ start + 1440
IsReach start B2 past = past ≡ start + 1440
IsReach start B3 past = past ≡ start + 1440
IsReach start B4 past = past ≡ start + 1440
IsReach start B5 past = past ≡ start + 1440
IsReach start B6 past = IsWeekEnd 1 start past
IsReach start B7 past = IsWeekEnd 1 start past
IsReach start B8 past = past ≡ start + 10080
IsReach start B9 past = IsWeekEnd 2 start past
IsReach start B10 past = past ≡ start

-- a breach that isn't reported if no minute is driven, and is if driving goes on to before x
pub record IsNew (held : List Span) (base start : ℕ) (kind : Kind) (x : ℕ) (breach : Breach) : Type 0 where
  pub kind_is : breach.kind ≡ kind
  pub reported : IsReported (plan_for kind held start x) base breach
  pub new : ¬ (IsReported (plan held start start) base breach)

-- driving to before x breaks the rule
abbrev pub Breaks : List Span → ℕ → ℕ → Kind → ℕ → Type 0
Breaks held base start kind x = (breach : Breach) × IsNew held base start kind x breach

-- driving up to any minute in the range breaks nothing
abbrev pub BreaksNone : List Span → ℕ → ℕ → Kind → ℕ → Type 0
BreaksNone held base start kind past = (x : ℕ) → start < x → x ≤ past → ¬ (Breaks held base start kind x)

-- the minute is within reach
abbrev pub IsWithinReach : ℕ → Kind → ℕ → Type 0
IsWithinReach start kind until = (past : ℕ) × IsReach start kind past × (until < past)

-- driving can go on until this minute, and one minute more breaks the rule; or nothing is broken within reach
abbrev pub IsLimit : List Span → ℕ → ℕ → Kind → Option ℕ → Type 0
IsLimit held base start kind None = (past : ℕ) × IsReach start kind past × BreaksNone held base start kind past
IsLimit held base start kind (Some until) = (start ≤ until) × IsWithinReach start kind until
    × BreaksNone held base start kind until × Breaks held base start kind (until + 1)

-- the limits of all rules
abbrev pub limit_of : Limits → Kind → Option ℕ
limit_of limits B1 = limits.breaks
limit_of limits B2 = limits.daily_rest
limit_of limits B3 = limits.reduced_rest
limit_of limits B4 = limits.extended_day
limit_of limits B5 = limits.third_day
limit_of limits B6 = limits.week
limit_of limits B7 = limits.two_weeks
limit_of limits B8 = limits.late_rest
limit_of limits B9 = limits.missing_rest
limit_of limits B10 = None
