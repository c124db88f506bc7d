-- Trusted: A forecast for a driver (Regulation (EC) No 561/2006, Articles 6, 7 and 8): what is used, which breaches come even if nothing is
-- driven, which debts are open, and until when driving can go on by each rule. No Article prescribes this.
use Rattle.std.specs.Prelude.{◌≡◌, ℕ, ◌&&◌, nat_lt, List, Bool, true, false, filter}
use Rattle.std.specs.Option.{option_map_or}
use Rattle.tacho_time.specs.declared.span.Span.{Span}
use Rattle.tacho_line.specs.declared.horizon.Horizon.{Horizon}
use Rattle.tacho_law.specs.declared.breach.Breach.{Breach}
use Rattle.tacho_law.specs.declared.breach.Kind.{Kind}
use Rattle.tacho_law.specs.declared.debt.Debt.{Debt}
use Rattle.tacho_law.specs.Order.{AreBreaches}
use Rattle.tacho_rules.specs.Report.{IsReport}
use Rattle.tacho_ahead.specs.declared.limits.Limits.{Limits}
use Rattle.tacho_ahead.specs.declared.used.Used.{Used}
use Rattle.tacho_ahead.specs.Plans.{rested, plan, IsOpen, IsReported}
use Rattle.tacho_ahead.specs.Ahead.{IsLimit, limit_of}
use Rattle.tacho_ahead.specs.Used.{IsUsed}

-- the report of what is held lacks the breach, and that of five weeks of rest from `start` has it
pub record IsComing (held : List Span) (base horizon start : ℕ) (breach : Breach) : Type 0 where
  pub reported : IsReported (plan (rested held horizon start) start start) base breach
  pub new : ¬ (IsReported held base breach)

-- the breaches that come even if nothing is driven, in the order of a report
abbrev pub AreComing : List Span → ℕ → ℕ → ℕ → List Breach → Type 0
AreComing held base horizon start coming = AreBreaches (IsComing held base horizon start) coming

-- a debt that isn't paid, with a deadline after `start`
abbrev pub is_open_debt : ℕ → Debt → Bool
is_open_debt start debt = option_map_or (λ paid. false) debt.paid_by true && nat_lt start debt.deadline

-- the open debts, by week: those of the report of what is held, if rest follows up to `start`
pub record AreOpenDebts (held : List Span) (base start : ℕ) (left : List Debt) : Type 0 where
  pub horizon : Horizon
  pub found : List Breach
  pub debts : List Debt
  pub report : IsReport held base horizon found debts
  pub are : left ≡ filter (is_open_debt start) debts

-- a forecast from `start` on
pub record IsOutlook (held : List Span) (base start : ℕ) (limits : Limits) (used : Used) (coming : List Breach) (debts : List Debt)
    : Type 0 where
  pub is_open : IsOpen held base start
  pub are_limits : (kind : Kind) → IsLimit (rested held is_open.horizon.minute start) base start kind (limit_of limits kind)
  pub is_used : IsUsed (rested held is_open.horizon.minute start) base start used
  pub are_coming : AreComing held base is_open.horizon.minute start coming
  pub are_debts : AreOpenDebts (rested held is_open.horizon.minute start) base start debts
