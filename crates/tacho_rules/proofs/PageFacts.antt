-- The examples of docs/RULES.md, checked against the definitions: with another value here, this file is refused.
use Rattle.std.proofs.Common.{◌≡◌, ◌-◌, ◌+◌, List, [], ◌∷◌, None, true, false, refl, ap, arith}
use Rattle.tacho_time.specs.declared.span.Activity.TheVariants.{Rest, Work, Drive}
use Rattle.tacho_time.specs.declared.span.Span.{Span}
use Rattle.tacho_law.specs.declared.breach.Breach.{Breach}
use Rattle.tacho_law.specs.declared.debt.Debt.{Debt}
use Rattle.tacho_law.specs.declared.breach.Kind.TheVariants.{B10}
use Rattle.tacho_law.specs.Debts.{minutes_before}
use Rattle.tacho_law.proofs.PageFacts.{at, rest_between, one_member}
use Rattle.tacho_law.specs.Breaches.{IsOverdue}
use Rattle.tacho_rules.specs.Report.{examined_line}

-- ---- what is examined

-- work up to the base, rest, driving from 06:00 to 10:31, and then crew driving
abbrev pub held : List Span
held = record { start = at 4 0 - 60; past = at 4 0; mark = record { activity = Work; crew = false } }
    ∷ record { start = at 4 0; past = at 4 360; mark = record { activity = Rest; crew = false } }
    ∷ record { start = at 4 360; past = at 4 631; mark = record { activity = Drive; crew = false } }
    ∷ record { start = at 4 631; past = at 4 720; mark = record { activity = Drive; crew = true } }
    ∷ []

-- the last minute before the base is at rest, although work is held there
pub rest_before_the_base : examined_line held (at 4 0) (at 4 631) (at 4 0 - 1) ≡ Rest
rest_before_the_base = refl

-- from the base to the horizon, each minute is as held
pub drives_at_six : examined_line held (at 4 0) (at 4 631) (at 4 360) ≡ Drive
drives_at_six = refl

pub drives_to_the_horizon : examined_line held (at 4 0) (at 4 631) (at 4 630) ≡ Drive
drives_to_the_horizon = refl

-- the horizon is at rest, although driving is held there
pub rest_from_the_horizon : examined_line held (at 4 0) (at 4 631) (at 4 631) ≡ Rest
rest_from_the_horizon = refl

-- minutes that aren't held are at rest
pub rest_where_nothing_is_held : examined_line held (at 4 0) (at 5 0) (at 4 720) ≡ Rest
rest_where_nothing_is_held = refl

-- ---- weekly rests

-- the rest from the 26th keeps 540, and has room for the debt of 1,140 of the third week
pub room_for_1140 : 540 + 1140 ≡ minutes_before (at 32 0) (rest_between (at 26 720) (at 27 960))
room_for_1140 = refl

-- B10: a debt of 1,260 without a payer
abbrev pub unpaid : Debt
unpaid = record { week = 2826; amount = 1260; deadline = at 32 0; paid_by = None }

-- it is a breach on 1 April at 00:00, since the 4th at 00:00, of 1,260
pub unpaid_is_overdue : IsOverdue (at 32 0) (unpaid ∷ [])
    (record { kind = B10; moment = at 32 0; since = at 4 0; amount = 1260 })
unpaid_is_overdue = (
  refl,
  record {
    debt = unpaid;
    owed = (0, omega arith, refl);
    unpaid = refl;
    due = omega arith;
    moment = refl;
    since = refl;
    amount = refl;
  },
)

-- a minute earlier there is no breach
pub unpaid_is_not_yet : (breach : Breach) → ¬ (IsOverdue (at 31 1439) (unpaid ∷ []) breach)
unpaid_is_not_yet breach (kind, is) =
    let e : at 32 0 ≡ is.debt.deadline = ap (λ (debt : Debt). debt.deadline) (one_member unpaid is.debt is.owed) in
    omega arith
