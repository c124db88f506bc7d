-- Going over the debts in order, and the breaches for those that are overdue.
use Rattle.std.proofs.Common.{◌≡◌, ℕ, ◌<◌, ◌≤◌, List, [], ◌∷◌, ◌++◌, None, sym, ◌∙◌, arith}
use Rattle.std.specs.List.{Contains}
use Rattle.tacho_law.specs.declared.breach.Breach.{Breach}
use Rattle.tacho_law.specs.declared.debt.Debt.{Debt}
use Rattle.tacho_law.specs.declared.breach.Kind.TheVariants.{B10}
use Rattle.tacho_law.specs.Weeks.{week_start}
use Rattle.tacho_law.specs.Debts.{EarlierWeek}
use Rattle.tacho_law.specs.Order.{Apart}
use Rattle.tacho_law.specs.SoFar.{AreCollected}
use Rattle.tacho_law.specs.Breaches.{IsOverdue}
use Rattle.tacho_law.proofs.OrderLemmas.{same_breach}
use Rattle.tacho_law.proofs.ExactlyLemmas.{OfSeen, seen_none, seen_skip, seen_add, exactly_as}

-- the breach for a debt
pub record IsBreachOf (horizon : ℕ) (debt : Debt) (breach : Breach) : Type 0 where
  pub kind : breach.kind ≡ B10
  pub unpaid : debt.paid_by ≡ None
  pub due : debt.deadline ≤ horizon
  pub moment : breach.moment ≡ debt.deadline
  pub since : breach.since ≡ week_start debt.week
  pub amount : breach.amount ≡ debt.amount

-- the breaches found for the debts seen
abbrev pub OverdueFound : ℕ → List Debt → List Breach → Type 0
OverdueFound horizon seen found = AreCollected (OfSeen (IsBreachOf horizon) seen) found

-- nothing is found before the first debt
pub overdue_none : (horizon : ℕ) → OverdueFound horizon [] []
overdue_none horizon = seen_none (IsBreachOf horizon) Apart

module _ (horizon : ℕ) (seen : List Debt) (debt : Debt)
    (found : List Breach) (r : OverdueFound horizon seen found) where
  -- a debt that is paid, or whose deadline hasn't been reached
  pub overdue_skip : (debt.paid_by ≡ None → debt.deadline ≤ horizon → ⊥)
      → OverdueFound horizon (seen ++ debt ∷ []) found
  overdue_skip none = seen_skip (IsBreachOf horizon) Apart seen found debt r (λ breach h. none h.unpaid h.due)

  -- an unpaid debt whose deadline has been reached
  pub overdue_add : ((other : Debt) → Contains seen other → EarlierWeek other debt) → (breach : Breach)
      → IsBreachOf horizon debt breach → OverdueFound horizon (seen ++ debt ∷ []) (found ++ breach ∷ [])
  overdue_add earlier breach is = seen_add (IsBreachOf horizon) Apart seen found debt breach r is
      (λ b h.
      same_breach breach b (is.kind ∙ sym h.kind) (is.moment ∙ sym h.moment)
      (is.since ∙ sym h.since) (is.amount ∙ sym h.amount))
      (λ other b in' h agree.
      (let before : other.week < debt.week = earlier other in' in
      let one : b.since ≡ week_start other.week = h.since in
      let two : breach.since ≡ week_start debt.week = is.since in
      let same : b.since ≡ breach.since = agree.since in
      omega arith))

-- after all debts, these are all breaches for overdue debts
pub overdue_all : (horizon : ℕ) (debts : List Debt) (found : List Breach)
    → OverdueFound horizon debts found → AreCollected (IsOverdue horizon debts) found
overdue_all horizon debts found =
    exactly_as (OfSeen (IsBreachOf horizon) debts) (IsOverdue horizon debts) Apart found (λ breach. (
      λ h. (
        h.of.kind,
        record {
          debt = h.item;
          owed = h.among;
          unpaid = h.of.unpaid;
          due = h.of.due;
          moment = h.of.moment;
          since = h.of.since;
          amount = h.of.amount;
        },
      ),
      λ (kind, h). record {
        item = h.debt;
        among = h.owed;
        of = record {
          kind = kind;
          unpaid = h.unpaid;
          due = h.due;
          moment = h.moment;
          since = h.since;
          amount = h.amount;
        };
      },
    ))
