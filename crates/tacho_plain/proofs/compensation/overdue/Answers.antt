use Rattle.std.proofs.Common.{◌≡◌, ℕ, List, [], ◌∷◌, ◌++◌, take, subst, sym, refl, true}
use Rattle.std.specs.List.{Contains}
use Rattle.std.proofs.lemmas.List.{take_more, take_all}
use Rattle.tacho_law.specs.declared.breach.Breach.{Breach}
use Rattle.tacho_law.specs.declared.debt.Debt.{Debt}
use Rattle.tacho_law.specs.Debts.{EarlierWeek}
use Rattle.tacho_periods.proofs.KeptLemmas.{seen_before}
use Rattle.tacho_law.proofs.OverdueLemmas.{OverdueFound, overdue_none, overdue_skip, overdue_add, overdue_all}
use Rattle.tacho_plain.proofs.compensation.overdue.Goals as goal
use Rattle.tacho_plain.proofs.compensation.overdue.Goals.{then-is_overdue+in_ok-push, else-is_overdue}

pub loop-debt-init : goal.loop-debt-init
loop-debt-init c = λ line are. rw c.new-found.ensures.items (overdue_none c.args.horizon)

pub loop-debt-preserved : goal.loop-debt-preserved
loop-debt-preserved c = λ line are.
    let debts : List Debt = c.args.debts.now in
    let i : ℕ = c.loop-debt.debt-index in
    let debt : Debt = c.debt-item.result in
    let found : List Breach = c.loop-debt.found.items in
    let so_far : OverdueFound c.args.horizon (take i debts) found = c.loop-debt.invariant line are in
    let earlier : (other : Debt) → Contains (take i debts) other → EarlierWeek other debt =
    λ other in'.
    subst (λ (x : Debt). EarlierWeek other x) (sym c.debt-item.is)
    (seen_before Debt EarlierWeek (λ x. x ≡ x) debts i debt
    c.loop-debt-test.true are.are_owed.in_order other in') in
    let test = c.is_overdue.ensures in
    subst (λ (seen : List Debt). OverdueFound c.args.horizon seen c.if-is_overdue.found.items)
    (sym (take_more debts i debt c.loop-debt-test.true))
    (subst (λ (x : Debt). OverdueFound c.args.horizon (take i debts ++ x ∷ []) c.if-is_overdue.found.items)
    c.debt-item.is
    (elim c.if-is_overdue.branch [
      | then-is_overdue+in_ok-push w ↦
          let due = test.0 w.if-is_overdue.true in
          rw (w.found-is, w.in_ok-push.ensures.items)
          (overdue_add c.args.horizon (take i debts) debt found so_far earlier _
          (record {
            kind = refl;
            unpaid = due.0;
            due = due.1;
            moment = refl;
            since = w.first_minute.ensures;
            amount = refl;
          }))
      | else-is_overdue w ↦
          rw w.found-is
          (overdue_skip c.args.horizon (take i debts) debt found so_far (λ unpaid due.
          (let t : c.is_overdue.result ≡ true = test.1 (unpaid, due) in let f = w.if-is_overdue.false in cc)))
    ]))

pub returns : goal.returns
returns c = λ line are. overdue_all c.args.horizon c.args.debts.now c.loop-debt.found.items
    (subst (λ (seen : List Debt). OverdueFound c.args.horizon seen c.loop-debt.found.items)
    (take_all c.loop-debt.debt-index c.args.debts.now c.loop-debt-test.false) (c.loop-debt.invariant line are))
