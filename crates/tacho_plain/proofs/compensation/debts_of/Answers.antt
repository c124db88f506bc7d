use Rattle.std.proofs.Common.{◌≡◌, ◌+◌, ◌<◌, ℕ, List, get_or, take, subst, arith}
use Rattle.std.specs.Prelude.{MatchOption}
use Rattle.std.proofs.lemmas.List.{take_more, take_all}
use Rattle.std.proofs.lemmas.List.Elements.{Contains-get_or}
use Rattle.tacho_law.specs.declared.run.Run.{Run}
use Rattle.tacho_law.specs.declared.debt.Debt.{Debt}
use Rattle.tacho_law.specs.Runs.{IsRestRun, Before, minutes_of}
use Rattle.tacho_law.specs.Weeks.{week_start}
use Rattle.tacho_law.specs.Debts.{CanPay, Pays}
use Rattle.tacho_periods.proofs.RunsLemmas.{no_run}
use Rattle.tacho_periods.proofs.KeptLemmas.{seen_before}
use Rattle.tacho_plain.specs.RestBreaches.{IsDebtOf}
use Rattle.tacho_plain.proofs.CompensationLemmas.{AreSettled, settled_none, settled_skip}
use Rattle.tacho_plain.proofs.CompensationLemmas.{settled_add, settled_all, settled_as, owes_lacks}
use Rattle.tacho_plain.proofs.compensation.debts_of.Goals as goal
use Rattle.tacho_plain.proofs.compensation.debts_of.Goals.{in-Some+in_ok-push, in_default}

pub loop-main-init : goal.loop-main-init
loop-main-init c = λ line are of_weeks last. rw c.new-debts.ensures.items (settled_none line c.args.horizon)

pub payer_of-debt-requires-clause-nonempty : goal.payer_of-debt-requires-clause-nonempty
payer_of-debt-requires-clause-nonempty c =
    let (line, of_weeks, last) = c.requires.line in
    let main : Run = get_or c.args.weekly.now c.loop-main.main-index no_run in
    let rests : IsRestRun line main =
    ((of_weeks.each main).0
    (Contains-get_or c.args.weekly.now c.loop-main.main-index no_run c.loop-main-test.true)).rests in
    let of : IsDebtOf line c.args.horizon main c.in-Some.debt = c.in-Some.ensures line of_weeks last rests in
    of.owes.some

pub payer_of-debt-requires-clause-range : goal.payer_of-debt-requires-clause-range
payer_of-debt-requires-clause-range c =
    let (line, of_weeks, last) = c.requires.line in
    let main : Run = get_or c.args.weekly.now c.loop-main.main-index no_run in
    let rests : IsRestRun line main =
    ((of_weeks.each main).0
    (Contains-get_or c.args.weekly.now c.loop-main.main-index no_run c.loop-main-test.true)).rests in
    let of : IsDebtOf line c.args.horizon main c.in-Some.debt = c.in-Some.ensures line of_weeks last rests in
    let lacks : minutes_of main + c.in-Some.debt.amount ≡ 2700 =
    owes_lacks line c.args.weekly.now of_weeks c.args.horizon
    c.in-Some.debt.week c.in-Some.debt.amount main of.is of.owes in
    let below : main.start < week_start (c.in-Some.debt.week + 1) = of.is.candidate.week.1 in
    let deadline : c.in-Some.debt.deadline ≡ week_start (c.in-Some.debt.week + 4) = of.deadline in
    omega arith

pub loop-main-preserved : goal.loop-main-preserved
loop-main-preserved c = λ line are of_weeks last.
    let weekly : List Run = c.args.weekly.now in
    let i : ℕ = c.loop-main.main-index in
    let main : Run = get_or weekly i no_run in
    let debts : List Debt = c.loop-main.debts.items in
    let rests : IsRestRun line main =
    ((of_weeks.each main).0 (Contains-get_or weekly i no_run c.loop-main-test.true)).rests in
    let so_far : AreSettled line c.args.horizon (take i weekly) debts = c.loop-main.invariant line are of_weeks last in
    rw (take_more weekly i no_run c.loop-main-test.true)
    (elim c.match-debt_of.branch [
      | in-Some+in_ok-push w ↦
          let debt : Debt = w.in-Some.debt in
          let of : IsDebtOf line c.args.horizon main debt = w.in-Some.ensures line of_weeks last rests in
          let of' : IsDebtOf line c.args.horizon main (record debt { paid_by = w.payer_of-debt.result }) =
          record { is = of.is; owes = of.owes; deadline = of.deadline } in
          let found : MatchOption w.payer_of-debt.result ((run : Run) → CanPay line c.args.horizon debts debt run → ⊥)
          (λ start. Pays line c.args.horizon debts debt start) =
          rw w.deref.ensures.value at (w.payer_of-debt.ensures line are of_weeks of.is) in
          rw (w.debts-is, w.in_ok-push.ensures.items)
          (settled_add line c.args.horizon weekly of_weeks (take i weekly) debts main so_far
          (seen_before Run Before (λ x. IsRestRun line x) weekly i no_run c.loop-main-test.true of_weeks.in_order) rests
          (record debt { paid_by = w.payer_of-debt.result }) of'
          (settled_as line c.args.horizon debts debt w.payer_of-debt.result found))
      | in_default w ↦
          rw w.debts-is
          (settled_skip line c.args.horizon weekly of_weeks (take i weekly)
          debts main so_far (w.in_default.ensures line of_weeks last rests))
    ])

pub returns : goal.returns
returns c = λ line are of_weeks last.
    settled_all line c.args.horizon c.args.weekly.now of_weeks c.loop-main.debts.items
    (subst (λ (seen : List Run). AreSettled line c.args.horizon seen c.loop-main.debts.items)
    (take_all c.loop-main.main-index c.args.weekly.now c.loop-main-test.false)
    (c.loop-main.invariant line are of_weeks last))
