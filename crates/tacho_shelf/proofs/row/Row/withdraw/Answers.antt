use borrow.Author.Count.{below_more}
use Rattle.std.proofs.Common.{◌≡◌, ◌+◌, ◌-◌, ◌≤◌, ◌∙◌, Ok, inr, refl, ap, sym, arith, rules}
use Rattle.tacho_state.specs.State.{Driver}
use Rattle.tacho_state.specs.Steps.{withdraw_from}
use Rattle.tacho_state.proofs.RangeLemmas.{number_kept}
use Rattle.tacho_shelf.specs.Shelf.{IsEntered}
use Rattle.tacho_shelf.proofs.RangeLemmas.{none_marked, one_marked, last_marked, range_refused}
use Rattle.tacho_shelf.proofs.row.Row.withdraw.Goals as goal
use Rattle.tacho_shelf.proofs.row.Row.withdraw.Goals.{else-loop-number-test, then-loop-number-test+in_default+else-number-last, else-loop-number-2-test, then-loop-number-2-test+else-number-last-2}

pub returns-in-Err : goal.returns-in-Err
returns-in-Err c =
    let refused = range_refused c.args.first c.loop-number.number c.args.last c.args.self.now c.in-Err.fault c.loop-number.auto.number
    (omega (arith, c.loop-number-test.true)) c.loop-number.invariant c.in-Err.ensures.told in
    record { told = inr refused; left = refl; number = refl; of_no_file = search rules }

pub loop-number-preserved : goal.loop-number-preserved
loop-number-preserved c =
    below_more (λ i. c.args.first ≤ i → IsEntered c.args.self.now.entries i) c.loop-number.number c.loop-number.invariant
    (λ low. c.in_default.ensures.told)

pub loop-number-2-init : goal.loop-number-2-init
loop-number-2-init c = none_marked c.args.first c.args.last c.args.self.now (elim c.loop-number-test.branch [
  | else-loop-number-test w ↦ λ i low high. c.loop-number.invariant i (omega (arith, w.loop-number-test.false, high)) low
  | then-loop-number-test+in_default+else-number-last w ↦ λ i low high.
      below_more (λ k. c.args.first ≤ k → IsEntered c.args.self.now.entries k) c.loop-number.number c.loop-number.invariant
      (λ _. w.in_default.ensures.told) i (omega (arith, high)) low
])

pub loop-number-2-preserved : goal.loop-number-2-preserved
loop-number-2-preserved c =
    one_marked c.args.first c.loop-number-2.number c.args.last c.args.self.now c.loop-number-2.self c.mark.new.self
    c.loop-number-2.auto.number c.loop-number-2.invariant c.mark.ensures

pub returns : goal.returns
returns c =
    let old = c.args.self.now in
    let told : withdraw_from c.args.first (c.args.last + 1 - c.args.first) old ≡ Ok (tt, c.loop-number-2-test.self) =
    elim c.loop-number-2-test.branch [
      | else-loop-number-2-test w ↦
          absurd (omega (arith, w.loop-number-2-test.false, c.loop-number-2.auto.number-end c.requires))
      | then-loop-number-2-test+else-number-last-2 w ↦
          last_marked c.args.first c.loop-number-2.number c.args.last old c.loop-number-2.self w.mark.new.self c.loop-number-2.invariant
          c.loop-number-2.auto.number (omega arith) (omega (arith, w.loop-number-2-test.true)) w.mark.ensures
          ∙ ap (λ (d : Driver). Ok (tt, d)) (sym w.self-is)
    ] in
    record {
      told = told;
      left = tt;
      number = number_kept (c.args.last + 1 - c.args.first) c.args.first old c.loop-number-2-test.self told;
      of_no_file = tt;
    }
