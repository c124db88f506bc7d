use Rattle.std.proofs.Common.{◌≡◌, ◌-◌, ◌≤◌, ℕ, arith, subst}
use Rattle.tacho_evidence.specs.Evidence.{AreWeekLines, IsWeekLine}
use Rattle.tacho_evidence.proofs.ChosenLemmas.{HasWeeks, weeks_push}
use Rattle.tacho_evidence.proofs.choice.append_weeks.Goals as goal

pub loop-number-preserved : goal.loop-number-preserved
loop-number-preserved c = λ line are.
    rw c.in_ok-push.ensures.items
    (weeks_push line c.args.first c.loop-number.number c.args.lines.now.items c.loop-number.lines.items
    c.line_of_week.result c.loop-number.auto.number (c.loop-number.invariant line are)
    (subst (λ (n : ℕ). IsWeekLine line n c.line_of_week.result) c.new.ensures (c.line_of_week.ensures line are)))

pub returns : goal.returns
returns c = λ line are.
    let h : HasWeeks line c.args.first c.loop-number.number c.args.lines.now.items c.loop-number.lines.items =
    c.loop-number.invariant line are in
    let low : c.args.past ≤ c.loop-number.number = c.loop-number-test.false in
    let high : c.loop-number.number ≤ c.args.past = c.loop-number.auto.number-end c.requires.range in
    let same : c.loop-number.number - c.args.first ≡ c.args.past - c.args.first = omega (arith, low, high) in
    (h.weeks, subst (λ (n : ℕ). AreWeekLines line c.args.first n h.weeks) same h.are, h.is)
