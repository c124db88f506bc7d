use Rattle.std.proofs.Common.{◌≡◌, ◌+◌, ◌-◌, ◌*◌, ◌≤◌, arith}
use Rattle.tacho_law.specs.Weeks.{week_start}
use Rattle.tacho_law.proofs.RunsLemmas.{joined_le}
use Rattle.tacho_plain.proofs.WeekBreachesLemmas.{weeks_all}
use Rattle.tacho_plain.proofs.week_breaches.weeks.Goals as goal

pub week_of-requires-2 : goal.week_of-requires-2
week_of-requires-2 c =
    let le : c.args.base ≤ c.args.past = joined_le c.args.spans.now c.args.base c.args.past c.requires.joined in
    let from : 15780960 ≤ c.args.base = c.requires.base_is.from in
    omega arith

pub breaches_of_weeks-requires-clause-nonempty : goal.breaches_of_weeks-requires-clause-nonempty
breaches_of_weeks-requires-clause-nonempty c =
    let le : c.args.base ≤ c.args.past = joined_le c.args.spans.now c.args.base c.args.past c.requires.joined in
    omega arith

pub returns : goal.returns
returns c =
    let le : c.args.base ≤ c.args.past = joined_le c.args.spans.now c.args.base c.args.past c.requires.joined in
    let monday : c.args.base ≡ 5760 + 10080 * c.requires.base_is.week = c.requires.base_is.monday in
    let late : 15780960 ≤ c.args.base = c.requires.base_is.from in
    let from : week_start (c.number-first.result - 1 + 1) ≡ c.args.base = omega arith in
    let end : c.args.past ≤ week_start (c.number-end.result + 1) = omega arith in
    weeks_all c.args.spans.now c.args.base c.args.past
    (c.number-first.result - 1) (c.number-end.result + 1) c.requires from end
    c.in_ok-found.found.items c.put_in_order.new.found.items c.in_ok-found.ensures
    c.put_in_order.ensures.same (c.put_in_order.ensures.order c.in_ok-found.ensures.in_order)
