use Rattle.std.proofs.Common.{◌≡◌, ◌∙◌, ◌+◌, ◌*◌, arith}
use Rattle.tacho_law.specs.Weeks.{week_start}
use Rattle.tacho_evidence.proofs.ChosenLemmas.{week_whole, whole_week}
use Rattle.tacho_evidence.proofs.choice.line_of_week.Goals as goal

pub returns-then-contains_range : goal.returns-then-contains_range
returns-then-contains_range c = λ line are.
    let (run, among, early, late) = c.contains_range.ensures.0 c.if-contains_range.true in
    let monday : c.number-monday.result ≡ week_start c.args.week = c.number-monday.ensures.value ∙ c.first_minute.ensures in
    let next : c.number-next.result ≡ 5760 + 10080 * c.next_week.result =
    c.number-next.ensures.value ∙ c.first_minute-2.ensures in
    let after : c.next_week.result ≡ c.args.week + 1 = c.next_week.ensures in (
      monday,
      whole_week line c.args.weekly.now are c.args.week
          (run, among, omega (arith, early, monday), omega (arith, late, next, after)),
    )

pub returns-else-contains_range : goal.returns-else-contains_range
returns-else-contains_range c = λ line are.
    let monday : c.number-monday.result ≡ week_start c.args.week = c.number-monday.ensures.value ∙ c.first_minute.ensures in
    let next : c.number-next.result ≡ 5760 + 10080 * c.next_week.result =
    c.number-next.ensures.value ∙ c.first_minute-2.ensures in
    let after : c.next_week.result ≡ c.args.week + 1 = c.next_week.ensures in (
      monday,
      λ whole.
          let (run, among, early, late) = week_whole line c.args.weekly.now are c.args.week c.requires.in_range whole in
          let e = c.contains_range.ensures.1
          (run, among, omega (arith, early, monday), omega (arith, late, next, after)) in
          let f = c.if-contains_range.false in
          cc,
    )
