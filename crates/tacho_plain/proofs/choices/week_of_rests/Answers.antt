use Rattle.std.proofs.Common.{◌≡◌, ℕ, ◌+◌, ◌<◌, arith}
use Rattle.std.specs.Prelude.{◌↔◌}
use Rattle.std.specs.List.{Contains}
use Rattle.std.proofs.lemmas.List.Elements.{All-contains}
use Rattle.tacho_law.specs.declared.run.Run.{Run}
use Rattle.tacho_law.specs.Weeks.{week_start}
use Rattle.tacho_plain.proofs.WeeksOfRestsLemmas.{seen_week_none, seen_week_more, seen_week_all}
use Rattle.tacho_plain.proofs.choices.week_of_rests.Goals as goal

pub loop-rest-init : goal.loop-rest-init
loop-rest-init c = rw c.none-week.ensures (seen_week_none c.touching-rests.result.now c.args.number)

pub loop-rest-preserved : goal.loop-rest-preserved
loop-rest-preserved c =
    rw c.with-week.ensures
    (seen_week_more c.touching-rests.result.now c.args.number c.loop-rest.rest-index c.loop-rest-test.true
    c.loop-rest.week c.touching-rests.ensures.in_order
    (λ rest in'. All-contains (λ (x : Run). x.start < x.past) c.args.weekly.now rest c.requires.in_time.some
    ((c.touching-rests.ensures.each rest).0 in').0)
    c.loop-rest.invariant)

pub returns : goal.returns
returns c = λ line are is.
    (let w : ℕ = c.args.number in
    let from : c.number-start.result ≡ week_start w = omega arith in
    let to : c.number-end.result ≡ week_start (w + 1) = omega arith in
    let each : (rest : Run) → Contains c.touching-rests.result.now rest
    ↔ (Contains c.args.weekly.now rest × (rest.start < week_start (w + 1)) × (week_start w < rest.past)) =
    rw (from, to) at c.touching-rests.ensures.each in
    seen_week_all c.touching-rests.result.now w line c.args.weekly.now c.loop-rest.rest-index c.loop-rest.week
    are is each c.loop-rest-test.false c.loop-rest.invariant)
