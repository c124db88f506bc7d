use Rattle.std.proofs.Common.{◌≡◌, ◌≤◌, ◌<◌, ◌+◌, ◌-◌, ℕ, subst, sym, arith, true}
use Rattle.tacho_law.specs.Runs.{minutes_of}
use Rattle.tacho_law.specs.Weeks.{IsInWeek, week_start}
use Rattle.tacho_law.specs.Debts.{IsMainRest}
use Rattle.tacho_law.proofs.MainRestLemmas.{one_week}
use Rattle.tacho_periods.proofs.MainRestLemmas.{main_in}
use Rattle.tacho_plain.proofs.CompensationLemmas.{owes_lacks, last_only}
use Rattle.tacho_plain.proofs.compensation.debt_of.Goals as goal
use Rattle.tacho_plain.proofs.compensation.debt_of.Goals.{
  then-minutes-ge-REGULAR_WEEKLY_REST-via-then-minutes-ge-REGULAR_WEEKLY_REST,
  then-minutes-ge-REGULAR_WEEKLY_REST-via-else-minutes-ge-REGULAR_WEEKLY_REST+then-not-is_main,
}

pub returns-then-minutes-ge-REGULAR_WEEKLY_REST : goal.returns-then-minutes-ge-REGULAR_WEEKLY_REST
returns-then-minutes-ge-REGULAR_WEEKLY_REST c = λ line are last rests w amount is owes.
    let lacks : minutes_of c.args.rest + amount ≡ 2700 =
    owes_lacks line c.args.weekly.now are c.args.horizon w amount c.args.rest is owes in
    let some : 0 < amount = owes.some in
    elim c.then-minutes-ge-REGULAR_WEEKLY_REST.branch [
      | then-minutes-ge-REGULAR_WEEKLY_REST-via-then-minutes-ge-REGULAR_WEEKLY_REST x ↦ (
          let enough : 2700 ≤ c.args.rest.past - c.args.rest.start = x.if-minutes-ge-REGULAR_WEEKLY_REST.true in
          omega arith)
      | then-minutes-ge-REGULAR_WEEKLY_REST-via-else-minutes-ge-REGULAR_WEEKLY_REST+then-not-is_main x ↦
          (
          let t : x.is_main.result ≡ true = (x.is_main.ensures.main line are rests).1 (w, is) in
          let f = x.if-not-is_main.true in
          cc)
    ]

pub returns-then-last-number : goal.returns-then-last-number
returns-then-last-number c = λ line are last rests w amount is owes.
    let week : IsInWeek c.week_of.result c.args.rest.start = (omega arith, omega arith) in
    let same : w ≡ c.week_of.result = one_week w c.week_of.result c.args.rest.start is.candidate.week week in
    let one : owes.last.start ≡ c.args.last.start =
    last_only line c.args.last owes.last last owes.last_run owes.no_end in
    let ended : week_start (w + 1) ≤ owes.last.start = owes.ended in
    let early : c.args.last.start < c.number.result = c.if-last-number.true in
    omega arith

pub returns : goal.returns
returns c = λ line are last rests.
    let week : IsInWeek c.week_of.result c.args.rest.start = (omega arith, omega arith) in
    let number : c.new-3.result ≡ c.week_of.result = omega arith in
    let (w, main) = (c.is_main.ensures.main line are rests).0 c.if-not-is_main.false in
    let is : IsMainRest line c.args.horizon c.new-3.result c.args.rest =
    subst (λ (v : ℕ). IsMainRest line c.args.horizon v c.args.rest) (sym number)
    (main_in line c.args.weekly.now are c.args.horizon c.args.rest rests w c.week_of.result main week) in
    let short : c.args.rest.past - c.args.rest.start < 2700 = c.if-minutes-ge-REGULAR_WEEKLY_REST.false in
    record {
      is = is;
      owes = record {
        main = c.args.rest;
        last = c.args.last;
        is = is;
        some = omega arith;
        lacks = omega arith;
        last_run = last.rests;
        no_end = last.no_end;
        ended = omega arith;
      };
      deadline = omega arith;
    }
