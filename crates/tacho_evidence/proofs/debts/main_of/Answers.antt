use Rattle.std.proofs.Common.{◌≡◌, ◌+◌, ◌≤◌, ◌<◌, ◌-◌, ℕ, List, get_or, arith, true}
use Rattle.std.proofs.lemmas.List.Elements.{All-contains, Contains-get_or}
use Rattle.tacho_law.specs.declared.run.Run.{Run}
use Rattle.tacho_law.specs.Debts.{minutes_before, IsMainRest}
use Rattle.tacho_law.specs.Runs.{IsRestRun}
use Rattle.tacho_law.specs.Weeks.{week_start}
use Rattle.tacho_periods.proofs.MainRestLemmas.{all_more, all_seen, known_most, main_in}
use Rattle.tacho_periods.proofs.RunsLemmas.{no_run}
use Rattle.tacho_evidence.proofs.debts.main_of.Goals as goal
use Rattle.tacho_evidence.proofs.debts.main_of.Goals.{
  else-start-rest-via-then-start-rest+else-is_main,
  else-start-rest-via-else-start-rest,
}

pub is_main-requires-clause-in_range : goal.is_main-requires-clause-in_range
is_main-requires-clause-in_range c =
    let items : List Run = c.touching-rest-items.result.now in
    let x : Run = get_or items c.loop-rest.rest-index no_run in
    All-contains (λ (run : Run). run.start ≤ 68374080) c.args.weekly.now x c.requires.in_time.early
    ((c.touching-rest-items.ensures.each x).0
    (Contains-get_or items c.loop-rest.rest-index no_run c.loop-rest-test.true)).0

pub returns-then-is_main : goal.returns-then-is_main
returns-then-is_main c = λ line are.
    let items : List Run = c.touching-rest-items.result.now in
    let i : ℕ = c.loop-rest.rest-index in
    let x : Run = get_or items i no_run in
    let among = (c.touching-rest-items.ensures.each x).0 (Contains-get_or items i no_run c.loop-rest-test.true) in
    let rests : IsRestRun line x = ((are.each x).0 among.0).rests in
    let main = (c.is_main.ensures.main line are rests).0 c.if-is_main.true in
    let from : c.number-start.result ≤ x.start = c.if-start-rest.true in
    let before : x.start < c.number-end.result = among.1 in
    main_in line c.args.weekly.now are c.args.horizon x rests main.0 c.args.week main.1
    (omega (arith, from), omega (arith, before))

pub loop-rest-preserved : goal.loop-rest-preserved
loop-rest-preserved c = λ line are.
    let items : List Run = c.touching-rest-items.result.now in
    let i : ℕ = c.loop-rest.rest-index in
    let x : Run = get_or items i no_run in
    let among = (c.touching-rest-items.ensures.each x).0 (Contains-get_or items i no_run c.loop-rest-test.true) in
    let rests : IsRestRun line x = ((are.each x).0 among.0).rests in
    all_more (λ (run : Run). IsMainRest line c.args.horizon c.args.week run → ⊥) items i no_run c.loop-rest-test.true
    (c.loop-rest.invariant line are) (λ main.
    elim c.else-start-rest.branch [
      | else-start-rest-via-then-start-rest+else-is_main w ↦
          let t : w.is_main.result ≡ true = (w.is_main.ensures.main line are rests).1 (c.args.week, main) in
          let f = w.if-is_main.false in
          cc
      | else-start-rest-via-else-start-rest w ↦
          let from : week_start c.args.week ≤ x.start = main.candidate.week.0 in
          let late : x.start < c.number-start.result = w.if-start-rest.false in
          omega (arith, from, late)
    ])

pub returns : goal.returns
returns c = λ line are run main.
    let items : List Run = c.touching-rest-items.result.now in
    let some : run.start < run.past = main.candidate.rests.some in
    let m : minutes_before c.args.horizon run ≤ run.past - run.start = known_most c.args.horizon run in
    let e : 1440 ≤ minutes_before c.args.horizon run = main.candidate.enough in
    let from : week_start c.args.week ≤ run.start = main.candidate.week.0 in
    let before : run.start < week_start (c.args.week + 1) = main.candidate.week.1 in
    all_seen (λ (other : Run). IsMainRest line c.args.horizon c.args.week other → ⊥) items c.loop-rest.rest-index
    c.loop-rest-test.false (c.loop-rest.invariant line are) run
    ((c.touching-rest-items.ensures.each run).1 (
      (are.each run).1 (record { rests = main.candidate.rests; enough = omega (arith, m, e) }),
      omega (arith, before),
      omega (arith, some, from),
    ))
    main
