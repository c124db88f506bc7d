use Rattle.std.proofs.Common.{◌≡◌, ◌≤◌, ℕ, List, get_or, sym, arith, true}
use Rattle.std.proofs.lemmas.List.Elements.{All-contains, Contains-get_or}
use Rattle.tacho_law.specs.declared.run.Run.{Run}
use Rattle.tacho_law.specs.declared.debt.Debt.{Debt}
use Rattle.tacho_law.specs.Runs.{IsRestRun}
use Rattle.tacho_law.specs.Debts.{HasRoom}
use Rattle.tacho_periods.proofs.RunsLemmas.{no_run}
use Rattle.tacho_periods.proofs.MainRestLemmas.{all_more, all_seen}
use Rattle.tacho_plain.proofs.CompensationLemmas.{payer_among, payer_after, sooner_seen}
use Rattle.tacho_plain.proofs.compensation.payer_of.Goals as goal

pub loop-rest-init : goal.loop-rest-init
loop-rest-init c = λ line are of_weeks k d within. absurd (omega arith)

pub has_room-requires-clause-in_range : goal.has_room-requires-clause-in_range
has_room-requires-clause-in_range c =
    let items : List Run = c.touching-rest-items.result.now in
    let x : Run = get_or items c.loop-rest.rest-index no_run in
    All-contains (λ (run : Run). run.start ≤ 68374080) c.args.daily.now x c.requires.daily.early
    ((c.touching-rest-items.ensures.each x).0
    (Contains-get_or items c.loop-rest.rest-index no_run c.loop-rest-test.true)).0

pub new-requires : goal.new-requires
new-requires c =
    let items : List Run = c.touching-rest-items.result.now in
    let x : Run = get_or items c.loop-rest.rest-index no_run in
    let early : x.start ≤ 68374080 =
    All-contains (λ (run : Run). run.start ≤ 68374080) c.args.daily.now x c.requires.daily.early
    ((c.touching-rest-items.ensures.each x).0
    (Contains-get_or items c.loop-rest.rest-index no_run c.loop-rest-test.true)).0 in
    omega arith

pub returns-then-has_room : goal.returns-then-has_room
returns-then-has_room c = λ line are of_weeks is.
    let items : List Run = c.touching-rest-items.result.now in
    let i : ℕ = c.loop-rest.rest-index in
    let x : Run = get_or items i no_run in
    let debt : Debt = c.args.debt.now in
    let earlier : List Debt = c.args.earlier.now in
    let among = (c.touching-rest-items.ensures.each x).0 (Contains-get_or items i no_run c.loop-rest-test.true) in
    let rests : IsRestRun line x = ((are.each x).0 among.0).rests in
    record {
      payer = x;
      is = sym c.new.ensures;
      can = record {
        main = c.args.main;
        is = is;
        rests = rests;
        after =
            payer_after line c.args.daily.now c.args.weekly.now are of_weeks
            c.args.horizon earlier debt c.args.main is x among.0 among.2;
        room = (c.has_room.ensures line of_weeks rests).0 c.if-has_room.true;
      };
      first = λ run before can.
          (let (in', early, late) =
          payer_among line c.args.daily.now c.args.weekly.now are of_weeks
          c.args.horizon earlier debt c.args.main is run c.requires.nonempty can in
          let seen =
          sooner_seen items c.touching-rest-items.ensures.in_order i c.loop-rest-test.true rests.some run
          can.rests.some
          ((c.touching-rest-items.ensures.each run).1
          (in', let n : c.number.result ≡ debt.deadline = c.number.ensures.value in omega arith, late))
          before in
          All-contains (λ (other : Run). HasRoom line c.args.horizon earlier debt other → ⊥)
          _ run (c.loop-rest.invariant line are of_weeks) seen can.room);
    }

pub loop-rest-preserved : goal.loop-rest-preserved
loop-rest-preserved c = λ line are of_weeks.
    let items : List Run = c.touching-rest-items.result.now in
    let i : ℕ = c.loop-rest.rest-index in
    let x : Run = get_or items i no_run in
    let among = (c.touching-rest-items.ensures.each x).0 (Contains-get_or items i no_run c.loop-rest-test.true) in
    let rests : IsRestRun line x = ((are.each x).0 among.0).rests in
    all_more (λ (run : Run). HasRoom line c.args.horizon c.args.earlier.now c.args.debt.now run → ⊥) items i no_run
    c.loop-rest-test.true (c.loop-rest.invariant line are of_weeks) (λ room. (
    let t : c.has_room.result ≡ true = (c.has_room.ensures line of_weeks rests).1 room in
    let f = c.if-has_room.false in
    cc))

pub returns : goal.returns
returns c = λ line are of_weeks is run can.
    let items : List Run = c.touching-rest-items.result.now in
    let debt : Debt = c.args.debt.now in
    let (in', early, late) =
    payer_among line c.args.daily.now c.args.weekly.now are of_weeks c.args.horizon
    c.args.earlier.now debt c.args.main is run c.requires.nonempty can in
    all_seen (λ (other : Run). HasRoom line c.args.horizon c.args.earlier.now debt other → ⊥) items
    c.loop-rest.rest-index c.loop-rest-test.false (c.loop-rest.invariant line are of_weeks) run
    ((c.touching-rest-items.ensures.each run).1
    (in', let n : c.number.result ≡ debt.deadline = c.number.ensures.value in omega arith, late))
    can.room
