use Rattle.std.proofs.Common.{◌≡◌, ◌<◌, ◌≤◌, ◌+◌, ℕ, List, get_or, take, arith, subst, sym}
use Rattle.std.proofs.lemmas.List.Elements.{All-contains, Contains-get_or}
use Rattle.tacho_law.specs.declared.days.DutyDay.{DutyDay}
use Rattle.tacho_law.specs.declared.breach.Kind.TheVariants.{B5}
use Rattle.tacho_law.specs.Line.{Line}
use Rattle.tacho_law.specs.Driving.{driving}
use Rattle.tacho_law.specs.Line.{line_of}
use Rattle.tacho_law.specs.Breaches.{IsB5}
use Rattle.tacho_plain.specs.DayBreaches.{IsInTime}
use Rattle.tacho_plain.specs.DailyDriving.{IsLongDuty}
use Rattle.tacho_plain.proofs.DayFoundLemmas.{no_day, found_none, found_add_at, found_skip_at, found_exactly}
use Rattle.tacho_plain.proofs.TallyLemmas.{Tallied, tally_none, tally_at, tally_fits}
use Rattle.tacho_plain.proofs.OrdinalLemmas.{InWeek, week_keys, B5Of, b5_is, b5_to, b5_back, b5_add, b5_few}
use Rattle.tacho_plain.proofs.daily_driving.often_extended.Goals as goal
use Rattle.tacho_plain.proofs.daily_driving.often_extended.Goals.{then-tally-gt-EXTENDED_DAYS+in-Some+in_ok-push}
use Rattle.tacho_plain.proofs.daily_driving.often_extended.Goals.{then-tally-gt-EXTENDED_DAYS+in_default}
use Rattle.tacho_plain.proofs.daily_driving.often_extended.Goals.{else-tally-gt-EXTENDED_DAYS}

pub loop-day-init : goal.loop-day-init
loop-day-init c = record {
  tallied = tally_none InWeek;
  seen =
      rw c.new-found.ensures.items
      (found_none (B5Of (line_of c.args.examined.now.spans.now)) (b5_is (line_of c.args.examined.now.spans.now)));
}

pub counted-tally-requires : goal.counted-tally-requires
counted-tally-requires c =
    tally_fits InWeek c.args.extended.now c.requires.are.in_order c.requires.in_time c.loop-day.day-index
    c.loop-day.tally.key c.loop-day.tally.count c.loop-day-test.true c.loop-day.invariant.tallied

pub loop-day-preserved : goal.loop-day-preserved
loop-day-preserved c =
    let line : Line = line_of c.args.examined.now.spans.now in
    let xs : List DutyDay = c.args.extended.now in
    let i : ℕ = c.loop-day.day-index in
    let found = c.loop-day.found.items in
    let key : ℕ = c.counted-tally.result.key in
    let count : ℕ = c.counted-tally.result.count in
    let k : ℕ = c.number.result in
    let same : key ≡ k = c.counted-tally.ensures.key in
    let is : InWeek (get_or xs i no_day) k = (omega arith, omega arith) in
    let now : InWeek (get_or xs i no_day) key = subst (λ (z : ℕ). InWeek (get_or xs i no_day) z) (sym same) is in
    let tallied : Tallied InWeek (take (i + 1) xs) k count =
    tally_at (IsLongDuty line) InWeek (week_keys line) xs c.requires.are c.requires.in_time
    i c.loop-day-test.true c.loop-day.tally.key c.loop-day.tally.count k count
    c.loop-day.invariant.tallied is c.counted-tally.ensures.same c.counted-tally.ensures.other in
    let tallied' : Tallied InWeek (take (i + 1) xs) key count =
    subst (λ (z : ℕ). Tallied InWeek (take (i + 1) xs) z count) (sym same) tallied in
    record {
      tallied = tallied';
      seen = elim c.if-tally-gt-EXTENDED_DAYS.branch [
        | then-tally-gt-EXTENDED_DAYS+in-Some+in_ok-push w ↦
            rw (w.found-is, w.in_ok-push.ensures.items)
            (found_add_at (B5Of line) (b5_is line) xs i c.loop-day-test.true c.requires.are.in_order
            c.loop-day.found.items c.loop-day.invariant.seen w.in-Some.breach
            (b5_add line xs c.requires.are c.requires.in_time i c.loop-day-test.true key count
            tallied' now w.if-tally-gt-EXTENDED_DAYS.true w.in-Some.breach w.in-Some.ensures))
        | then-tally-gt-EXTENDED_DAYS+in_default w ↦
            let few : driving line (get_or xs i no_day).start (get_or xs i no_day).past ≤ 540 = w.in_default.ensures in
            let m : IsLongDuty line (get_or xs i no_day) =
            (c.requires.are.each (get_or xs i no_day)).0 (Contains-get_or xs i no_day c.loop-day-test.true) in
            let many : 540 < driving line (get_or xs i no_day).start (get_or xs i no_day).past = m.over in
            absurd (omega arith)
        | else-tally-gt-EXTENDED_DAYS w ↦
            rw w.found-is
            (found_skip_at (B5Of line) (b5_is line) xs i c.loop-day-test.true c.requires.are.in_order
            c.loop-day.found.items c.loop-day.invariant.seen
            (b5_few line xs c.requires.are c.requires.in_time i c.loop-day-test.true
            key count tallied' now w.if-tally-gt-EXTENDED_DAYS.false))
      ];
    }

pub returns : goal.returns
returns c =
    let line : Line = line_of c.args.examined.now.spans.now in
    let xs : List DutyDay = c.args.extended.now in
    found_exactly (B5Of line) (b5_is line) (λ breach. (breach.kind ≡ B5) × IsB5 line breach) xs c.loop-day.day-index
    c.loop-day.found.items c.loop-day-test.false c.loop-day.invariant.seen (b5_to line)
    (b5_back line xs c.requires.are
    (λ x in'. All-contains (λ (y : DutyDay). IsInTime y) xs x c.requires.in_time in'))
