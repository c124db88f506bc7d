use Rattle.std.proofs.Common.{◌≡◌, ◌<◌, ◌≤◌, ℕ, List, get_or, arith}
use Rattle.std.proofs.lemmas.List.Elements.{All-contains, Contains-get_or}
use Rattle.tacho_law.specs.declared.days.DutyDay.{DutyDay}
use Rattle.tacho_law.specs.declared.breach.Kind.TheVariants.{B4}
use Rattle.tacho_law.specs.Line.{Line, line_of}
use Rattle.tacho_law.specs.Days.{IsDuty}
use Rattle.tacho_law.specs.Driving.{driving}
use Rattle.tacho_law.specs.Breaches.{IsB4}
use Rattle.tacho_plain.specs.DayBreaches.{IsInTime}
use Rattle.tacho_law.proofs.LongDrivingLemmas.{too_much_reaches}
use Rattle.tacho_plain.proofs.DayFoundLemmas.{no_day, B4Of, b4_is, b4_to, b4_back, found_none}
use Rattle.tacho_plain.proofs.DayFoundLemmas.{found_add_at, found_skip_at, found_exactly}
use Rattle.tacho_plain.proofs.daily_driving.long_days.Goals as goal
use Rattle.tacho_plain.proofs.daily_driving.long_days.Goals.{in-Some+in_ok-push, in_default}

pub loop-day-init : goal.loop-day-init
loop-day-init c =
    rw c.new-found.ensures.items
    (found_none (B4Of (line_of c.args.examined.now.spans.now)) (b4_is (line_of c.args.examined.now.spans.now)))

pub loop-day-preserved : goal.loop-day-preserved
loop-day-preserved c =
    let line : Line = line_of c.args.examined.now.spans.now in
    let xs : List DutyDay = c.args.days.now in
    let i : ℕ = c.loop-day.day-index in
    let duty : IsDuty line (get_or xs i no_day) =
    (c.requires.are.each (get_or xs i no_day)).0 (Contains-get_or xs i no_day c.loop-day-test.true) in
    let time : IsInTime (get_or xs i no_day) = c.requires.in_time i no_day c.loop-day-test.true in
    elim c.match-long_day.branch [
      | in-Some+in_ok-push w ↦
          rw (w.found-is, w.in_ok-push.ensures.items)
          (found_add_at (B4Of line) (b4_is line) xs i c.loop-day-test.true c.requires.are.in_order
          c.loop-day.found.items c.loop-day.invariant w.in-Some.breach (duty, time, w.in-Some.ensures))
      | in_default w ↦
          let few : driving line (get_or xs i no_day).start (get_or xs i no_day).past ≤ 600 = w.in_default.ensures in
          rw w.found-is
          (found_skip_at (B4Of line) (b4_is line) xs i c.loop-day-test.true
          c.requires.are.in_order c.loop-day.found.items c.loop-day.invariant
          (λ b p.
          let m : 600 < driving line (get_or xs i no_day).start (get_or xs i no_day).past =
          too_much_reaches line B4 600 (get_or xs i no_day).start (get_or xs i no_day).past b p.2 in
          omega arith))
    ]

pub returns : goal.returns
returns c =
    let line : Line = line_of c.args.examined.now.spans.now in
    let xs : List DutyDay = c.args.days.now in
    found_exactly (B4Of line) (b4_is line) (λ breach. (breach.kind ≡ B4) × IsB4 line breach) xs c.loop-day.day-index
    c.loop-day.found.items c.loop-day-test.false c.loop-day.invariant (b4_to line)
    (b4_back line xs c.requires.are
    (λ x in'. All-contains (λ (y : DutyDay). IsInTime y) xs x c.requires.in_time in'))
