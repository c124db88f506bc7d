use Rattle.std.proofs.Common.{◌≡◌, ℕ, List, get_or}
use Rattle.std.proofs.lemmas.List.Elements.{All-contains, Contains-get_or}
use Rattle.tacho_law.specs.declared.days.DutyDay.{DutyDay}
use Rattle.tacho_law.specs.declared.breach.Kind.TheVariants.{B2}
use Rattle.tacho_law.specs.Days.{IsDuty}
use Rattle.tacho_law.specs.Breaches.{IsB2}
use Rattle.tacho_plain.specs.DayBreaches.{IsInTime}
use Rattle.tacho_plain.proofs.DayFoundLemmas.{no_day, ShortOf, short_is, short_to, short_back}
use Rattle.tacho_plain.proofs.DayFoundLemmas.{found_none, found_add_at, found_skip_at, found_exactly}
use Rattle.tacho_plain.proofs.daily_rests.short_rests.Goals as goal
use Rattle.tacho_plain.proofs.daily_rests.short_rests.Goals.{in-Some+in_ok-push, in_default}

pub loop-day-init : goal.loop-day-init
loop-day-init c = λ line are. rw c.new-found.ensures.items (found_none (ShortOf line) (short_is line))

pub loop-day-preserved : goal.loop-day-preserved
loop-day-preserved c = λ line are.
    let xs : List DutyDay = c.args.days.now in
    let i : ℕ = c.loop-day.day-index in
    let duty : IsDuty line (get_or xs i no_day) =
    (are.each (get_or xs i no_day)).0 (Contains-get_or xs i no_day c.loop-day-test.true) in
    let time : IsInTime (get_or xs i no_day) = c.requires i no_day c.loop-day-test.true in
    elim c.match-short_rest.branch [
      | in-Some+in_ok-push w ↦
          rw (w.found-is, w.in_ok-push.ensures.items)
          (found_add_at (ShortOf line) (short_is line) xs i c.loop-day-test.true are.in_order c.loop-day.found.items
          (c.loop-day.invariant line are) w.in-Some.breach (duty, time, w.in-Some.ensures))
      | in_default w ↦
          rw w.found-is
          (found_skip_at (ShortOf line) (short_is line) xs i c.loop-day-test.true are.in_order
          c.loop-day.found.items (c.loop-day.invariant line are) (λ b p. p.2.short w.in_default.ensures))
    ]

pub returns : goal.returns
returns c = λ line are.
    let xs : List DutyDay = c.args.days.now in
    found_exactly (ShortOf line) (short_is line) (λ breach. (breach.kind ≡ B2) × IsB2 line breach)
    xs c.loop-day.day-index c.loop-day.found.items c.loop-day-test.false
    (c.loop-day.invariant line are) (short_to line)
    (short_back line xs are (λ x in'. All-contains (λ (y : DutyDay). IsInTime y) xs x c.requires in'))
