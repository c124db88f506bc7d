use Rattle.std.proofs.Common.{◌≡◌, ℕ, List, get_or, take, subst}
use Rattle.std.specs.Prelude.{◌↔◌}
use Rattle.std.proofs.lemmas.List.{take_all}
use Rattle.std.proofs.lemmas.List.Elements.{Contains-get_or}
use Rattle.tacho_law.specs.declared.days.DutyDay.{DutyDay}
use Rattle.tacho_law.specs.Days.{EarlierDay, HasReducedRest, IsReduced, IsDuty}
use Rattle.tacho_periods.proofs.KeptLemmas.{AreKept, kept_none, kept_add_at, kept_skip_at}
use Rattle.tacho_law.proofs.DaysLemmas.{reduced_by_parts}
use Rattle.tacho_plain.proofs.DayFoundLemmas.{no_day}
use Rattle.tacho_plain.proofs.daily_rests.reduced_days.Goals as goal
use Rattle.tacho_plain.proofs.daily_rests.reduced_days.Goals.{then-is_reduced+in_ok-push, else-is_reduced}

pub loop-day-init : goal.loop-day-init
loop-day-init c = λ line are parts. rw c.new-reduced.ensures.items (kept_none DutyDay EarlierDay (IsReduced line))

pub loop-day-preserved : goal.loop-day-preserved
loop-day-preserved c = λ line are parts.
    let xs : List DutyDay = c.args.days.now in
    let i : ℕ = c.loop-day.day-index in
    let duty : IsDuty line (get_or xs i no_day) =
    (are.each (get_or xs i no_day)).0 (Contains-get_or xs i no_day c.loop-day-test.true) in
    let same : HasReducedRest c.args.parts.now (get_or xs i no_day) ↔ IsReduced line (get_or xs i no_day) =
    reduced_by_parts line c.args.parts.now (get_or xs i no_day) parts duty in
    elim c.if-is_reduced.branch [
      | then-is_reduced+in_ok-push w ↦
          rw (w.reduced-is, w.in_ok-push.ensures.items)
          (kept_add_at DutyDay EarlierDay (IsReduced line) xs i no_day c.loop-day-test.true
          are.in_order c.loop-day.reduced.items (c.loop-day.invariant line are parts)
          (same.0 (c.is_reduced.ensures.0 w.if-is_reduced.true)))
      | else-is_reduced w ↦
          rw w.reduced-is
          (kept_skip_at DutyDay EarlierDay (IsReduced line) xs i no_day c.loop-day-test.true
          are.in_order c.loop-day.reduced.items (c.loop-day.invariant line are parts)
          (λ h. let t = c.is_reduced.ensures.1 (same.1 h) in let f = w.if-is_reduced.false in cc))
    ]

pub returns : goal.returns
returns c = λ line are parts.
    let xs : List DutyDay = c.args.days.now in
    let e : take c.loop-day.day-index xs ≡ xs = take_all c.loop-day.day-index xs c.loop-day-test.false in
    let kept : AreKept DutyDay EarlierDay (IsReduced line) xs c.loop-day.reduced.items =
    subst (λ (seen : List DutyDay). AreKept DutyDay EarlierDay (IsReduced line) seen c.loop-day.reduced.items)
    e (c.loop-day.invariant line are parts) in
    record {
      each = λ day. (λ h. ((kept.each day).0 h).1, λ h. (kept.each day).1 ((are.each day).1 h.duty, h));
      in_order = kept.in_order;
    }
