use Rattle.std.proofs.Common.{List, sym, subst}
use Rattle.std.specs.List.{All, AllPairs}
use Rattle.std.proofs.lemmas.List.Elements.{All-contains}
use Rattle.tacho_law.specs.declared.run.Run.{Run}
use Rattle.tacho_law.specs.declared.days.DutyDay.{DutyDay}
use Rattle.tacho_law.specs.Runs.{AreRestsOf}
use Rattle.tacho_law.specs.Days.{EarlierDay, IsReduced}
use Rattle.tacho_plain.specs.DayBreaches.{IsInTime, AreTheDays}
use Rattle.tacho_periods.proofs.RunsLemmas.{rests_are}
use Rattle.tacho_plain.proofs.DayBreachesLemmas.{rests_join, times_of}
use Rattle.tacho_plain.proofs.daily_rests.of_rests.Goals as goal

pub reduced_days-requires-clause-parts : goal.reduced_days-requires-clause-parts
reduced_days-requires-clause-parts c =
    let (line, all, are) = c.requires.line in
    rw c.deref.ensures.value (rests_are line 180 c.in_ok-parts.parts.items (c.in_ok-parts.ensures line all))

pub often_reduced-requires-clause-in_time : goal.often_reduced-requires-clause-in_time
often_reduced-requires-clause-in_time c =
    let (line, all, are) = c.requires.line in
    let parts : AreRestsOf line 180 c.deref.result.now =
    subst (λ (runs : List Run). AreRestsOf line 180 runs)
    (sym c.deref.ensures.value) (c.in_ok-parts.ensures line all) in
    subst (λ (days : List DutyDay). All (λ (x : DutyDay). IsInTime x) days) (sym c.deref-2.ensures.value)
    (times_of line (IsReduced line) c.args.days.now c.in_ok-reduced.reduced.items are
    (λ x in'. All-contains (λ (y : DutyDay). IsInTime y) c.args.days.now x c.requires.in_time in')
    (c.in_ok-reduced.ensures line are parts) (λ x h. h.duty))

pub often_reduced-requires-clause-by_day : goal.often_reduced-requires-clause-by_day
often_reduced-requires-clause-by_day c =
    let (line, all, are) = c.requires.line in
    let parts : AreRestsOf line 180 c.deref.result.now =
    subst (λ (runs : List Run). AreRestsOf line 180 runs)
    (sym c.deref.ensures.value) (c.in_ok-parts.ensures line all) in
    subst (λ (days : List DutyDay). AllPairs EarlierDay days)
    (sym c.deref-2.ensures.value) (c.in_ok-reduced.ensures line are parts).in_order

pub often_reduced-requires-clause-weekly : goal.often_reduced-requires-clause-weekly
often_reduced-requires-clause-weekly c =
    let (line, all, are) = c.requires.line in
    rw c.deref-3.ensures.value (rests_are line 1440 c.in_ok-weekly.weekly.items (c.in_ok-weekly.ensures line all))

pub returns : goal.returns
returns c = λ line all are.
    let parts : AreRestsOf line 180 c.deref.result.now =
    subst (λ (runs : List Run). AreRestsOf line 180 runs)
    (sym c.deref.ensures.value) (c.in_ok-parts.ensures line all) in
    let weekly : AreRestsOf line 1440 c.deref-3.result.now =
    subst (λ (runs : List Run). AreRestsOf line 1440 runs)
    (sym c.deref-3.ensures.value) (c.in_ok-weekly.ensures line all) in
    let reduced : AreTheDays (IsReduced line) c.deref-2.result.now =
    subst (λ (days : List DutyDay). AreTheDays (IsReduced line) days)
    (sym c.deref-2.ensures.value) (c.in_ok-reduced.ensures line are parts) in
    rw c.in_ok-append.ensures.items
    (rests_join line c.in_ok-found.found.items c.in_ok-more.more.items (c.in_ok-found.ensures line are)
    (c.in_ok-more.ensures line c.args.runs.now all weekly reduced))
