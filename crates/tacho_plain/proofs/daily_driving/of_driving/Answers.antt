use Rattle.std.proofs.Common.{List, sym, subst}
use Rattle.std.specs.List.{All}
use Rattle.std.proofs.lemmas.List.Elements.{All-contains}
use Rattle.tacho_law.specs.declared.days.DutyDay.{DutyDay}
use Rattle.tacho_law.specs.Line.{line_of}
use Rattle.tacho_plain.specs.DayBreaches.{IsInTime}
use Rattle.tacho_plain.specs.DailyDriving.{IsLongDuty}
use Rattle.tacho_plain.proofs.DayBreachesLemmas.{drives_join, times_of}
use Rattle.tacho_plain.proofs.daily_driving.of_driving.Goals as goal

pub often_extended-requires-clause-in_time : goal.often_extended-requires-clause-in_time
often_extended-requires-clause-in_time c =
    subst (λ (days : List DutyDay). All (λ (x : DutyDay). IsInTime x) days) (sym c.deref.ensures.value)
    (times_of (line_of c.args.examined.now.spans.now) (IsLongDuty (line_of c.args.examined.now.spans.now))
    c.args.days.now c.in_ok-extended.extended.items c.requires.are
    (λ x in'. All-contains (λ (y : DutyDay). IsInTime y) c.args.days.now x c.requires.in_time in')
    c.in_ok-extended.ensures (λ x h. h.duty))

pub returns : goal.returns
returns c =
    rw c.in_ok-append.ensures.items
    (drives_join (line_of c.args.examined.now.spans.now) c.in_ok-found.found.items
    c.in_ok-more.more.items c.in_ok-found.ensures c.in_ok-more.ensures)
