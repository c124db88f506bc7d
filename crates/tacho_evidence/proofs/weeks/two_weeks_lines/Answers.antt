use Rattle.std.proofs.Common.{◌≡◌, ◌≤◌, ◌<◌, ◌+◌, arith}
use Rattle.tacho_law.specs.Limits.{latest}
use Rattle.tacho_law.specs.Line.{line_of}
use Rattle.tacho_law.specs.Weeks.{week_start}
use Rattle.tacho_evidence.proofs.WeekLinesLemmas.{drives_early, date_early, totals_fit, two_weeks_are}
use Rattle.tacho_evidence.proofs.weeks.two_weeks_lines.Goals as goal

pub spans_of-requires-clause-in_time : goal.spans_of-requires-clause-in_time
spans_of-requires-clause-in_time c =
    date_early c.date_of-date.result c.args.breach.now.moment c.date_of-date.ensures
    (drives_early c.args.examined.now.spans.now c.args.examined.now.base c.args.examined.now.past _ _ _ c.args.breach.now.moment
    c.requires.examined c.requires.breach.over.moment)

pub append_week-requires-clause-in_time : goal.append_week-requires-clause-in_time
append_week-requires-clause-in_time c =
    let early : c.args.breach.now.moment < latest =
    drives_early c.args.examined.now.spans.now c.args.examined.now.base c.args.examined.now.past _ _ _ c.args.breach.now.moment
    c.requires.examined c.requires.breach.over.moment in
    let above : week_start c.requires.breach.week ≤ c.args.breach.now.moment = c.requires.breach.over.moment.above in
    let since : c.args.breach.now.since ≡ week_start c.requires.breach.week = c.requires.breach.since in
    omega arith

pub append_week-requires-clause-totals : goal.append_week-requires-clause-totals
append_week-requires-clause-totals c =
    let early : c.date_of-date.result ≤ latest =
    date_early c.date_of-date.result c.args.breach.now.moment c.date_of-date.ensures
    (drives_early c.args.examined.now.spans.now c.args.examined.now.base c.args.examined.now.past _ _ _ c.args.breach.now.moment
    c.requires.examined c.requires.breach.over.moment) in
    rw c.deref.ensures.value
    (totals_fit (line_of c.args.examined.now.spans.now) c.date_of-date.result (c.date_of-date.result + 1440) c.in_ok-spans.spans.items
    c.in_ok-spans.ensures (omega arith))

pub next_week-requires : goal.next_week-requires
next_week-requires c =
    let early : c.args.breach.now.moment < latest =
    drives_early c.args.examined.now.spans.now c.args.examined.now.base c.args.examined.now.past _ _ _ c.args.breach.now.moment
    c.requires.examined c.requires.breach.over.moment in
    let above : week_start c.requires.breach.week ≤ c.args.breach.now.moment = c.requires.breach.over.moment.above in
    let since : c.args.breach.now.since ≡ week_start c.requires.breach.week = c.requires.breach.since in
    omega arith

pub append_week-requires-2-clause-in_time : goal.append_week-requires-2-clause-in_time
append_week-requires-2-clause-in_time c =
    let early : c.args.breach.now.moment < latest =
    drives_early c.args.examined.now.spans.now c.args.examined.now.base c.args.examined.now.past _ _ _ c.args.breach.now.moment
    c.requires.examined c.requires.breach.over.moment in
    let above : week_start c.requires.breach.week ≤ c.args.breach.now.moment = c.requires.breach.over.moment.above in
    let since : c.args.breach.now.since ≡ week_start c.requires.breach.week = c.requires.breach.since in
    omega arith

pub append_week-requires-2-clause-totals : goal.append_week-requires-2-clause-totals
append_week-requires-2-clause-totals c =
    let early : c.date_of-date.result ≤ latest =
    date_early c.date_of-date.result c.args.breach.now.moment c.date_of-date.ensures
    (drives_early c.args.examined.now.spans.now c.args.examined.now.base c.args.examined.now.past _ _ _ c.args.breach.now.moment
    c.requires.examined c.requires.breach.over.moment) in
    rw c.deref-2.ensures.value
    (totals_fit (line_of c.args.examined.now.spans.now) c.date_of-date.result (c.date_of-date.result + 1440) c.in_ok-spans.spans.items
    c.in_ok-spans.ensures (omega arith))

pub returns : goal.returns
returns c =
    let since : c.args.breach.now.since ≡ week_start c.requires.breach.week = c.requires.breach.since in
    let week : c.week_of-week.result ≡ c.requires.breach.week = omega arith in
    two_weeks_are (line_of c.args.examined.now.spans.now) c.args.breach.now c.date_of-date.result c.in_ok-spans.spans.items
    c.append_week-2.new.lines.items c.requires.breach c.week_of-week.result c.next_week.result week c.next_week.ensures c.date_of-date.ensures c.in_ok-spans.ensures
    (rw (c.in_ok-append_week-2.ensures, c.in_ok-append_week.ensures, c.new-lines.ensures.items, c.deref.ensures.value, c.deref-2.ensures.value, c.number-origin.ensures.value))
