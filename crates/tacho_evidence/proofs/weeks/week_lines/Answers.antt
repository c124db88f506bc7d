use Rattle.std.proofs.Common.{◌≡◌, ◌≤◌, ◌<◌, ◌+◌, arith}
use Rattle.tacho_law.specs.Limits.{latest}
use Rattle.tacho_law.specs.Line.{line_of}
use Rattle.tacho_law.specs.Weeks.{week_start}
use Rattle.tacho_evidence.proofs.WeekLinesLemmas.{drives_early, date_early, totals_fit, week_is}
use Rattle.tacho_evidence.proofs.weeks.week_lines.Goals as goal

pub spans_of-requires-clause-in_time : goal.spans_of-requires-clause-in_time
spans_of-requires-clause-in_time c =
    date_early c.date_of-date.result c.args.breach.now.moment c.date_of-date.ensures
    (drives_early c.args.examined.now.spans.now c.args.examined.now.base c.args.examined.now.past _ _ _ c.args.breach.now.moment
    c.requires.examined c.requires.breach.over.moment)

pub append_dates-requires-clause-in_time : goal.append_dates-requires-clause-in_time
append_dates-requires-clause-in_time c =
    let early : c.args.breach.now.moment < latest =
    drives_early c.args.examined.now.spans.now c.args.examined.now.base c.args.examined.now.past _ _ _ c.args.breach.now.moment
    c.requires.examined c.requires.breach.over.moment in
    let above : week_start c.requires.breach.week ≤ c.args.breach.now.moment = c.requires.breach.over.moment.above in
    let since : c.args.breach.now.since ≡ week_start c.requires.breach.week = c.requires.breach.since in
    omega arith

pub append_dates-requires-clause-totals : goal.append_dates-requires-clause-totals
append_dates-requires-clause-totals c =
    let early : c.date_of-date.result ≤ latest =
    date_early c.date_of-date.result c.args.breach.now.moment c.date_of-date.ensures
    (drives_early c.args.examined.now.spans.now c.args.examined.now.base c.args.examined.now.past _ _ _ c.args.breach.now.moment
    c.requires.examined c.requires.breach.over.moment) in
    rw c.deref.ensures.value
    (totals_fit (line_of c.args.examined.now.spans.now) c.date_of-date.result (c.date_of-date.result + 1440) c.in_ok-spans.spans.items
    c.in_ok-spans.ensures (omega arith))

pub returns : goal.returns
returns c =
    week_is (line_of c.args.examined.now.spans.now) c.args.breach.now c.date_of-date.result c.in_ok-spans.spans.items
    c.append_dates.new.lines.items c.requires.breach c.date_of-date.ensures c.in_ok-spans.ensures
    (rw (c.in_ok-append_dates.ensures, c.in_ok-push.ensures.items, c.new-lines.ensures.items, c.deref.ensures.value, c.number-monday.ensures.value))
