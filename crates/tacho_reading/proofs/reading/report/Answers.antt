use Rattle.std.proofs.Common.{◌≤◌, arith}
use Rattle.sqlite.specs.Held.{state}
use Rattle.tacho_reading.proofs.ReportLemmas.{report_told}
use Rattle.tacho_reading.proofs.reading.report.Goals as goal

pub returns-clause-report : goal.returns-clause-report
returns-clause-report g c clean s shows =
    let clean_1 = c.feed_held.ensures.reads.clean clean in
    let reads = c.in_ok-base.ensures.reads in
    let holds = reads.state clean_1 s shows (reads.live clean_1 tt) in
    let early : c.in_ok-base.field-0.base ≤ c.new.result = omega (arith, c.in_ok-base.ensures.base.1) in
    report_told (state g.S.Store c.begin.new.conn).now.trees c.args.driver c.new.result s c.in_ok-base.field-0
    c.in_ok-horizon.horizon c.new-scan.result c.empty-found.result
    c.feed_held.new.scan c.feed_held.new.found c.in_ok-finish.field-0 holds.1
    (c.in_ok-base.ensures.begun clean_1 s shows) early c.in_ok-base.ensures.base.0
    (c.new-scan.ensures.none c.empty-found.result c.empty-found.ensures.breaches c.empty-found.ensures.debts)
    (λ t stand. c.in_ok-horizon.ensures.fed clean holds.0 t stand) c.in_ok-finish.ensures.horizon
    c.in_ok-finish.ensures.report
