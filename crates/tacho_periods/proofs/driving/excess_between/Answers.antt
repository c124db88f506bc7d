use Rattle.std.proofs.Common.{◌≤◌, ◌+◌, arith}
use Rattle.tacho_law.specs.Line.{line_of}
use Rattle.tacho_law.specs.Driving.{driving}
use Rattle.tacho_law.proofs.DrivingLemmas.{driving_reaches}
use Rattle.tacho_periods.proofs.DrivingLemmas.{drives_within}
use Rattle.tacho_periods.proofs.driving.excess_between.Goals as goal

pub new-requires : goal.new-requires
new-requires c =
    let spans = c.args.examined.now.spans.now in
    let within : c.in_ok-moment.moment ≤ 68428800 = drives_within spans c.args.examined.now.base
    c.args.examined.now.past c.in_ok-moment.moment c.args.from c.args.to _ c.requires c.in_ok-moment.ensures in
    omega arith

pub returns : goal.returns
returns c =
    let line = line_of c.args.examined.now.spans.now in
    let h : c.args.limit + 1 ≤ driving line c.args.from c.args.to =
    driving_reaches line c.args.from c.args.to (c.args.limit + 1) c.in_ok-moment.moment c.in_ok-moment.ensures in
    record { moment = rw c.new.ensures c.in_ok-moment.ensures; amount = omega arith }
