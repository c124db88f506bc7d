use Rattle.std.proofs.Common.{◌≤◌, arith, refl}
use Rattle.tacho_periods.proofs.DrivingLemmas.{drives_within}
use Rattle.tacho_plain.proofs.break_breaches.breach_between.Goals as goal

pub new-requires : goal.new-requires
new-requires c =
    let within : c.in_ok-since.since ≤ 68428800 =
    drives_within c.args.examined.now.spans.now c.args.examined.now.base c.args.examined.now.past
    c.in_ok-since.since c.args.from c.args.to _ c.requires c.in_ok-since.ensures in
    omega arith

pub returns : goal.returns
returns c = record { kind = refl; over = c.in_ok-moment.ensures; since = rw c.new.ensures c.in_ok-since.ensures }
