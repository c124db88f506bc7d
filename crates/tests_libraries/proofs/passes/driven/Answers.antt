use Rattle.std.proofs.Common.{◌<◌, arith}
use Rattle.tacho_time.specs.declared.span.Activity.TheVariants.{Rest}
use Rattle.tests_libraries.proofs.Laying.{IsLaid, laid_push}
use Rattle.tests_libraries.proofs.passes.driven.Goals as goal

pub returns : goal.returns
returns c =
    let some : c.loop-end.at < c.args.past = omega arith in
    let laid : IsLaid c.push.new.self.items c.args.past =
    rw (c.in_ok-push.ensures.items, c.rest.ensures) (laid_push c.loop-end.spans.items c.loop-end.at c.args.past Rest c.loop-end.invariant.laid some) in
    record { joined = laid.joined; single = laid.single }
