use Rattle.std.proofs.Common.{List, Some, refl, subst, sym, map}
use Rattle.tacho_stretches.specs.declared.stretch.Stretch.{Stretch}
use Rattle.tacho_stretches.specs.Stretches.{Judged, judged_of}
use Rattle.tacho_stretches.proofs.StretchLemmas.{IsSoFar, none_yet, one_more, early_end, stretch_is, pushed}
use Rattle.tacho_stretches.proofs.stretch.stretches.Goals as goal

pub from-init : goal.from-init
from-init c =
    subst (λ (xs : List Stretch). IsSoFar c.args.line.now c.args.base c.end_of_held-end.result (map judged_of xs) c.args.base)
    (sym c.new-stretches.ensures.items)
    (none_yet c.args.line.now c.args.base c.end_of_held-end.result c.requires.monday c.requires.in_range)

pub next_start-next-requires-clause-in_range : goal.next_start-next-requires-clause-in_range
next_start-next-requires-clause-in_range c =
    early_end c.args.line.now c.from.monday c.horizon_of-horizon.result c.in_ok-report.report.horizon
    c.in_ok-report.ensures.is_horizon c.horizon_of-horizon.ensures c.from.invariant.early c.requires.within

pub from-preserved : goal.from-preserved
from-preserved c =
    let s : Stretch = record { monday = c.from.monday; report = c.in_ok-report.report; unseen = c.unseen_after-unseen.result } in
    let is =
    stretch_is c.args.line.now c.spans-spans.result.now c.end_of_held-end.result c.horizon_of-horizon.result s
    (Some c.in-Some.start) c.next_start-next.result c.spans-spans.ensures.value c.horizon_of-horizon.ensures c.in_ok-report.ensures
    c.next_start-next.ensures c.unseen_after-unseen.ensures c.in-Some.is in
    subst (λ (xs : List Judged). IsSoFar c.args.line.now c.args.base c.end_of_held-end.result xs c.in-Some.start)
    (sym (pushed c.from.stretches.items c.push.new.self.items s c.in_ok-push.ensures.items))
    (one_more c.args.line.now c.args.base c.end_of_held-end.result c.from.monday c.in-Some.start (map judged_of c.from.stretches.items)
    (judged_of s) c.requires.within c.from.invariant refl is)
