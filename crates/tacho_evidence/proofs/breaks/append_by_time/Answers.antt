use Rattle.std.proofs.Common.{length, refl}
use Rattle.std.proofs.lemmas.Result.{IfOk-weaker}
use Rattle.tacho_periods.proofs.DaysLemmas.{starts_rise}
use Rattle.tacho_evidence.proofs.MergeLemmas.{merging_none, merging_more, merging_end, no_fewer, item_is}
use Rattle.tacho_evidence.proofs.breaks.append_by_time.Goals as goal

pub loop-drive-init : goal.loop-drive-init
loop-drive-init c = merging_none c.args.lines.now.items c.args.drives.now c.args.rests.now

pub slice_bounds-append_rests-count : goal.slice_bounds-append_rests-count
slice_bounds-append_rests-count c =
    no_fewer c.args.lines.now.items c.args.drives.now c.args.rests.now c.loop-drive.drive-index c.loop-drive.rested c.loop-drive.lines.items
    c.loop-drive.invariant (λ i j d le lt. starts_rise c.args.rests.now c.requires.rests.some c.requires.rests.in_order i j d le lt)
    c.begun_by-next.result _ c.loop-drive-test.true (item_is c.args.drives.now c.loop-drive.drive-index c.loop-drive-test.true)
    c.begun_by-next.ensures.within c.begun_by-next.ensures.later

pub slice_bounds-append_rests-start : goal.slice_bounds-append_rests-start
slice_bounds-append_rests-start c =
    no_fewer c.args.lines.now.items c.args.drives.now c.args.rests.now c.loop-drive.drive-index c.loop-drive.rested c.loop-drive.lines.items
    c.loop-drive.invariant (λ i j d le lt. starts_rise c.args.rests.now c.requires.rests.some c.requires.rests.in_order i j d le lt)
    c.begun_by-next.result _ c.loop-drive-test.true (item_is c.args.drives.now c.loop-drive.drive-index c.loop-drive-test.true)
    c.begun_by-next.ensures.within c.begun_by-next.ensures.later

pub loop-drive-preserved : goal.loop-drive-preserved
loop-drive-preserved c =
    merging_more c.args.lines.now.items c.args.drives.now c.args.rests.now c.loop-drive.drive-index c.loop-drive.rested c.loop-drive.lines.items
    c.loop-drive.invariant (λ i j d le lt. starts_rise c.args.rests.now c.requires.rests.some c.requires.rests.in_order i j d le lt)
    c.begun_by-next.result _ c.push.new.self.items c.requires.drives c.loop-drive-test.true (item_is c.args.drives.now c.loop-drive.drive-index c.loop-drive-test.true)
    c.begun_by-next.ensures.within c.begun_by-next.ensures.begun c.begun_by-next.ensures.later
    (rw (c.in_ok-push.ensures.items, c.in_ok-append_rests.ensures))

pub returns : goal.returns
returns c =
    IfOk-weaker c.append_rests-2.result _ _
    (λ x is. merging_end c.args.lines.now.items c.args.drives.now c.args.rests.now c.loop-drive.drive-index c.loop-drive.rested c.loop-drive.lines.items
    c.loop-drive.invariant (λ i j d le lt. starts_rise c.args.rests.now c.requires.rests.some c.requires.rests.in_order i j d le lt)
    (length c.args.rests.now) c.append_rests-2.new.lines.items c.loop-drive-test.false refl is)
    c.append_rests-2.ensures
