use Rattle.std.proofs.Common.{◌≤◌, map, inl, arith, true}
use Rattle.tacho_line.specs.Walk.{cut_to}
use Rattle.tacho_pass.specs.Kinds.{is_any}
use Rattle.tacho_pass.proofs.AppendingLemmas.{appends_then}
use Rattle.tacho_rules.proofs.FeedingLemmas.{fed_none, next_at, next_some, next_within, fed_next, fed_all, fed_to}
use Rattle.tacho_rules.proofs.FeedingLemmas.{failed_takes_none, part_within, part_past, part_is}
use Rattle.tacho_rules.proofs.scan.Scan.feed_within.Goals as goal

pub loop-span-init : goal.loop-span-init
loop-span-init c = fed_none (map (cut_to c.args.start c.args.past) c.args.spans.now) c.args.self.now c.args.found.now

pub feed-requires-clause-next : goal.feed-requires-clause-next
feed-requires-clause-next c =
    let part = cut_to c.args.start c.args.past in
    let i = c.loop-span.span-index in
    let item = c.span-item.result in
    let within = c.loop-span-test.true in
    rw c.cut.ensures
    (next_at (map part c.args.spans.now) c.args.self.now c.args.found.now c.loop-span.self c.loop-span.found
    c.loop-span.span-index c.loop-span.invariant
    (part item) (part_within part c.args.spans.now i within) (part_is part c.args.spans.now i item within c.span-item.is)
    c.requires.place c.requires.past c.requires.at c.requires.joined)

pub feed-requires-clause-nonempty : goal.feed-requires-clause-nonempty
feed-requires-clause-nonempty c =
    let part = cut_to c.args.start c.args.past in
    let i = c.loop-span.span-index in
    let item = c.span-item.result in
    let within = c.loop-span-test.true in
    rw c.cut.ensures
    (next_some (map part c.args.spans.now) c.args.self.now c.args.found.now c.loop-span.self c.loop-span.found
    c.loop-span.span-index c.loop-span.invariant
    (part item) (part_within part c.args.spans.now i within) (part_is part c.args.spans.now i item within c.span-item.is)
    c.requires.place c.requires.past c.requires.at c.requires.joined)

pub feed-requires-clause-within : goal.feed-requires-clause-within
feed-requires-clause-within c =
    let part = cut_to c.args.start c.args.past in
    let i = c.loop-span.span-index in
    let item = c.span-item.result in
    let within = c.loop-span-test.true in
    let by : (part item).past ≤ c.requires.past =
    next_within (map part c.args.spans.now) c.args.self.now c.args.found.now c.loop-span.self c.loop-span.found
    c.loop-span.span-index c.loop-span.invariant
    (part item) (part_within part c.args.spans.now i within) (part_is part c.args.spans.now i item within c.span-item.is)
    c.requires.place c.requires.past c.requires.at c.requires.joined in
    let w : c.requires.past ≤ 68374080 = c.requires.within in
    rw c.cut.ensures (omega arith)

pub returns-in_err-feed-clause-appends : goal.returns-in_err-feed-clause-appends
returns-in_err-feed-clause-appends c =
    appends_then is_any true c.args.found.now c.loop-span.found c.feed.new.found c.loop-span.invariant.more
    c.feed.ensures.appends

pub loop-span-preserved : goal.loop-span-preserved
loop-span-preserved c =
    let part = cut_to c.args.start c.args.past in
    let i = c.loop-span.span-index in
    let item = c.span-item.result in
    let within = c.loop-span-test.true in
    fed_next (map part c.args.spans.now) c.args.self.now c.args.found.now c.loop-span.self c.loop-span.found
    c.loop-span.span-index c.loop-span.invariant
    (part item) (part_within part c.args.spans.now i within) (part_is part c.args.spans.now i item within c.span-item.is)
    c.feed.new.self c.feed.new.found (rw c.cut.ensures at c.feed.ensures.at) (rw c.cut.ensures at c.in_ok-feed.ensures.fed)
    c.feed.ensures.appends (λ h. let e = c.in_ok-feed.ensures.stays h in cc)

pub returns-clause-at : goal.returns-clause-at
returns-clause-at c =
    let part = cut_to c.args.start c.args.past in
    fed_to (map part c.args.spans.now) c.args.self.now c.args.found.now c.loop-span.self c.loop-span.found
    c.loop-span.span-index c.loop-span.invariant (part_past part c.args.spans.now c.loop-span.span-index c.loop-span-test.false)

pub returns-clause-fed : goal.returns-clause-fed
returns-clause-fed c =
    let part = cut_to c.args.start c.args.past in
    fed_all (map part c.args.spans.now) c.args.self.now c.args.found.now c.loop-span.self c.loop-span.found
    c.loop-span.span-index c.loop-span.invariant (part_past part c.args.spans.now c.loop-span.span-index c.loop-span-test.false)

pub returns-clause-appends : goal.returns-clause-appends
returns-clause-appends c = c.loop-span.invariant.more

pub returns-clause-stays : goal.returns-clause-stays
returns-clause-stays c = λ failed. inl
    (failed_takes_none (map (cut_to c.args.start c.args.past) c.args.spans.now) c.args.self.now c.args.found.now
    c.loop-span.self c.loop-span.found c.loop-span.span-index c.loop-span.invariant
    (part_past (cut_to c.args.start c.args.past) c.args.spans.now c.loop-span.span-index c.loop-span-test.false)
    c.args.spans.now c.loop-span-test.false failed)
