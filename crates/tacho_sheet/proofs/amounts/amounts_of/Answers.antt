use Rattle.std.proofs.Common.{◌+◌, ◌-◌, ◌*◌, ◌<◌, ◌≤◌, List, ◌∷◌, None, Some, drop, arith}
use Rattle.tacho_time.specs.declared.span.Span.{Span}
use Rattle.tacho_sheet.specs.Amounts.{whole}
use Rattle.tacho_sheet.proofs.AmountLemmas.{Walked, IsLonger, longer_by, from_le, walked_none, walked_here, walked_before, walked_next, walked_over, walked_end, walked_small}
use Rattle.tacho_sheet.proofs.amounts.amounts_of.Goals as goal

pub loop-span-init : goal.loop-span-init
loop-span-init c = walked_none c.args.spans.now c.args.start c.args.past c.zero-amounts.result c.zero-amounts.ensures c.requires

pub overflow_sub-before : goal.overflow_sub-before
overflow_sub-before c =
    let spans = c.args.spans.now in
    let i = c.loop-span.span-index in
    let s = c.span-item.result in
    let left : List Span = drop (i + 1) spans in
    let from = c.loop-span.from in
    let a = c.loop-span.amounts in
    let w : Walked spans (s ∷ left) c.args.start from c.args.past a = walked_here spans i s c.args.start from c.args.past a c.loop-span-test.true c.span-item.is c.loop-span.invariant in
    let h : from ≤ s.start = w.left_from.0 in
    omega arith

pub overflow_sub-within : goal.overflow_sub-within
overflow_sub-within c =
    let spans = c.args.spans.now in
    let i = c.loop-span.span-index in
    let s = c.span-item.result in
    let left : List Span = drop (i + 1) spans in
    let from = c.loop-span.from in
    let a = c.loop-span.amounts in
    let w : Walked spans (s ∷ left) c.args.start from c.args.past a = walked_here spans i s c.args.start from c.args.past a c.loop-span-test.true c.span-item.is c.loop-span.invariant in
    let h : s.start < s.past = w.left_from.1 in
    omega arith

pub add_run-requires : goal.add_run-requires
add_run-requires c =
    let small : whole c.loop-span.amounts ≤ 6 * c.args.past = walked_small c.args.spans.now (drop c.loop-span.span-index c.args.spans.now) c.args.start c.loop-span.from c.args.past c.loop-span.amounts c.loop-span.invariant in
    omega arith

pub add_run-requires-in-loop-span : goal.add_run-requires-in-loop-span
add_run-requires-in-loop-span c =
    let spans = c.args.spans.now in
    let i = c.loop-span.span-index in
    let s = c.span-item.result in
    let left : List Span = drop (i + 1) spans in
    let from = c.loop-span.from in
    let a = c.loop-span.amounts in
    let w : Walked spans (s ∷ left) c.args.start from c.args.past a = walked_here spans i s c.args.start from c.args.past a c.loop-span-test.true c.span-item.is c.loop-span.invariant in
    let b = c.add_run.new.self in
    let gap : IsLonger None (s.start - from) a b =
    longer_by None (c.number.result - c.number-in-loop-span.result) (s.start - from) a b (omega arith) (record { rest = c.add_run.ensures.rest; available = c.add_run.ensures.available; work = c.add_run.ensures.work; drive = c.add_run.ensures.drive; crew = c.add_run.ensures.crew; lacking = c.add_run.ensures.lacking }) in
    let small : whole b ≤ 6 * c.args.past = walked_small spans (s ∷ left) c.args.start s.start c.args.past b (walked_before spans left s c.args.start from c.args.past a b w gap) in
    omega arith

pub loop-span-preserved : goal.loop-span-preserved
loop-span-preserved c =
    let spans = c.args.spans.now in
    let i = c.loop-span.span-index in
    let s = c.span-item.result in
    let left : List Span = drop (i + 1) spans in
    let from = c.loop-span.from in
    let a = c.loop-span.amounts in
    let w : Walked spans (s ∷ left) c.args.start from c.args.past a = walked_here spans i s c.args.start from c.args.past a c.loop-span-test.true c.span-item.is c.loop-span.invariant in
    let b = c.add_run.new.self in
    let gap : IsLonger None (s.start - from) a b =
    longer_by None (c.number.result - c.number-in-loop-span.result) (s.start - from) a b (omega arith) (record { rest = c.add_run.ensures.rest; available = c.add_run.ensures.available; work = c.add_run.ensures.work; drive = c.add_run.ensures.drive; crew = c.add_run.ensures.crew; lacking = c.add_run.ensures.lacking }) in
    let d = c.add_run-in-loop-span.new.self in
    let run : IsLonger (Some s.mark) (s.past - s.start) b d =
    longer_by (Some s.mark) (c.number-in-loop-span-2.result - c.number-in-loop-span-3.result) (s.past - s.start) b d (omega arith) (record { rest = c.add_run-in-loop-span.ensures.rest; available = c.add_run-in-loop-span.ensures.available; work = c.add_run-in-loop-span.ensures.work; drive = c.add_run-in-loop-span.ensures.drive; crew = c.add_run-in-loop-span.ensures.crew; lacking = c.add_run-in-loop-span.ensures.lacking }) in
    walked_next spans left s c.args.start from c.args.past a b d w gap run

pub overflow_sub-after : goal.overflow_sub-after
overflow_sub-after c =
    let h : c.loop-span.from ≤ c.args.past = from_le (drop c.loop-span.span-index c.args.spans.now) c.loop-span.from c.args.past c.loop-span.invariant.left_from in
    omega arith

pub add_run-requires-2 : goal.add_run-requires-2
add_run-requires-2 c =
    let small : whole c.loop-span.amounts ≤ 6 * c.args.past = walked_small c.args.spans.now (drop c.loop-span.span-index c.args.spans.now) c.args.start c.loop-span.from c.args.past c.loop-span.amounts c.loop-span.invariant in
    omega arith

pub returns : goal.returns
returns c =
    let a = c.loop-span.amounts in
    let b = c.add_run-2.new.self in
    let w = walked_over c.args.spans.now c.loop-span.span-index c.args.start c.loop-span.from c.args.past a c.loop-span-test.false c.loop-span.invariant in
    walked_end c.args.spans.now c.args.start c.loop-span.from c.args.past a b w
    (longer_by None (c.number-2.result - c.number-3.result) (c.args.past - c.loop-span.from) a b (omega arith) (record { rest = c.add_run-2.ensures.rest; available = c.add_run-2.ensures.available; work = c.add_run-2.ensures.work; drive = c.add_run-2.ensures.drive; crew = c.add_run-2.ensures.crew; lacking = c.add_run-2.ensures.lacking }))
