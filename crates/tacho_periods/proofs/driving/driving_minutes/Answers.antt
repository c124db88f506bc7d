use Rattle.std.proofs.Common.{rules, ◌≡◌, ◌≢◌, ◌<◌, ◌≤◌, ℕ, ◌+◌, ◌-◌, List, ◌∷◌, length, take, drop, arith, min, max}
use Rattle.tacho_time.specs.declared.span.Activity.TheVariants.{Drive}
use Rattle.tacho_time.specs.declared.span.Span.{Span}
use Rattle.tacho_periods.proofs.DrivingLemmas.{Counted, counted_from, counted_idle, counted_outside}
use Rattle.tacho_periods.proofs.DrivingLemmas.{counted_drive, counted_here, counted_over, counted_le}
use Rattle.tacho_periods.proofs.driving.driving_minutes.Goals as goal
use Rattle.tacho_periods.proofs.driving.driving_minutes.Goals.{then-is_drive+then-first-end}
use Rattle.tacho_periods.proofs.driving.driving_minutes.Goals.{then-is_drive+else-first-end, else-is_drive}

pub loop-span-init : goal.loop-span-init
loop-span-init c =
    counted_from c.args.examined.now.spans.now c.args.examined.now.base c.args.examined.now.past
    c.args.from c.args.to c.ended_by.result c.requires.joined c.ended_by.ensures.ended

pub overflow_add-count : goal.overflow_add-count
overflow_add-count c =
    let xs : List Span = c.args.examined.now.spans.now in
    let ys : List Span = take (length xs - c.ended_by.result) (drop c.ended_by.result xs) in
    let i : ℕ = c.loop-span.span-index in
    let s : Span = c.span-item.result in
    let left : List Span = drop (i + 1) ys in
    let r : Counted xs (s ∷ left) c.args.examined.now.past c.args.from c.args.to c.loop-span.count =
    counted_here xs ys i s c.args.examined.now.past c.args.from c.args.to
    c.loop-span.count c.loop-span-test.true c.span-item.is c.loop-span.invariant in
    let d : s.mark.activity ≡ Drive = search rules in
    let some : max s.start c.args.from < min s.past c.args.to = omega arith in
    let next = counted_drive xs left s c.args.examined.now.past c.args.from c.args.to c.loop-span.count r d some in
    let le : c.loop-span.count + (min s.past c.args.to - max s.start c.args.from) ≤ c.args.to =
    counted_le xs left c.args.examined.now.past c.args.from c.args.to
    (c.loop-span.count + (min s.past c.args.to - max s.start c.args.from)) next in
    omega arith

pub loop-span-preserved : goal.loop-span-preserved
loop-span-preserved c =
    let xs : List Span = c.args.examined.now.spans.now in
    let ys : List Span = take (length xs - c.ended_by.result) (drop c.ended_by.result xs) in
    let i : ℕ = c.loop-span.span-index in
    let s : Span = c.span-item.result in
    let left : List Span = drop (i + 1) ys in
    let n : ℕ = c.loop-span.count in
    let r : Counted xs (s ∷ left) c.args.examined.now.past c.args.from c.args.to n =
    counted_here xs ys i s c.args.examined.now.past c.args.from c.args.to
    n c.loop-span-test.true c.span-item.is c.loop-span.invariant in
    elim c.if-is_drive.branch [
      | then-is_drive+then-first-end w ↦
          let d : s.mark.activity ≡ Drive = search rules in
          let some : max s.start c.args.from < min s.past c.args.to = omega arith in
          let e : c.if-is_drive.count ≡ n + (min s.past c.args.to - max s.start c.args.from) = omega arith in
          rw e (counted_drive xs left s c.args.examined.now.past c.args.from c.args.to n r d some)
      | then-is_drive+else-first-end w ↦
          rw w.count-is (counted_outside xs left s c.args.examined.now.past c.args.from c.args.to n r (omega arith))
      | else-is_drive w ↦
          let idle : s.mark.activity ≢ Drive = search rules in
          rw w.count-is (counted_idle xs left s c.args.examined.now.past c.args.from c.args.to n r idle)
    ]

pub returns-after-loop-span : goal.returns-after-loop-span
returns-after-loop-span c =
    let xs : List Span = c.args.examined.now.spans.now in
    let ys : List Span = take (length xs - c.ended_by.result) (drop c.ended_by.result xs) in
    counted_over xs ys c.loop-span.span-index c.args.examined.now.past c.args.from
    c.args.to c.loop-span.count c.loop-span-test.false c.loop-span.invariant
