use Rattle.std.proofs.Common.{rules, ◌≡◌, ◌≢◌, ◌<◌, ℕ, ◌+◌, ◌-◌, List, ◌∷◌, length, take, drop, arith, min, max}
use Rattle.tacho_time.specs.declared.span.Activity.TheVariants.{Drive}
use Rattle.tacho_time.specs.declared.span.Span.{Span}
use Rattle.tacho_law.specs.Line.{line_of}
use Rattle.tacho_law.specs.Driving.{driving}
use Rattle.tacho_periods.proofs.DrivingLemmas.{Counted, counted_from, counted_idle, counted_outside}
use Rattle.tacho_periods.proofs.DrivingLemmas.{counted_drive, counted_at, counted_here, counted_over}
use Rattle.tacho_periods.proofs.driving.driving_minute.Goals as goal
use Rattle.tacho_periods.proofs.driving.driving_minute.Goals.{then-is_drive+then-first-end+else-left-end}
use Rattle.tacho_periods.proofs.driving.driving_minute.Goals.{then-is_drive+else-first-end, else-is_drive}

pub loop-span-init : goal.loop-span-init
loop-span-init c =
    let e : c.args.k - c.args.k ≡ 0 = omega arith in
    record {
      some = c.requires.first;
      within = omega arith;
      counted =
          rw e
          (counted_from c.args.examined.now.spans.now c.args.examined.now.base c.args.examined.now.past
          c.args.from c.args.to c.ended_by.result c.requires.examined.joined c.ended_by.ensures.ended);
    }

pub returns-then-left-end : goal.returns-then-left-end
returns-then-left-end c =
    let xs : List Span = c.args.examined.now.spans.now in
    let ys : List Span = take (length xs - c.ended_by.result) (drop c.ended_by.result xs) in
    let i : ℕ = c.loop-span.span-index in
    let s : Span = c.span-item.result in
    let left : List Span = drop (i + 1) ys in
    let n : ℕ = c.args.k - c.loop-span.left in
    let r : Counted xs (s ∷ left) c.args.examined.now.past c.args.from c.args.to n =
    counted_here xs ys i s c.args.examined.now.past c.args.from c.args.to n
    c.loop-span-test.true c.span-item.is c.loop-span.invariant.counted in
    let d : s.mark.activity ≡ Drive = search rules in
    let some : max s.start c.args.from < min s.past c.args.to = omega arith in
    let e : n + (c.loop-span.left - 1) + 1 ≡ c.args.k = omega arith in
    let f : c.max-first.result ≡ max s.start c.args.from = omega arith in
    rw f
    (rw e at (counted_at xs left s c.args.examined.now.past c.args.from
    c.args.to n r d some (c.loop-span.left - 1) (omega arith)))

pub loop-span-preserved : goal.loop-span-preserved
loop-span-preserved c =
    let xs : List Span = c.args.examined.now.spans.now in
    let ys : List Span = take (length xs - c.ended_by.result) (drop c.ended_by.result xs) in
    let i : ℕ = c.loop-span.span-index in
    let s : Span = c.span-item.result in
    let left : List Span = drop (i + 1) ys in
    let n : ℕ = c.args.k - c.loop-span.left in
    let r : Counted xs (s ∷ left) c.args.examined.now.past c.args.from c.args.to n =
    counted_here xs ys i s c.args.examined.now.past c.args.from c.args.to n
    c.loop-span-test.true c.span-item.is c.loop-span.invariant.counted in
    elim c.if-is_drive.branch [
      | then-is_drive+then-first-end+else-left-end w ↦
          let d : s.mark.activity ≡ Drive = search rules in
          let some : max s.start c.args.from < min s.past c.args.to = omega arith in
          let e : n + (min s.past c.args.to - max s.start c.args.from) ≡ c.args.k - c.if-is_drive.left = omega arith in
          record {
            some = omega arith;
            within = omega arith;
            counted = rw e at (counted_drive xs left s c.args.examined.now.past c.args.from c.args.to n r d some);
          }
      | then-is_drive+else-first-end w ↦
          record {
            some = omega arith;
            within = omega arith;
            counted =
                rw w.left-is
                (counted_outside xs left s c.args.examined.now.past c.args.from c.args.to n r (omega arith));
          }
      | else-is_drive w ↦
          let idle : s.mark.activity ≢ Drive = search rules in
          record {
            some = omega arith;
            within = omega arith;
            counted = rw w.left-is (counted_idle xs left s c.args.examined.now.past c.args.from c.args.to n r idle);
          }
    ]

pub returns-after-loop-span : goal.returns-after-loop-span
returns-after-loop-span c =
    let xs : List Span = c.args.examined.now.spans.now in
    let ys : List Span = take (length xs - c.ended_by.result) (drop c.ended_by.result xs) in
    let n : ℕ = c.args.k - c.loop-span.left in
    let e : n ≡ driving (line_of xs) c.args.from c.args.to =
    counted_over xs ys c.loop-span.span-index c.args.examined.now.past c.args.from
    c.args.to n c.loop-span-test.false c.loop-span.invariant.counted in
    let some : 0 < c.loop-span.left = c.loop-span.invariant.some in
    omega (arith, some, c.loop-span.invariant.within)
