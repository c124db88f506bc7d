use Rattle.std.proofs.Common.{◌≡◌, ◌+◌, ◌-◌, ◌<◌, ◌≤◌, ℕ, List, drop, map, sym, subst, arith}
use Rattle.std.proofs.lemmas.Bool.Decides.{nat_tests}
use Rattle.tacho_stretches.specs.declared.stretch.Stretch.{Stretch}
use Rattle.tacho_stretches.specs.Stretches.{Judged, judged_of}
use Rattle.tacho_sheet.proofs.MonthLemmas.{IsCounted, later_is, earlier_is, counted_none, counted_first, counted_others, counted_all, told_next, told_all}
use Rattle.tacho_sheet.proofs.months.examined_in.Goals as goal
use Rattle.tacho_sheet.proofs.months.examined_in.Goals.{then-lt, else-lt}

pub loop-stretch-init : goal.loop-stretch-init
loop-stretch-init c = record {
  few = omega arith;
  early = c.requires;
  counted = λ base end follow. counted_none (map judged_of c.args.stretches.now) c.args.start c.args.past base end follow;
}

pub loop-stretch-preserved : goal.loop-stretch-preserved
loop-stretch-preserved c =
    let xs : List Stretch = c.args.stretches.now in
    let all : List Judged = map judged_of xs in
    let i : ℕ = c.loop-stretch.stretch-index in
    let s : Stretch = c.stretch-item.result in
    let left : List Judged = map judged_of (drop (i + 1) xs) in
    let start : ℕ = c.args.start in
    let past : ℕ = c.args.past in
    let from : ℕ = c.loop-stretch.from in
    let examined : ℕ = c.loop-stretch.examined in
    let low : ℕ = c.max-first.result in
    let high : ℕ = c.min-end.result in
    let l = later_is from s.monday low c.max-first.ensures in
    let h = earlier_is past s.report.horizon.minute high c.min-end.ensures in
    let above : from ≤ low = l.0 in
    let below : high ≤ past = h.0 in
    let left_is = told_next xs i s c.loop-stretch-test.true c.stretch-item.is in
    let few : start + examined ≤ from = c.loop-stretch.invariant.few in
    let early : from ≤ past = c.loop-stretch.invariant.early in
    elim c.if-lt.branch [
      | then-lt w ↦
          let lt : low < high = grind (arith, nat_tests) in
          let new : c.if-lt.examined ≡ examined + (high - low) = omega arith in
          let at : c.if-lt.from ≡ high = w.from-is in
          record {
            few = omega arith;
            early = omega arith;
            counted = λ base end follow.
                subst (λ (m : ℕ). IsCounted all left start m past c.if-lt.examined end) (sym at)
                (counted_first all left (judged_of s) start from past examined end low high c.if-lt.examined above l.1 l.2 below h.1 h.2 lt new
                (subst (λ (ys : List Judged). IsCounted all ys start from past examined end) left_is
                (c.loop-stretch.invariant.counted base end follow)));
          }
      | else-lt w ↦
          let ge : high ≤ low = grind (arith, nat_tests) in
          let same : c.if-lt.examined ≡ examined = w.examined-is in
          let at : c.if-lt.from ≡ from = w.from-is in
          record {
            few = omega arith;
            early = omega arith;
            counted = λ base end follow.
                subst (λ (m : ℕ). IsCounted all left start m past c.if-lt.examined end) (sym at)
                (subst (λ (n : ℕ). IsCounted all left start from past n end) (sym same)
                (counted_others all left (judged_of s) start from past examined end low high l.2 h.2 ge early
                (subst (λ (ys : List Judged). IsCounted all ys start from past examined end) left_is
                (c.loop-stretch.invariant.counted base end follow))));
          }
    ]

pub returns : goal.returns
returns c = λ base end follow.
    let xs : List Stretch = c.args.stretches.now in
    counted_all (map judged_of xs) c.args.start c.loop-stretch.from c.args.past c.loop-stretch.examined end
    (subst (λ (ys : List Judged). IsCounted (map judged_of xs) ys c.args.start c.loop-stretch.from c.args.past c.loop-stretch.examined end)
    (told_all xs c.loop-stretch.stretch-index c.loop-stretch-test.false) (c.loop-stretch.invariant.counted base end follow))
