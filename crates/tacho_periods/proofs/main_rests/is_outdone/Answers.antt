use Rattle.std.proofs.Common.{◌≡◌, ◌≤◌, ◌<◌, ◌+◌, ℕ, List, get_or, refl, arith, true, false}
use Rattle.std.proofs.lemmas.List.Elements.{All-contains, Contains-get_or}
use Rattle.tacho_law.specs.declared.run.Run.{Run}
use Rattle.tacho_law.specs.Weeks.{week_start}
use Rattle.tacho_periods.proofs.RunsLemmas.{no_run}
use Rattle.tacho_periods.specs.MainRests.{IsBetter}
use Rattle.tacho_periods.proofs.MainRestLemmas.{all_more, all_seen}
use Rattle.tacho_periods.proofs.main_rests.is_outdone.Goals as goal
use Rattle.tacho_periods.proofs.main_rests.is_outdone.Goals.{else-start-other-via-then-start-other+else-is_better}
use Rattle.tacho_periods.proofs.main_rests.is_outdone.Goals.{else-start-other-via-else-start-other}

pub loop-other-init : goal.loop-other-init
loop-other-init c = λ k d within. absurd (omega arith)

pub returns-then-is_better : goal.returns-then-is_better
returns-then-is_better c =
    let items : List Run = c.touching-other-items.result.now in
    let i : ℕ = c.loop-other.other-index in
    let start : c.number-start.result ≡ week_start c.args.week = omega arith in
    let end : c.number-end.result ≡ week_start (c.args.week + 1) = omega arith in
    let in' =
    (c.touching-other-items.ensures.each (get_or items i no_run)).0
    (Contains-get_or items i no_run c.loop-other-test.true) in
    let low : c.number-start.result ≤ (get_or items i no_run).start = c.if-start-other.true in
    let high : (get_or items i no_run).start < c.number-end.result = in'.1 in
    let better : IsBetter c.args.horizon (get_or items i no_run) c.args.rest =
    c.is_better.ensures.0 c.if-is_better.true in
    (λ h. (get_or items i no_run, in'.0, (omega arith, omega arith), better), λ h. refl)

pub loop-other-preserved : goal.loop-other-preserved
loop-other-preserved c =
    let items : List Run = c.touching-other-items.result.now in
    let i : ℕ = c.loop-other.other-index in
    all_more (λ (other : Run). c.number-start.result ≤ other.start → IsBetter c.args.horizon other c.args.rest → ⊥)
    items i no_run c.loop-other-test.true c.loop-other.invariant
    (elim c.else-start-other.branch [
      | else-start-other-via-then-start-other+else-is_better w ↦ λ low better.
          (let h = w.is_better.ensures.1 better in let f = w.if-is_better.false in cc)
      | else-start-other-via-else-start-other w ↦ λ low better. (let f = w.if-start-other.false in omega arith)
    ])

pub returns : goal.returns
returns c =
    let items : List Run = c.touching-other-items.result.now in
    let start : c.number-start.result ≡ week_start c.args.week = omega arith in
    let end : c.number-end.result ≡ week_start (c.args.week + 1) = omega arith in (
      λ h. absurd (let e : false ≡ true = h in cc),
      λ (x, in', (low, high), better). absurd
          (let some : x.start < x.past =
          All-contains (λ (y : Run). y.start < y.past) c.args.weekly.now x c.requires.in_time.some in' in
          all_seen
          (λ (other : Run). c.number-start.result ≤ other.start → IsBetter c.args.horizon other c.args.rest → ⊥)
          items c.loop-other.other-index c.loop-other-test.false c.loop-other.invariant x
          ((c.touching-other-items.ensures.each x).1 (in', omega arith, omega arith)) (omega arith) better),
    )
