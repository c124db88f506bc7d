use Rattle.std.proofs.Common.{rules, ◌≡◌, ◌≢◌, ℕ, ◌+◌, ◌<◌, ◌≤◌, arith, List, [], ◌∷◌, drop, subst}
use Rattle.std.proofs.lemmas.List.{drop_all}
use Rattle.tacho_time.specs.declared.span.Activity.TheVariants.{Rest}
use Rattle.tacho_time.specs.declared.span.Span.{Span}
use Rattle.tacho_law.specs.declared.run.Run.{Run}
use Rattle.tacho_law.proofs.RunsLemmas.{Running, running_none, running_rest, running_busy}
use Rattle.tacho_law.proofs.RunsLemmas.{running_gap, running_end}
use Rattle.tacho_periods.proofs.RunsLemmas.{running_here}
use Rattle.tacho_periods.proofs.runs.rest_runs.Goals as goal
use Rattle.tacho_periods.proofs.runs.rest_runs.Goals.{then-not-is_rest, then-start-stop+in_ok-push}
use Rattle.tacho_periods.proofs.runs.rest_runs.Goals.{else-start-stop, else-not-is_rest}

pub loop-span-init : goal.loop-span-init
loop-span-init c =
    rw c.new-runs.ensures.items
    (running_none c.args.examined.now.spans.now c.args.examined.now.base c.args.examined.now.past c.requires.joined)

pub loop-span-preserved : goal.loop-span-preserved
loop-span-preserved c =
    let xs : List Span = c.args.examined.now.spans.now in
    let i : ℕ = c.loop-span.span-index in
    let s : Span = c.span-item.result in
    let left : List Span = drop (i + 1) xs in
    let runs : List Run = c.loop-span.runs.items in
    let start : ℕ = c.loop-span.start in
    let past : ℕ = c.args.examined.now.past in
    let r : Running xs (s ∷ left) past runs start =
    running_here xs i s past runs start c.loop-span-test.true c.span-item.is c.loop-span.invariant in
    elim c.if-not-is_rest.branch [
      | then-not-is_rest w ↦
          let n : s.mark.activity ≢ Rest = search rules in
          elim w.if-start-stop.branch [
            | then-start-stop+in_ok-push w' ↦
                let gap : start < s.start = omega arith in
                rw (
                  w.runs-is,
                  w.start-is,
                  w'.runs-is,
                  w'.in_ok-push.ensures.items,
                  w.number-stop.ensures.value,
                  w.number-start.ensures.value,
                )
                (running_gap xs left s past runs start r n gap
                (let within : c.args.examined.now.past ≤ 68374080 = c.requires.within in omega arith))
            | else-start-stop w' ↦
                let none : s.start ≤ start = omega arith in
                rw (w.runs-is, w.start-is, w'.runs-is, w.number-start.ensures.value)
                (running_busy xs left s past runs start r n none)
          ]
      | else-not-is_rest w ↦
          let e : s.mark.activity ≡ Rest = search rules in
          rw (w.runs-is, w.start-is) (running_rest xs left s past runs start r e)
    ]

pub returns : goal.returns
returns c =
    let xs : List Span = c.args.examined.now.spans.now in
    let i : ℕ = c.loop-span.span-index in
    let none : drop i xs ≡ [] = drop_all i xs c.loop-span-test.false in
    let r : Running xs [] c.args.examined.now.past c.loop-span.runs.items c.loop-span.start =
    subst (λ (ys : List Span). Running xs ys c.args.examined.now.past c.loop-span.runs.items c.loop-span.start)
    none c.loop-span.invariant in
    rw c.in_ok-push-2.ensures.items
    (running_end xs c.args.examined.now.past c.loop-span.runs.items c.loop-span.start r
    (let within : c.args.examined.now.past ≤ 68374080 = c.requires.within in omega arith))
