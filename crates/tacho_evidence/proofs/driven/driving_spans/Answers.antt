use Rattle.std.proofs.Common.{rules, ◌≡◌, ◌≢◌, ◌+◌, ◌<◌, ◌∷◌, inl, inr, drop, length, take, ℕ, ◌-◌, List, arith, min, max}
use Rattle.std.proofs.lemmas.Bool.{cases_lt}
use Rattle.std.proofs.lemmas.List.{drop_all}
use Rattle.tacho_time.specs.declared.span.Activity.TheVariants.{Drive}
use Rattle.tacho_time.specs.declared.span.Span.{Span}
use Rattle.tacho_law.proofs.RunsLemmas.{place_of}
use Rattle.tacho_evidence.specs.declared.driven.DrivenSpan.{DrivenSpan}
use Rattle.tacho_evidence.proofs.DrivenLemmas.{Driving, IsOver, ends_rise, driving_none, driving_here, here_ends, place_here, driving_drive}
use Rattle.tacho_evidence.proofs.DrivenLemmas.{driving_idle, driving_stop, driving_over, driving_last}
use Rattle.tacho_evidence.proofs.driven.driving_spans.Goals as goal
use Rattle.tacho_evidence.proofs.driven.driving_spans.Goals.{then-ne+in_ok-append, else-ne}
use Rattle.tacho_evidence.proofs.driven.driving_spans.Goals.{else-loop-span-test, then-loop-span-test+then-to-number}

pub ended_by-requires : goal.ended_by-requires
ended_by-requires c = ends_rise c.args.spans.now c.args.base c.args.past c.requires.joined

pub loop-span-init : goal.loop-span-init
loop-span-init c =
    let e : c.max-start.result ≡ max c.args.from c.args.base = omega arith in
    rw (c.new-driven.ensures.items, e)
    (driving_none c.args.spans.now c.args.base c.args.past c.args.from c.args.to c.ended_by.result
    c.requires.joined c.ended_by.ensures.ended)

pub loop-span-preserved : goal.loop-span-preserved
loop-span-preserved c =
    let xs : List Span = c.args.spans.now in
    let ys : List Span = take (length xs - c.ended_by.result) (drop c.ended_by.result xs) in
    let i : ℕ = c.loop-span.span-index in
    let s : Span = c.span-item.result in
    let left : List Span = drop (i + 1) ys in
    let driven : List DrivenSpan = c.loop-span.driven.items in
    let start : ℕ = c.loop-span.start in
    let r : Driving xs (s ∷ left) c.args.past c.args.from c.args.to driven start =
    driving_here xs ys i s c.args.past c.args.from c.args.to driven start
    c.loop-span-test.true c.span-item.is c.loop-span.invariant in
    let late : c.args.from < s.past =
    here_ends xs c.args.from c.ended_by.result i s c.ended_by.ensures.later c.loop-span-test.true c.span-item.is in
    elim c.if-ne.branch [
      | then-ne+in_ok-append w ↦
          let n : s.mark.activity ≢ Drive = search rules in
          rw (w.driven-is, w.start-is, w.number-start.ensures.value)
          (elim (cases_lt start s.start) [
            | inl some ↦
                driving_stop xs left s c.args.past c.args.from c.args.to driven start r w.append.new.driven.items n late
                some (omega arith) (search rules)
            | inr none ↦
                driving_idle xs left s c.args.past c.args.from c.args.to driven start r w.append.new.driven.items n late
                none (search rules)
          ])
      | else-ne w ↦
          let d : s.mark.activity ≡ Drive = search rules in
          rw (w.driven-is, w.start-is) (driving_drive xs left s c.args.past c.args.from c.args.to driven start r d)
    ]

pub returns : goal.returns
returns c =
    let xs : List Span = c.args.spans.now in
    let ys : List Span = take (length xs - c.ended_by.result) (drop c.ended_by.result xs) in
    let i : ℕ = c.loop-span.span-index in
    let left : List Span = drop i ys in
    let over : IsOver left c.args.past c.args.to = elim c.loop-span-test.branch [
      | else-loop-span-test w ↦ inl (drop_all i ys w.loop-span-test.false)
      | then-loop-span-test+then-to-number w ↦
          let place : place_of left c.args.past ≡ w.span-item.result.start =
          place_here ys i w.span-item.result c.args.past w.loop-span-test.true w.span-item.is in
          inr (omega arith)
    ] in
    let e : c.min.result ≡ min c.args.past c.args.to = omega arith in
    let r : Driving xs left c.args.past c.args.from c.args.to c.loop-span.driven.items c.loop-span.start =
    c.loop-span.invariant in
    elim (cases_lt c.loop-span.start c.min.result) [
      | inl some ↦
          let f = c.in_ok-append-2.ensures.some some in
          driving_last xs left c.args.past c.args.from c.args.to c.loop-span.driven.items c.loop-span.start r over
          c.append-2.new.driven.items (omega arith) (rw e at f)
      | inr none ↦
          driving_over xs left c.args.past c.args.from c.args.to c.loop-span.driven.items c.loop-span.start r over
          c.append-2.new.driven.items (omega arith) (c.in_ok-append-2.ensures.none none)
    ]
