use Rattle.std.proofs.Common.{rules, ◌<◌, ◌≤◌, [], ◌∷◌, ◌++◌, sym, ◌∙◌, arith}
use Rattle.std.proofs.lemmas.Bool.Decides.{nat_tests}
use Rattle.tacho_stretches.specs.Pass.{examining}
use Rattle.tacho_stretches.proofs.PassLemmas.{still, stopped, gap_there, crew_there}
use Rattle.tacho_stretches.proofs.pass.examine_span.Goals as goal

pub returns-then-le-clause-taken : goal.returns-then-le-clause-taken
returns-then-le-clause-taken c =
    let e = examining c.args.examination.now c.args.found.now in
    let s = c.args.span.now in
    let le : s.past ≤ e.minute = search rules in
    λ past spans next is. (le, still e spans (s ∷ []) is.1)

pub returns-then-lt-clause-taken : goal.returns-then-lt-clause-taken
returns-then-lt-clause-taken c =
    let e = examining c.args.examination.now c.args.found.now in
    let s = c.args.span.now in
    let lt : e.minute < s.start = search rules in
    λ past spans next is.
    stopped spans past s next e c.in_ok-end.field-0 is.0 (let some = next.some in omega (arith, lt, some))
    c.in_ok-end.ensures.minute
    (c.in_ok-end.ensures.report (spans ++ s ∷ []) (still e spans (s ∷ []) is.1) (gap_there spans past s next e.minute is.0 lt))

pub returns-then-span-clause-taken : goal.returns-then-span-clause-taken
returns-then-span-clause-taken c =
    let e = examining c.args.examination.now c.args.found.now in
    let s = c.args.span.now in
    let not_before = sym c.lt.ensures ∙ c.if-lt.false in
    let ge : s.start ≤ e.minute = grind (arith, nat_tests, not_before) in
    let not = sym c.le.ensures ∙ c.if-le.false in
    let lt : e.minute < s.past = grind (arith, nat_tests, not) in
    λ past spans next is.
    stopped spans past s next e c.in_ok-end-2.field-0 is.0 lt c.in_ok-end-2.ensures.minute
    (c.in_ok-end-2.ensures.report (spans ++ s ∷ []) (still e spans (s ∷ []) is.1)
    (crew_there spans past s next e.minute ge lt c.if-span.true))

pub returns-clause-taken : goal.returns-clause-taken
returns-clause-taken c =
    let e = examining c.args.examination.now c.args.found.now in
    let s = c.args.span.now in
    let not_before = sym c.lt.ensures ∙ c.if-lt.false in
    let ge : s.start ≤ e.minute = grind (arith, nat_tests, not_before) in
    let at = c.in_ok-go_on.ensures.minute in
    λ past spans next is. (
      omega (arith, at),
      c.in_ok-go_on.ensures.taken spans is.1 (λ m l. next.ended m (let le = is.0 in omega (arith, le, l))) ge c.if-span.false,
    )
