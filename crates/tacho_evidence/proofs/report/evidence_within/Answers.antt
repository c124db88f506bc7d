use Rattle.std.proofs.Common.{◌≡◌, ◌≢◌, ◌+◌, ◌≤◌, ◌<◌, ℕ, List, true, false, get_or, map, subst, sym}
use Rattle.std.proofs.lemmas.List.{map-append}
use Rattle.tacho_law.specs.declared.breach.Breach.{Breach}
use Rattle.tacho_law.specs.declared.breach.Kind.TheVariants.{B9}
use Rattle.tacho_law.specs.Breaches.{IsBreach}
use Rattle.tacho_law.specs.Line.{line_of, Line}
use Rattle.tacho_law.specs.Weeks.{week_start}
use Rattle.tacho_evidence.specs.Anew.{IsAnewFor}
use Rattle.tacho_evidence.specs.OfReport.{shown_of, IsEvidence}
use Rattle.tacho_evidence.proofs.ReportLemmas.{anew_for, failed_early, fails_after, fails_before, is_breach, is_within, judged_by, last_after, passes_both, shown_more, shown_same}
use Rattle.tacho_evidence.proofs.report.evidence_within.Goals as goal
use Rattle.tacho_evidence.proofs.report.evidence_within.Goals.{then-le+then-lt+in_ok-lines+in_ok-push, else-le, else-le-via-then-le+else-lt, else-le-via-else-le}

pub lines_of-requires-clause-breach : goal.lines_of-requires-clause-breach
lines_of-requires-clause-breach c =
    let line : Line = line_of c.args.examined.now.spans.now in
    let found : List Breach = c.args.breaches.now in
    let x : Breach = c.breach-item.result in
    subst (λ (b : Breach). IsBreach line c.args.examined.now.base c.args.examined.now.past c.in_ok-periods.periods.breaks.items
    c.args.debts.now b.kind b) (sym c.breach-item.is)
    (is_breach line c.args.examined.now.base c.args.examined.now.past c.in_ok-periods.periods.breaks.items c.args.debts.now found
    (judged_by line c.args.examined.now.base c.args.examined.now.past found c.args.debts.now
    c.in_ok-periods.periods.runs.items c.in_ok-periods.periods.breaks.items
    c.requires.report c.in_ok-periods.ensures.runs c.in_ok-periods.ensures.breaks)
    c.loop-breach.breach-index x c.loop-breach-test.true)

pub lines_of-requires-clause-anew : goal.lines_of-requires-clause-anew
lines_of-requires-clause-anew c =
    let line : Line = line_of c.args.examined.now.spans.now in
    let x : Breach = c.breach-item.result in
    let r = c.requires.report in
    subst (λ (b : Breach). IsAnewFor line c.args.examined.now.base c.args.examined.now.past c.loop-breach.anew b) (sym c.breach-item.is)
    (anew_for line c.args.examined.now.base c.args.examined.now.past r.breaks c.args.debts.now c.args.breaches.now r.exactly
    c.loop-breach.breach-index x c.loop-breach-test.true c.loop-breach.anew c.loop-breach.invariant.last)

pub anew_after-anew-requires-clause-from : goal.anew_after-anew-requires-clause-from
anew_after-anew-requires-clause-from c =
    let r = c.requires.report in
    subst (λ (b : Breach). b.kind ≡ B9 → 5760 ≤ b.since) (sym c.breach-item.is)
    (λ kind. (failed_early (line_of c.args.examined.now.spans.now) c.args.examined.now.base c.args.examined.now.past r.breaks
    c.args.debts.now c.args.breaches.now r.exactly c.loop-breach.breach-index c.breach-item.result c.loop-breach-test.true
    c.requires.examined.within kind).0)

pub anew_after-anew-requires-clause-in_range : goal.anew_after-anew-requires-clause-in_range
anew_after-anew-requires-clause-in_range c =
    let r = c.requires.report in
    subst (λ (b : Breach). b.kind ≡ B9 → b.since < 68428800) (sym c.breach-item.is)
    (λ kind. (failed_early (line_of c.args.examined.now.spans.now) c.args.examined.now.base c.args.examined.now.past r.breaks
    c.args.debts.now c.args.breaches.now r.exactly c.loop-breach.breach-index c.breach-item.result c.loop-breach-test.true
    c.requires.examined.within kind).1)

pub loop-breach-preserved : goal.loop-breach-preserved
loop-breach-preserved c =
    let line : Line = line_of c.args.examined.now.spans.now in
    let base : ℕ = c.args.examined.now.base in
    let horizon : ℕ = c.args.examined.now.past in
    let found : List Breach = c.args.breaches.now in
    let i : ℕ = c.loop-breach.breach-index in
    let x : Breach = c.breach-item.result in
    let r = c.requires.report in
    let next : ℕ = c.anew_after-anew.result in
    record {
      are = elim c.if-le.branch [
        | then-le+then-lt+in_ok-lines+in_ok-push w ↦
            let same : x ≡ get_or found i x = c.breach-item.is in
            let passes : is_within c.args.start c.args.past x ≡ true =
            passes_both c.args.start c.args.past x w.if-le.ensures w.if-lt.ensures in
            let is : IsEvidence line base horizon c.args.debts.now x w.in_ok-lines.lines.items = record {
              runs = c.in_ok-periods.periods.runs.items;
              breaks = c.in_ok-periods.periods.breaks.items;
              are_runs = c.in_ok-periods.ensures.runs;
              are_breaks = c.in_ok-periods.ensures.breaks;
              shows = w.in_ok-lines.ensures;
            } in
            rw (w.found-is, w.in_ok-push.ensures.items, map-append shown_of c.loop-breach.found.items)
            (shown_more line base horizon c.args.debts.now found c.args.start c.args.past i x (map shown_of c.loop-breach.found.items)
            (record { breach = x; lines = w.in_ok-lines.lines.items }) c.loop-breach-test.true c.loop-breach.invariant.are same
            (subst (λ (b : Breach). is_within c.args.start c.args.past b ≡ true) same passes) is)
        | else-le w ↦
            let same : x ≡ get_or found i x = c.breach-item.is in
            let fails : is_within c.args.start c.args.past x ≡ false = elim w.else-le.branch [
              | else-le-via-then-le+else-lt w' ↦ fails_after c.args.start c.args.past x w'.if-lt.ensures
              | else-le-via-else-le w' ↦ fails_before c.args.start c.args.past x w'.if-le.ensures
            ] in
            rw w.found-is
            (shown_same line base horizon c.args.debts.now found c.args.start c.args.past i x (map shown_of c.loop-breach.found.items)
            c.loop-breach-test.true c.loop-breach.invariant.are
            (subst (λ (b : Breach). is_within c.args.start c.args.past b ≡ false) same fails))
      ];
      last = last_after line base horizon r.breaks c.args.debts.now found r.exactly i x c.loop-breach-test.true
          c.loop-breach.anew c.loop-breach.invariant.last next
          (subst (λ (b : Breach). b.kind ≡ B9 → (week : ℕ) → b.since ≡ week_start week → next ≡ week + 1) c.breach-item.is
          c.anew_after-anew.ensures.failed)
          (subst (λ (b : Breach). b.kind ≢ B9 → next ≡ c.loop-breach.anew) c.breach-item.is c.anew_after-anew.ensures.other);
    }
