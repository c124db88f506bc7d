use Rattle.tacho_law.specs.Line.{line_of, Line}
use Rattle.tacho_evidence.specs.OfReport.{AreJudged}
use Rattle.tacho_rules.proofs.SliceLemmas.{as_line, slice_examined}
use Rattle.tacho_sheet.proofs.WhyLemmas.{judged, on_found}
use Rattle.tacho_sheet.proofs.why.evidence_of.Goals as goal

pub evidence_within-requires-clause-examined : goal.evidence_within-requires-clause-examined
evidence_within-requires-clause-examined c =
    slice_examined c.requires.report.is_horizon c.in_ok-spans.ensures c.deref.ensures.value c.requires.examined.is_base
    c.requires.examined.in_range c.requires.examined.within

pub evidence_within-requires-clause-report : goal.evidence_within-requires-clause-report
evidence_within-requires-clause-report c =
    let r = c.args.report.now in
    let past = r.horizon.minute in
    rw (c.deref-2.ensures.value, c.deref-3.ensures.value)
    (as_line c.requires.report.is_horizon c.in_ok-spans.ensures
    (λ (x : Line). AreJudged x c.args.monday past r.breaches.items r.debts.items
    → AreJudged (line_of c.deref.result.now) c.args.monday past r.breaches.items r.debts.items)
    c.deref.ensures.value (λ j. j)
    (judged c.args.line.now c.args.monday r.horizon r.breaches.items r.debts.items c.requires.report))

pub returns : goal.returns
returns c =
    let r = c.args.report.now in
    on_found c.evidence_within.result c.evidence_within.ensures (λ found are. record {
      spans = c.deref.result.now;
      slice = rw c.deref.ensures.value c.in_ok-spans.ensures;
      are = rw (c.deref-2.ensures.value, c.deref-3.ensures.value) at are;
    })
