use Rattle.std.proofs.Common.{map}
use Rattle.tacho_law.specs.Line.{line_of}
use Rattle.tacho_evidence.specs.OfReport.{shown_of}
use Rattle.tacho_evidence.proofs.ReportLemmas.{IsShownTo}
use Rattle.tacho_evidence.proofs.report.evidence_within.Given as goal

abbrev pub invariant-loop-breach : goal.invariant-loop-breach
invariant-loop-breach l =
    IsShownTo (line_of l.examined.spans.now) l.examined.base l.examined.past l.debts l.breaches l.start l.past l.breach-index
    (map shown_of l.found.items) l.anew
