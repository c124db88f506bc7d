use Rattle.tacho_ahead.proofs.EndedLemmas.{AreMissing}
use Rattle.tacho_ahead.proofs.outlook.missing.Given as goal

abbrev pub invariant-loop-breach : goal.invariant-loop-breach
invariant-loop-breach l = AreMissing l.breaches l.others l.breach-index l.missing.items
