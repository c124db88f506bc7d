use Rattle.std.proofs.Common.{◌≡◌, ◌++◌, map, take}
use Rattle.tacho_evidence.specs.declared.line.EvidenceLine.TheVariants.{Drive}
use Rattle.tacho_evidence.specs.Totals.{raised}
use Rattle.tacho_evidence.proofs.weeks.append_spans.Given as goal

abbrev pub invariant-loop-span : goal.invariant-loop-span
invariant-loop-span l = l.lines.items ≡ l.initial.lines.items ++ map Drive (map (raised l.before) (take l.span-index l.spans))
