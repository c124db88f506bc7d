use Rattle.std.proofs.Common.{drop}
use Rattle.tacho_law.specs.Line.{Joined}
use Rattle.tool_rows.proofs.rules.are_joined.Given as goal

abbrev pub invariant-loop-span : goal.invariant-loop-span
invariant-loop-span l = Joined (drop l.span-index l.spans) l.place l.to → Joined l.spans l.fn.from l.to
