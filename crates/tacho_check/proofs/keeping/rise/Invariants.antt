use Rattle.std.proofs.Common.{◌↔◌, drop}
use Rattle.tacho_check.specs.Keeping.{Rise}
use Rattle.tacho_check.proofs.keeping.rise.Given as goal

-- the spans rise if the remaining ones do
abbrev pub invariant-loop-span : goal.invariant-loop-span
invariant-loop-span l = Rise 0 l.spans ↔ Rise l.from ((drop l.span-index l.spans))
