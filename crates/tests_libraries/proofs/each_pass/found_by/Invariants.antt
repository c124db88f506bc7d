use Rattle.std.proofs.Common.{◌≡◌}
use Rattle.tests_libraries.proofs.each_pass.found_by.Given as goal

abbrev pub invariant-loop-span : goal.invariant-loop-span
invariant-loop-span g l = g.P.Pass.place l.pass ≡ l.place
