use Rattle.std.proofs.Common.{refl, lit≤}
use Rattle.tests_libraries.proofs.each_pass.found_by.Goals as goal

pub new-pass-requires-clause-monday : goal.new-pass-requires-clause-monday
new-pass-requires-clause-monday g c = rw c.new-base.ensures (record { week = 2826; monday = refl; from = lit≤ tt })
