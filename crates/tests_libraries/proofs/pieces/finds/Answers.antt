use Rattle.std.proofs.Common.{refl, lit≤}
use Rattle.tests_libraries.proofs.pieces.finds.Goals as goal

pub examine-requires-clause-monday : goal.examine-requires-clause-monday
examine-requires-clause-monday c = rw c.new-base.ensures (record { week = 2826; monday = refl; from = lit≤ tt })
