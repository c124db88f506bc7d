use Rattle.std.proofs.Common.{refl, lit≤}
use Rattle.tests_libraries.proofs.scans.a_month_hour_by_hour.Goals as goal

pub reports_of-requires-clause-monday : goal.reports_of-requires-clause-monday
reports_of-requires-clause-monday g c = record { week = 2826; monday = refl; from = lit≤ tt }
