use Rattle.std.proofs.Common.{refl, lit≤}
use Rattle.tests_libraries.proofs.scans.a_year_of_office_hours_asks_for_no_memory.Goals as goal

pub reports_of-requires-clause-monday : goal.reports_of-requires-clause-monday
reports_of-requires-clause-monday g c = record { week = 2817; monday = refl; from = lit≤ tt }
