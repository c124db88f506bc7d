use Rattle.tests_libraries.proofs.scans.reports_of.Goals as goal

pub new-scan-requires-clause-monday : goal.new-scan-requires-clause-monday
new-scan-requires-clause-monday c = rw c.new.ensures c.requires.monday
