use Rattle.std.proofs.Common.{◌+◌, ◌*◌}
use Rattle.tacho_rules.specs.Scan.{IsAt}
use Rattle.tests_libraries.proofs.scans.feed_hours.Given as goal

abbrev pub invariant-loop-number : goal.invariant-loop-number
invariant-loop-number l = IsAt l.scan (l.base + 60 * l.number)
