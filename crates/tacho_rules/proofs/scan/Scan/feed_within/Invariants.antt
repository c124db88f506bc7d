use Rattle.std.proofs.Common.{map}
use Rattle.tacho_line.specs.Walk.{cut_to}
use Rattle.tacho_rules.proofs.FeedingLemmas.{IsFed}
use Rattle.tacho_rules.proofs.scan.Scan.feed_within.Given as goal

abbrev pub invariant-loop-span : goal.invariant-loop-span
invariant-loop-span l = IsFed (map (cut_to l.start l.past) l.spans) l.initial.self l.initial.found l.self l.found l.span-index
