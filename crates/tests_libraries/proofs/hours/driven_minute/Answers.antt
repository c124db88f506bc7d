use Rattle.std.proofs.Common.{refl, lit≤}
use Rattle.tests_libraries.proofs.hours.driven_minute.Goals as goal

pub driving_minute-requires-clause-examined : goal.driving_minute-requires-clause-examined
driving_minute-requires-clause-examined c = rw (c.new-base.ensures, c.new-past.ensures) (record {
  base_is = record { week = 2826; monday = refl; from = lit≤ tt };
  joined = c.requires.joined;
  single = c.requires.single;
  within = lit≤ tt;
})
