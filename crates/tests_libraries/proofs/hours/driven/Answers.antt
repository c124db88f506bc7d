use Rattle.std.proofs.Common.{refl, lit≤}
use Rattle.tests_libraries.proofs.hours.driven.Goals as goal

pub driving_minutes-requires : goal.driving_minutes-requires
driving_minutes-requires c = rw (c.new-base.ensures, c.new-past.ensures) (record {
  base_is = record { week = 2826; monday = refl; from = lit≤ tt };
  joined = c.requires.joined;
  single = c.requires.single;
  within = lit≤ tt;
})
