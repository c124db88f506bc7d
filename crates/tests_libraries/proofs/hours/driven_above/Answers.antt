use Rattle.std.proofs.Common.{refl, lit≤}
use Rattle.tests_libraries.proofs.hours.driven_above.Goals as goal

pub excess_between-requires : goal.excess_between-requires
excess_between-requires c = rw (c.new-base.ensures, c.new-past.ensures) (record {
  base_is = record { week = 2826; monday = refl; from = lit≤ tt };
  joined = c.requires.joined;
  single = c.requires.single;
  within = lit≤ tt;
})
