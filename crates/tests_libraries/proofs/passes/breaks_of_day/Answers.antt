use Rattle.std.proofs.Common.{refl, lit≤}
use Rattle.tests_libraries.proofs.passes.breaks_of_day.Goals as goal

pub breaks-requires : goal.breaks-requires
breaks-requires c = rw (c.new.ensures, c.new-2.ensures) (record {
  base_is = record { week = 2826; monday = refl; from = lit≤ tt };
  joined = c.requires.joined;
  single = c.requires.single;
  within = lit≤ tt;
})
