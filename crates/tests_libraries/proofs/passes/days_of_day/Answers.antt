use Rattle.std.proofs.Common.{refl, lit≤}
use Rattle.tests_libraries.proofs.passes.days_of_day.Goals as goal

pub days-requires : goal.days-requires
days-requires c = rw (c.new.ensures, c.new-2.ensures) (record {
  base_is = record { week = 2826; monday = refl; from = lit≤ tt };
  joined = c.requires.joined;
  single = c.requires.single;
  within = lit≤ tt;
})
