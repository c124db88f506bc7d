use Rattle.std.proofs.Common.{refl, lit≤}
use Rattle.tests_libraries.proofs.hours.runs_of_day.Goals as goal

pub rest_runs-requires : goal.rest_runs-requires
rest_runs-requires c = rw (c.new.ensures, c.new-2.ensures) (record {
  base_is = record { week = 2826; monday = refl; from = lit≤ tt };
  joined = c.requires.joined;
  single = c.requires.single;
  within = lit≤ tt;
})
