use Rattle.std.proofs.Common.{refl, lit≤, arith}
use Rattle.tests_libraries.proofs.passes.found_of_rests.Goals as goal

pub rests-requires : goal.rests-requires
rests-requires c = rw (c.deref.ensures.value, c.new.ensures, c.new-2.ensures) (record {
  base_is = record { week = 2826; monday = refl; from = lit≤ tt };
  joined = c.in_ok-spans.ensures.joined;
  single = c.in_ok-spans.ensures.single;
  within = omega arith;
})
