use Rattle.tacho_serve.specs.Served.{ChangesByRequests}
use Rattle.tacho_serve.proofs.serving.serve.Given as goal

-- requests alone have changed the archive
abbrev pub invariant-loop : goal.invariant-loop
invariant-loop g l = record {
  changes : ChangesByRequests l.files l.key g.K.Keeper.stands g.K.Keeper.is_clean g.K.Keeper.leaves l.fn.keeper l.keeper;
}
