use Rattle.std.proofs.Common.{List}
use Rattle.tacho_state.specs.State.{State}
use Rattle.tacho_serve.proofs.serving.has_failed.Given as goal

-- the archive was only read
abbrev pub invariant-loop : goal.invariant-loop
invariant-loop g l = record {
  clean : g.K.Keeper.is_clean l.keeper → g.K.Keeper.is_clean l.fn.keeper;
  stays : g.K.Keeper.is_clean l.keeper → (s : State) → g.K.Keeper.stands l.fn.keeper s → g.K.Keeper.stands l.keeper s;
  crash : g.K.Keeper.is_clean l.keeper → (past : List State) → g.K.Keeper.leaves l.fn.keeper past → g.K.Keeper.leaves l.keeper past;
}
