use Rattle.std.proofs.Common.{◌≤◌, take}
use Rattle.std.specs.List.{All}
use Rattle.tacho_law.specs.declared.run.Run.{Run}
use Rattle.tacho_periods.specs.MainRests.{IsBetter}
use Rattle.tacho_periods.proofs.main_rests.is_outdone.Given as goal

abbrev pub invariant-loop-other : goal.invariant-loop-other
invariant-loop-other l =
    All (λ (other : Run). l.start ≤ other.start → IsBetter l.horizon other l.rest → ⊥)
    (take l.other-index l.other-items)
