use Rattle.std.proofs.Common.{ℕ, ◌+◌, ◌-◌}
use Rattle.tacho_law.specs.Line.{Line}
use Rattle.tacho_choice.specs.Step.{IsNext}
use Rattle.tacho_choice.specs.Weeks.{IsInWeeks, CanReach}
use Rattle.tacho_plain.specs.Choices.{AreWeeksOf}
use Rattle.tacho_plain.proofs.TryingLemmas.{NoneBelow}
use Rattle.tacho_plain.proofs.choices.+can_leave.Given as goal

abbrev pub decreases-can_leave : goal.decreases-can_leave
decreases-can_leave l = l.at

abbrev pub invariant-loop-place : goal.invariant-loop-place
invariant-loop-place l =
    (line : Line) (start : ℕ) → IsInWeeks line → AreWeeksOf line start l.weeks
    → NoneBelow (λ before. CanReach line (start + l.first) (start + (l.at - 1)) before
    × IsNext l.week.rests l.asks before l.left) l.place
