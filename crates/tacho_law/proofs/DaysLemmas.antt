-- Whether a day's rest is regular or reduced can be decided from the rests of three hours or more (`laws::rest_by_parts`).
use Rattle.std.proofs.Common.{inl, inr, List}
use Rattle.std.specs.Prelude.{◌↔◌}
use Rattle.tacho_law.specs.declared.run.Run.{Run}
use Rattle.tacho_law.specs.declared.days.DutyDay.{DutyDay}
use Rattle.tacho_law.specs.Runs.{AreRestsOf}
use Rattle.tacho_law.specs.Line.{Line}
use Rattle.tacho_law.specs.Days.{IsDuty, HasRegularRest, HasReducedRest, IsRegular, IsReduced}

-- a day's rest is regular by these rests iff it is regular by the line
pub regular_by_parts : (line : Line) (parts : List Run) (day : DutyDay)
    → AreRestsOf line 180 parts → HasRegularRest parts day ↔ IsRegular line day
regular_by_parts line parts day are = (
  λ h. elim h [
    | inl long ↦ inl long
    | inr two ↦ let (part, in', low, high) = two.1 in inr (two.0, (part, (are.each part).0 in', low, high))
  ],
  λ h. elim h [
    | inl long ↦ inl long
    | inr two ↦ let (part, is, low, high) = two.1 in inr (two.0, (part, (are.each part).1 is, low, high))
  ],
)

-- likewise for a reduced rest of a duty day
pub reduced_by_parts : (line : Line) (parts : List Run) (day : DutyDay)
    → AreRestsOf line 180 parts → IsDuty line day → HasReducedRest parts day ↔ IsReduced line day
reduced_by_parts line parts day are duty =
    let same : HasRegularRest parts day ↔ IsRegular line day = regular_by_parts line parts day are in (
      λ h. record {
        duty = duty;
        portion = h.portion;
        irregular = λ regular. h.irregular (same.1 regular);
        short = h.short;
      },
      λ h. record { portion = h.portion; irregular = λ regular. h.irregular (same.0 regular); short = h.short },
    )
