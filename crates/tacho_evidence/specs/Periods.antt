-- Private to tacho_evidence: The periods of an examined line that evidence names.
use Rattle.tacho_law.specs.Breaks.{AreCompleteBreaks}
use Rattle.tacho_law.specs.Limits.{first_part_of_daily_rest, weekly_rest}
use Rattle.tacho_law.specs.Line.{Line}
use Rattle.tacho_law.specs.Runs.{AreRestRuns, AreRestsOf}
use Rattle.tacho_periods.specs.DutyDays.{AreDutyDays}
use Rattle.tacho_evidence.specs.declared.periods.Periods.{Periods}

-- the lists are those of the line
pub record ArePeriods (line : Line) (p : Periods) : Type 0 where
  pub runs : AreRestRuns line p.runs.items
  pub breaks : AreCompleteBreaks p.runs.items p.breaks.items
  pub days : AreDutyDays line p.days.items
  pub parts : AreRestsOf line first_part_of_daily_rest p.parts.items
  pub weekly : AreRestsOf line weekly_rest p.weekly.items
