use Rattle.std.proofs.Common.{◌*◌, ◌+◌}
use Rattle.tacho_sheet.proofs.ChartLemmas.{has_day, has_marks, shows_minute}
use Rattle.tacho_sheet.proofs.laws.a_chart_shows_each_minute.Goals as goal

pub returns-clause-days : goal.returns-clause-days
returns-clause-days c = has_day

pub returns-clause-bars : goal.returns-clause-bars
returns-clause-bars c line spans day held m within = shows_minute line spans (1440 * day) (1440 * (day + 1)) held m within

pub returns-clause-shades : goal.returns-clause-shades
returns-clause-shades c stretches gaps start past are m within = ((λ i. ((are.lacking m).0 i).1), (λ out. (are.lacking m).1 (within, out)))

pub returns-clause-marks : goal.returns-clause-marks
returns-clause-marks c = has_marks
