use Rattle.tacho_time.proofs.CivilLemmas.{weekday_of_date}
use Rattle.tacho_time.proofs.laws.weekday_of_dates.Goals as goal

pub returns : goal.returns
returns c = weekday_of_date
