use Rattle.std.proofs.Common.{false}
use Rattle.tacho_pass.proofs.AppendingLemmas.{appends_none}
use Rattle.tacho_pass.specs.Kinds.{is_b4_or_b5}
use Rattle.tacho_days.proofs.daily_driving.DutyDriving.hear.Goals.{in-Some+in_ok-end, in_default}
use Rattle.tacho_days.proofs.daily_driving.DutyDriving.hear.Goals as goal

pub returns-clause-appends : goal.returns-clause-appends
returns-clause-appends c = elim c.match-run.branch [
  | in-Some+in_ok-end w ↦ rw w.found-is w.in_ok-end.ensures.appends
  | in_default w ↦ rw w.found-is (appends_none is_b4_or_b5 false c.args.found.now)
]
