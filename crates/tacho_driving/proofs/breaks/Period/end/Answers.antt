use Rattle.std.proofs.Common.{false}
use Rattle.tacho_pass.proofs.AppendingLemmas.{appends_none}
use Rattle.tacho_pass.specs.Kinds.{is_b1}
use Rattle.tacho_driving.proofs.breaks.Period.end.Goals as goal

pub returns-clause-appends : goal.returns-clause-appends
returns-clause-appends c = appends_none is_b1 false c.args.found.now
