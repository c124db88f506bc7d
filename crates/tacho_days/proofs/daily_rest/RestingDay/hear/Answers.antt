use Rattle.std.proofs.Common.{false}
use Rattle.tacho_pass.proofs.AppendingLemmas.{appends_none}
use Rattle.tacho_pass.specs.Kinds.{is_b2_or_b3}
use Rattle.tacho_days.proofs.daily_rest.RestingDay.hear.Goals as goal

pub returns-in_default-clause-appends : goal.returns-in_default-clause-appends
returns-in_default-clause-appends c = appends_none is_b2_or_b3 false c.args.found.now
