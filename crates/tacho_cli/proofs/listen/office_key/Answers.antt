use Rattle.std.proofs.Common.{Err}
use Rattle.tacho_cli.proofs.listen.office_key.Goals as goal

pub returns-in-Err : goal.returns-in-Err
returns-in-Err g c = record { answer = Err c.in-Err.fault; is = c.in-Err.ensures; told = c.tell_fault.ensures }
