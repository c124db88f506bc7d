use Rattle.tacho_carry.proofs.TakenLemmas.{carried_batch_taken, carried_file_read, carried_file_taken, driver_taken}
use Rattle.tacho_carry.proofs.laws.nothing_is_refused.Goals as goal

pub returns : goal.returns
returns c = record { registered = driver_taken; readable = carried_file_read; imported = carried_file_taken; entered = carried_batch_taken }
