use Rattle.tacho_card.proofs.FileLaw.{file_fault, file_read}
use Rattle.tacho_card.proofs.laws.file_faults.Goals as goal

pub returns-clause-refused : goal.returns-clause-refused
returns-clause-refused c = file_fault

pub returns-clause-accepted : goal.returns-clause-accepted
returns-clause-accepted c = file_read
