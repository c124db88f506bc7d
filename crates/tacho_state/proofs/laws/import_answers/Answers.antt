use Rattle.tacho_state.proofs.StepLemmas.{repeated_import, contradicted_import, added_import, full_import}
use Rattle.tacho_state.proofs.laws.import_answers.Goals as goal

pub returns : goal.returns
returns c = record { repeated = repeated_import; contradicted = contradicted_import; added = added_import; full = full_import }
