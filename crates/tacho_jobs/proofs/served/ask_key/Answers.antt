use Rattle.tacho_jobs.proofs.JobLemmas.{key_refusal}
use Rattle.tacho_jobs.proofs.served.ask_key.Goals as goal

pub returns-in-Err-clause-refused : goal.returns-in-Err-clause-refused
returns-in-Err-clause-refused g c clean s stood = key_refusal c.in-Err.fault _ (c.in-Err.ensures.answer clean s stood)
