use Rattle.std.proofs.Common.{Ok, Err}
use Rattle.tacho_jobs.proofs.JobLemmas.{emptied}
use Rattle.tacho_jobs.proofs.made.init_at.Goals as goal

pub returns-in-Ok-clause-made : goal.returns-in-Ok-clause-made
returns-in-Ok-clause-made g c = (
  Ok tt,
  record {
    made = λ clean blank.
        emptied g.S.Store (c.in-Ok.ensures.created (c.close-conn.ensures.clean.0.1 clean) blank)
        c.close-conn.ensures.clean.1.0 c.close-conn.ensures.kept.0 c.close-conn.ensures.kept.1;
    taken = c.in-Ok.ensures.taken;
    refused = tt;
    unmade = tt;
  },
  record { told = c.end.ensures.told; fault = c.end.ensures.fault },
)

pub returns-in-Err-clause-made : goal.returns-in-Err-clause-made
returns-in-Err-clause-made g c = (
  Err c.in-Err.refusal.0,
  record {
    made = λ clean blank. tt;
    taken = c.in-Err.ensures.taken;
    refused = c.in-Err.ensures.refused.0;
    unmade = c.in-Err.ensures.refused.2;
  },
  record { told = c.refuse.ensures.told; fault = c.refuse.ensures.fault },
)
