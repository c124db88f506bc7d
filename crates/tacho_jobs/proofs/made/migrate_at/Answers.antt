use Rattle.std.proofs.Common.{Ok, Err}
use Rattle.tacho_jobs.proofs.JobLemmas.{fault_of_both, migrated}
use Rattle.tacho_jobs.proofs.made.migrate_at.Goals as goal

pub returns-in-Ok-clause-migrated : goal.returns-in-Ok-clause-migrated
returns-in-Ok-clause-migrated g c = (
  Ok tt,
  record {
    migrated = λ clean.
        migrated g.S.Store (c.in-Ok.ensures.migrated (c.close-conn.ensures.clean.0.1 clean))
        c.close-conn.ensures.clean.1.0 c.close-conn.ensures.kept.0 c.close-conn.ensures.kept.1;
    refused = tt;
    left = tt;
    unknown = λ other. absurd (let e = c.in-Ok.ensures.unknown other in cc);
  },
  record { told = c.end.ensures.told; fault = c.end.ensures.fault },
)

pub returns-in-Err-clause-migrated : goal.returns-in-Err-clause-migrated
returns-in-Err-clause-migrated g c = (
  Err c.in-Err.refusal.0,
  record {
    migrated = λ clean. tt;
    refused = c.in-Err.ensures.refused.0;
    left = c.in-Err.ensures.refused.2;
    unknown = λ other. fault_of_both _ _ (c.in-Err.ensures.unknown other);
  },
  record { told = c.refuse.ensures.told; fault = c.refuse.ensures.fault },
)
