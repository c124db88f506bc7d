use Rattle.std.proofs.Common.{inl, inr, refl}
use Rattle.tacho_jobs.proofs.done.do_at.Goals as goal

pub returns-in-Err-clause-done : goal.returns-in-Err-clause-done
returns-in-Err-clause-done g c = inl (
  c.in-Err.refusal.0,
  record {
    refused = c.in-Err.ensures.refused.0;
    alone = c.in-Err.ensures.refused.2;
    is_old = c.in-Err.ensures.old;
  },
  c.refuse.ensures,
  refl,
)

pub returns-clause-done : goal.returns-clause-done
returns-clause-done g c = inr (record {
  before = c.in-Ok.archive;
  after = c.do_task-ended.new.keeper;
  adopted = c.in-Ok.ensures.adopted;
  does = c.do_task-ended.ensures.done;
  closed = record {
    clean = c.close.ensures.clean.0;
    live = c.close.ensures.clean.1;
    held = c.close.ensures.kept.0;
    left = c.close.ensures.kept.1;
  };
})
