use Rattle.std.proofs.Common.{Ok, Err, inl, inr}
use Rattle.tacho_sheet.specs.Fault.{fault_of_store}
use Rattle.tacho_jobs.proofs.JobLemmas.{begun, not_begun}
use Rattle.tacho_jobs.proofs.served.serve_at.Goals as goal

pub returns-in-Err-clause-served : goal.returns-in-Err-clause-served
returns-in-Err-clause-served g c = inl (
  c.in-Err.refusal.0,
  record {
    refused = c.in-Err.ensures.refused.0;
    alone = c.in-Err.ensures.refused.2;
    is_old = c.in-Err.ensures.old;
  },
  c.refuse.ensures,
)

pub returns-in-Err-ask_key-clause-served : goal.returns-in-Err-ask_key-clause-served
returns-in-Err-ask_key-clause-served g c = inr (record {
  before = c.in-Ok.archive;
  after = c.ask_key.new.keeper;
  adopted = c.in-Ok.ensures.adopted;
  does = (
    Err (fault_of_store c.in-Err-ask_key.fault),
    not_begun c.args.files.now c.args.key.now c.in-Err-ask_key.ensures.read c.is_empty.result c.is_empty.ensures c.in-Err-ask_key.fault
        c.in-Err-ask_key.ensures.refused c.in-Err-ask_key.ensures.only,
    record { told = c.refuse-in-Err-ask_key.ensures.told; fault = c.refuse-in-Err-ask_key.ensures.fault },
  );
  closed = record {
    clean = c.close.ensures.clean.0;
    live = c.close.ensures.clean.1;
    held = c.close.ensures.kept.0;
    left = c.close.ensures.kept.1;
  };
})

pub returns-in-Ok-serve-clause-served : goal.returns-in-Ok-serve-clause-served
returns-in-Ok-serve-clause-served g c = inr (record {
  before = c.in-Ok.archive;
  after = c.serve.new.keeper;
  adopted = c.in-Ok.ensures.adopted;
  does = (
    Ok tt,
    begun c.args.files.now c.args.key.now c.in_default.ensures.read c.is_empty.result c.is_empty.ensures (Ok tt)
        (λ listens clean s stood n own. let e = c.in_default.ensures.taken listens clean s stood n own in cc)
        c.serve.ensures tt (λ is. let e = is in cc),
    record { told = c.end.ensures.told; fault = c.end.ensures.fault },
  );
  closed = record {
    clean = c.close-in-Ok-serve.ensures.clean.0;
    live = c.close-in-Ok-serve.ensures.clean.1;
    held = c.close-in-Ok-serve.ensures.kept.0;
    left = c.close-in-Ok-serve.ensures.kept.1;
  };
})

pub returns-in-Err-serve-clause-served : goal.returns-in-Err-serve-clause-served
returns-in-Err-serve-clause-served g c = inr (record {
  before = c.in-Ok.archive;
  after = c.serve.new.keeper;
  adopted = c.in-Ok.ensures.adopted;
  does = (
    Err c.fault_of.result,
    begun c.args.files.now c.args.key.now c.in_default.ensures.read c.is_empty.result c.is_empty.ensures (Err c.fault_of.result)
        (λ listens clean s stood n own. let e = c.in_default.ensures.taken listens clean s stood n own in cc)
        c.serve.ensures c.fault_of.ensures.faults (λ is. c.fault_of.ensures.free (let e = is in cc)),
    record { told = c.end-in-Err-serve.ensures.told; fault = c.end-in-Err-serve.ensures.fault },
  );
  closed = record {
    clean = c.close-in-Err-serve.ensures.clean.0;
    live = c.close-in-Err-serve.ensures.clean.1;
    held = c.close-in-Err-serve.ensures.kept.0;
    left = c.close-in-Err-serve.ensures.kept.1;
  };
})
