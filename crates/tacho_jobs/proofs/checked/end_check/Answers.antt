use Rattle.std.proofs.Common.{Ok, Err, inl, inr, refl, sym}
use Rattle.tacho_state.specs.declared.fault.StoreFault.TheVariants.{Memory}
use Rattle.tacho_jobs.proofs.JobLemmas.{found_told}
use Rattle.tacho_jobs.proofs.checked.end_check.Goals as goal

pub returns-in-Err : goal.returns-in-Err
returns-in-Err g c = (Err c.in-Err.fault, inl (sym c.in-Err.is), record { told = c.refuse.ensures.told; fault = c.refuse.ensures.fault })

pub returns-in_default : goal.returns-in_default
returns-in_default g c =
    (Err Memory, inr refl, record { told = c.refuse-in_default.ensures.told; fault = c.refuse-in_default.ensures.fault })

pub returns : goal.returns
returns g c = (
  Ok c.in-Ok.found,
  inl (sym c.in-Ok.is),
  record {
    told = found_told _ _ _ _ _ c.tell_answer-told.result c.status_of.result c.in-Ok.found c.tell_answer-told.ensures
        c.in-Ok-check_text.ensures c.status_of.ensures.done c.status_of.ensures.failed;
    fault = refl;
  },
)
