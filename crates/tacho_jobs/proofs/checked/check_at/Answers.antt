use Rattle.std.proofs.Common.{rules, Err, ap}
use Rattle.sqlite.specs.Held.{state}
use Rattle.sqlite.specs.State.{HasCleanDisk}
use Rattle.tacho_state.specs.declared.fault.StoreFault.{StoreFault}
use Rattle.tacho_jobs.proofs.JobLemmas.{checked_as}
use Rattle.tacho_jobs.proofs.checked.check_at.Goals as goal

pub returns-in-Err-clause-checked : goal.returns-in-Err-clause-checked
returns-in-Err-clause-checked g c = (
  Err c.in-Err.fault,
  record {
    checked = λ clean. tt;
    refused = c.in-Err.ensures.refused;
    is_old = λ clean is.
        let before : HasCleanDisk (state g.S.Store c.find_archive.new.conn) = search rules in
        (c.in-Err.ensures.found.is_old before (ap (λ (f : StoreFault). Err f) (let e = is in cc))).1;
    unknown = λ other. ap (λ (f : StoreFault). Err f) (let e = (c.in-Err.ensures.unknown other).0 in cc);
  },
  record { told = c.refuse.ensures.told; fault = c.refuse.ensures.fault },
)

pub returns-clause-checked : goal.returns-clause-checked
returns-clause-checked g c =
    let found = c.check-found.ensures in
    let opened = c.in_default.ensures.found in (
      c.end_check.ensures.0,
      checked_as (state g.S.Store c.args.conn) (state g.S.Store c.find_archive.new.conn) _ c.check-found.result.0
          (λ clean. opened.alone.same (found.clean clean) (opened.live (found.clean clean)))
          (λ other. let e = (c.in_default.ensures.unknown other).0 in cc)
          found.checked found.refused c.end_check.ensures.0 c.end_check.ensures.1,
      c.end_check.ensures.2,
    )
