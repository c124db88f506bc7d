use Rattle.std.proofs.Common.{refl, sym, subst}
use Rattle.tacho_line.specs.declared.horizon.Horizon.{Horizon}
use Rattle.tacho_pass.specs.declared.found.Found.{Found}
use Rattle.tacho_rules.specs.Scan.{IsScanOf}
use Rattle.tacho_stretches.specs.Pass.{examining}
use Rattle.tacho_stretches.proofs.PassLemmas.{report_found}
use Rattle.tacho_stretches.proofs.examination.Examination.end.Goals as goal

pub returns-clause-report : goal.returns-clause-report
returns-clause-report c = λ spans is cause.
    (let e = examining c.args.self c.args.found.now in
    let h : Horizon = record { minute = e.minute; cause = c.args.cause } in
    report_found spans e is c.in_ok-report.report h c.args.self.early refl cause c.in_ok-report.ensures.horizon
    (λ base parts scanned. c.in_ok-report.ensures.report base parts
    (subst (λ (f : Found). IsScanOf e.scan f base parts) (sym c.replace-found.ensures.value) scanned)))
