use Rattle.std.proofs.Common.{subst}
use Rattle.std.proofs.lemmas.Result.{IfOk-weaker}
use Rattle.tacho_check.specs.Judged.{AreAgreed}
use Rattle.tacho_check.specs.Parsed.{IsParsed, AreNumbered}
use Rattle.tacho_check.specs.Typed.{ShowsFile, IsFile}
use Rattle.tacho_check.proofs.DownloadLemmas.{none_fit, downloads_judged}
use Rattle.tacho_check.proofs.judgement.downloaded.Goals as goal

pub returns-in-None : goal.returns-in-None
returns-in-None c n own it =
    none_fit n c.args.holder.now c.args.count own c.args.rows.now it
    (subst (AreNumbered (IsParsed ShowsFile IsFile) (λ f. f.number) c.args.count c.args.rows.now) c.in-None.is c.in_ok-found.ensures)

pub returns-in-Some : goal.returns-in-Some
returns-in-Some c = IfOk-weaker c.agreed_files.result _ _
    (λ r agreed n own it. downloads_judged n c.args.holder.now c.args.count own c.args.rows.now it c.in-Some.files
    (subst (AreNumbered (IsParsed ShowsFile IsFile) (λ f. f.number) c.args.count c.args.rows.now) c.in-Some.is c.in_ok-found.ensures) r
    (subst (λ files. AreAgreed c.args.holder.now files r) c.deref.ensures.value agreed)) c.agreed_files.ensures
