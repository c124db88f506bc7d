use Rattle.std.proofs.Common.{List, refl, subst}
use Rattle.tacho_time.specs.declared.span.Span.{Span}
use Rattle.tacho_check.specs.Fits.{Agrees}
use Rattle.tacho_check.proofs.AgreedLemmas.{listed_agree, unlisted_disagree}
use Rattle.tacho_check.proofs.judgement.agreed.Goals as goal

pub returns-in-Some : goal.returns-in-Some
returns-in-Some c = (
  subst Agrees c.deref.ensures.value
      (listed_agree c.deref.result.now c.in_ok-list.list c.in-Some.field-0 c.in-Some.is c.in_ok-list.ensures),
  refl,
)

pub returns-in-None : goal.returns-in-None
returns-in-None c =
    subst (λ (spans : List Span). ¬ (Agrees spans)) c.deref.ensures.value
    (unlisted_disagree c.deref.result.now c.in_ok-list.list c.in-None.is c.in_ok-list.ensures)
