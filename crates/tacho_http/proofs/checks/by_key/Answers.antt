use Rattle.std.proofs.Common.{sym, ◌∙◌, ap, inl, inr, Ok, refl}
use Rattle.tacho_http.proofs.RespondLemmas.{asked_for, by_this, idle, some_left}
use Rattle.tacho_http.proofs.checks.by_key.Goals.{then-eq, else-eq+in-Ok-Some}
use Rattle.tacho_http.proofs.checks.by_key.Goals as goal

pub returns-in-Ok-None-clause-responds : goal.returns-in-Ok-None-clause-responds
returns-in-Ok-None-clause-responds g c h is =
    let reads = rw c.in-Ok-None.field-0-is at c.in-Ok-None.ensures in
    rw (sym c.eq.ensures ∙ c.if-eq.false) (idle reads.clean reads.state reads.same reads.crash (some_left _) c.fixed.ensures refl
    (λ clean s st. inl (rw (reads.answer clean s st) (refl, refl))))

pub returns-in-Err-clause-responds : goal.returns-in-Err-clause-responds
returns-in-Err-clause-responds g c h is =
    let reads = c.in-Err.ensures in
    idle reads.clean reads.state reads.same reads.crash (some_left _) c.fixed-in-Err.ensures refl (λ clean s st. inr refl)

pub returns-clause-responds : goal.returns-clause-responds
returns-clause-responds g c h is = elim c.if-eq.branch [
  | then-eq w ↦
      rw (sym c.eq.ensures ∙ w.if-eq.true) (rw (w.keeper-is, w.caller-is) at (c.by_caller.ensures.responds h is))
  | else-eq+in-Ok-Some w ↦
      rw (sym c.eq.ensures ∙ w.if-eq.false) (asked_for g.K.Keeper.same_then (rw w.in-Ok-Some.field-0-is at w.in-Ok-Some.ensures)
      (λ left s reply after whose does. rw whose does) (rw (w.keeper-is, w.caller-is) at (c.by_caller.ensures.responds h is)))
]

pub returns-clause-lacks : goal.returns-clause-lacks
returns-clause-lacks g c h is has err = elim c.if-eq.branch [
  | then-eq w ↦
      by_this (sym c.eq.ensures ∙ w.if-eq.true) (rw w.caller-is at (c.by_caller.ensures.lacks h _ is has err))
  | else-eq+in-Ok-Some w ↦
      by_this (sym c.eq.ensures ∙ w.if-eq.false) (rw w.caller-is at (c.by_caller.ensures.lacks h _ is has err))
]

pub returns-clause-known : goal.returns-clause-known
returns-clause-known g c h is has err clean s stood = elim c.if-eq.branch [
  | then-eq w ↦
      by_this (sym c.eq.ensures ∙ w.if-eq.true) (rw w.caller-is at (c.by_caller.ensures.lacks h _ is has err))
  | else-eq+in-Ok-Some w ↦
      let called = rw (w.keeper-is, w.caller-is) at (c.by_caller.ensures.responds h is) in
      by_this (sym c.eq.ensures ∙ w.if-eq.false, w.in-Ok-Some.ensures.answer (called.clean clean) s stood ∙ ap Ok w.in-Ok-Some.field-0-is)
      (rw w.caller-is at (c.by_caller.ensures.lacks h _ is has err))
]
