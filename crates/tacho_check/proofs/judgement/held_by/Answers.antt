use Rattle.std.proofs.Common.{◌++◌, ◌∙◌, ap, subst}
use Rattle.std.proofs.lemmas.Result.{IfOk-weaker}
use Rattle.tacho_check.specs.Hours.{entered_hours}
use Rattle.tacho_check.specs.Parsed.{IsParsed, AreNumbered}
use Rattle.tacho_check.specs.Typed.{ShowsEntry, AreHours}
use Rattle.tacho_check.proofs.EntryLemmas.{none_fit, entries_judged}
use Rattle.tacho_check.proofs.judgement.held_by.Goals as goal

pub returns-in_default : goal.returns-in_default
returns-in_default c n own it =
    none_fit n c.args.count own c.args.rows.now it c.args.given.items
    (subst (AreNumbered (IsParsed ShowsEntry AreHours) (λ h. h.number) c.args.count c.args.rows.now) c.in_default.is c.in_ok-found.ensures)

pub returns : goal.returns
returns c = IfOk-weaker c.agreed.result _ _
    (λ r agreed n own it. entries_judged n c.args.count own c.args.rows.now it c.args.given.items c.in-Some.hours
    (subst (AreNumbered (IsParsed ShowsEntry AreHours) (λ h. h.number) c.args.count c.args.rows.now) c.in-Some.is c.in_ok-found.ensures)
    c.enter.new.given.items
    (c.in_ok-enter.ensures ∙ ap (λ hours. c.args.given.items ++ entered_hours hours) c.deref.ensures.value) r agreed) c.agreed.ensures
