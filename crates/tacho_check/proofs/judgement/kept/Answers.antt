use Rattle.std.proofs.Common.{◌↔◌, List, subst}
use Rattle.std.specs.Prelude.{IsTrue}
use Rattle.std.proofs.lemmas.Result.{IfOk-weaker}
use Rattle.tacho_time.specs.declared.span.Span.{Span}
use Rattle.tacho_time.specs.Spans.{Gives}
use Rattle.tacho_state.specs.Disjoint.{GiveExactly}
use Rattle.tacho_check.specs.Parsed.{IsParsed, AreParsed}
use Rattle.tacho_check.specs.Typed.{ShowsSpan, IsSpan}
use Rattle.tacho_check.proofs.KeptLemmas.{unread_kept, kept_judged}
use Rattle.tacho_check.proofs.judgement.kept.Goals as goal

pub returns-in-None : goal.returns-in-None
returns-in-None c n own it =
    unread_kept n own c.args.rows.now it c.args.given.now
    (subst (AreParsed (IsParsed ShowsSpan IsSpan) c.args.rows.now) c.in-None.is c.in_ok-found.ensures)

pub returns-in-Some : goal.returns-in-Some
returns-in-Some c = IfOk-weaker c.keeps.result _ _
    (λ kept decided n own it. kept_judged n own c.args.rows.now it c.args.given.now c.in-Some.spans.items
    (subst (AreParsed (IsParsed ShowsSpan IsSpan) c.args.rows.now) c.in-Some.is c.in_ok-found.ensures) kept
    (subst (λ (spans : List Span). IsTrue kept ↔ GiveExactly spans (Gives c.args.given.now)) c.deref.ensures.value decided)) c.keeps.ensures
