use Rattle.std.proofs.Common.{[], ◌∷◌, List, sym, ap, ◌∙◌, subst, MatchResult}
use Rattle.tacho_time.specs.declared.span.Span.{Span}
use Rattle.tacho_time.specs.Spans.{Gives, IsCanonicalOf}
use Rattle.tacho_card.specs.RawSpans.{prepend_spans, activity_spans}
use Rattle.tacho_card.proofs.GivesLemmas.{IsConflictOf, raw_none, raw_more, raw_fault, raw_failure, raw_reading}
use Rattle.tacho_card.proofs.reading.spans_of.Goals as goal

pub returns-in_err-append_activity : goal.returns-in_err-append_activity
returns-in_err-append_activity c =
    let activity = c.args.activity.now in
    raw_failure (λ spans. spans.items) (activity ∷ []) c.in_err-append_activity.field-0.0 c.from_residual.result (raw_fault [] activity [] [] _ raw_none c.in_err-append_activity.ensures) c.from_residual.ensures

pub returns : goal.returns
returns c =
    let activity = c.args.activity.now in
    let raw = c.append_activity.new.spans.items in
    let start = ap (λ xs. prepend_spans xs (activity_spans activity)) (sym c.new-raw.ensures.items) in
    let gives = raw_more [] activity [] raw raw_none (start ∙ c.in_ok-append_activity.ensures) in
    raw_reading (λ runs. runs.items) (activity ∷ []) raw c.canonical.result gives
    (subst (λ (xs : List Span). MatchResult c.canonical.result (λ runs. IsCanonicalOf (Gives xs) runs.items) (IsConflictOf xs)) c.deref.ensures.value c.canonical.ensures)
