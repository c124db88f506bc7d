use Rattle.std.proofs.Common.{◌≡◌, List, subst, sym, ap, ◌∙◌}
use Rattle.std.proofs.lemmas.Result.{IfOk-weaker}
use Rattle.tacho_time.specs.declared.span.Span.{Span}
use Rattle.tacho_time.specs.Spans.{IsCanonicalOf}
use Rattle.tacho_line.specs.Join.{EitherGives, join_spans}
use Rattle.tacho_line.proofs.MergeLemmas.{merge_is}
use Rattle.tacho_line.proofs.merge.merge.Goals as goal

pub returns : goal.returns
returns c =
    let held = c.args.held.now in
    let spans = c.args.spans.now in
    IfOk-weaker c.joined.result (λ runs. runs.items ≡ join_spans c.deref.result.now) (λ merged. IsCanonicalOf (EitherGives held spans) merged.items)
    (λ runs e. subst (λ (x : List Span). IsCanonicalOf (EitherGives held spans) x) (sym (e ∙ ap join_spans (c.deref.ensures.value ∙ c.in_ok-ordered.ensures))) (merge_is held spans c.requires.held c.requires.spans c.requires.apart))
    c.joined.ensures
