use Rattle.std.proofs.Common.{◌≡◌, ◌∙◌, ◌+◌, ◌++◌, [], ◌∷◌, List, sym, ap, drop, get_or, drop-cons, add-one, append_assoc}
use Rattle.std.proofs.lemmas.List.{drop_all, append-nil}
use Rattle.tacho_time.specs.declared.span.Span.{Span}
use Rattle.tacho_state.specs.Batch.{Hours, batch_of}
use Rattle.tacho_state.specs.State.{entered_spans}
use Rattle.tacho_store.proofs.entering.spans_of_lines.Goals as goal

pub loop-line-preserved : goal.loop-line-preserved
loop-line-preserved c =
    let xs : List Hours = c.args.lines.now in
    let i = c.loop-line.line-index in
    let before : List Span = c.loop-line.spans.items in
    let line : Hours = c.line-item.result in
    let later : List Span = entered_spans (batch_of (drop (i + 1) xs)) in
    let cut : drop i xs ≡ line ∷ drop (i + 1) xs =
    drop-cons xs i line c.loop-line-test.true ∙ ap (λ k. get_or xs i line ∷ drop k xs) (sym (add-one i))
    ∙ ap (λ x. x ∷ drop (i + 1) xs) (sym c.line-item.is) in
    ap (λ x. x ++ later) c.in_ok-push.ensures.items
    ∙ append_assoc before (c.span_of_line.result ∷ []) later
    ∙ ap (λ s. before ++ s ∷ later) c.span_of_line.ensures
    ∙ sym (ap (λ ls. before ++ entered_spans (batch_of ls)) cut)
    ∙ c.loop-line.invariant

pub returns : goal.returns
returns c =
    let xs = c.args.lines.now in
    let done : drop c.loop-line.line-index xs ≡ [] = drop_all c.loop-line.line-index xs c.loop-line-test.false in
    sym (append-nil c.loop-line.spans.items) ∙ sym (ap (λ ls. c.loop-line.spans.items ++ entered_spans (batch_of ls)) done) ∙ c.loop-line.invariant
