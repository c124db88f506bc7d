use Rattle.std.proofs.Common.{rules, ◌≡◌, ◌++◌, ◌∷◌, [], List, subst}
use Rattle.tacho_time.specs.declared.span.Span.{Span}
use Rattle.tacho_sheet.proofs.ChartLemmas.{spans_more}
use Rattle.tacho_sheet.proofs.chart.spans_of.Goals as goal

pub loop-stretch-preserved : goal.loop-stretch-preserved
loop-stretch-preserved c =
    let old : List Span = c.loop-stretch.spans.items in
    let pushed : c.push.new.self.items ≡ old ++ c.span_of.result ∷ [] = search rules in
    spans_more c.args.stretches.now c.loop-stretch.stretch-index c.stretch-item.result old c.push.new.self.items c.loop-stretch-test.true c.stretch-item.is
    c.loop-stretch.invariant (subst (λ (x : Span). c.push.new.self.items ≡ old ++ x ∷ []) c.span_of.ensures pushed)
