use Rattle.std.proofs.Common.{◌≡◌, ◌∙◌, List, map, subst}
use Rattle.tacho_time.specs.declared.span.Span.{Span}
use Rattle.tacho_time.specs.Spans.{Gives, IsCanonicalOf}
use Rattle.tacho_time.specs.Merge.{IsFirstFault}
use Rattle.tacho_stretches.specs.Stretches.{judged_of}
use Rattle.tacho_sheet.specs.Seen.{seen_spans}
use Rattle.tacho_sheet.proofs.ChartLemmas.{no_conflict, seen_agreed}
use Rattle.tacho_sheet.proofs.chart.seen_of.Goals as goal

pub returns-in-Ok : goal.returns-in-Ok
returns-in-Ok c =
    let all : c.deref.result.now ≡ seen_spans (map judged_of c.args.stretches.now) = c.deref.ensures.value ∙ c.in_ok-spans.ensures in
    subst (λ (xs : List Span). IsCanonicalOf (Gives xs) c.in-Ok.line) all c.in-Ok.ensures

pub no_memory-requires : goal.no_memory-requires
no_memory-requires c =
    let stretches = map judged_of c.args.stretches.now in
    let all : c.deref.result.now ≡ seen_spans stretches = c.deref.ensures.value ∙ c.in_ok-spans.ensures in
    no_conflict (Gives (seen_spans stretches)) c.in-Err.fault (seen_agreed stretches)
    (subst (λ (xs : List Span). IsFirstFault (Gives xs) c.in-Err.fault) all c.in-Err.ensures)
