use Rattle.std.proofs.Common.{rules, ◌≡◌, ◌∙◌, ◌++◌, ap, string_bytes, List, ℕ}
use Rattle.tacho_stretches.specs.declared.stretch.Stretch.{Stretch}
use Rattle.tacho_stretches.specs.Stretches.{judged_of}
use Rattle.tacho_sheet.specs.Reports.{breach_text}
use Rattle.tacho_sheet.specs.Stretches.{block}
use Rattle.tacho_sheet.proofs.TextLemmas.{one_more_told}
use Rattle.tacho_sheet.proofs.stretches.stretch_text.Goals as goal

pub loop-stretch-preserved : goal.loop-stretch-preserved
loop-stretch-preserved c =
    let s : Stretch = c.stretch-item.result in
    let t = judged_of s in
    let pushed : string_bytes c.push_block.new.text ≡ string_bytes c.loop-stretch.text ++ block c.deref.result.now t = search rules in
    let report : c.deref.result.now ≡ breach_text t.breaches t.horizon = search rules in
    one_more_told (λ s. block (breach_text s.breaches s.horizon) s) judged_of c.args.stretches.now c.loop-stretch.stretch-index s
    (string_bytes c.loop-stretch.text) _ c.loop-stretch-test.true c.stretch-item.is c.loop-stretch.invariant
    (pushed ∙ ap (λ (r : List ℕ). string_bytes c.loop-stretch.text ++ block r t) report)
