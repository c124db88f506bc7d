use Rattle.std.proofs.Common.{rules, ◌≡◌, ◌∙◌, ◌++◌, ap, sym, ℕ, List}
use Rattle.tacho_law.specs.declared.breach.Breach.{Breach}
use Rattle.tacho_stretches.specs.declared.stretch.Stretch.{Stretch}
use Rattle.tacho_sheet.specs.Reports.{breaches_within}
use Rattle.tacho_sheet.proofs.MonthLemmas.{breaches_more}
use Rattle.tacho_sheet.proofs.months.breaches_in.Goals as goal

pub loop-stretch-preserved : goal.loop-stretch-preserved
loop-stretch-preserved c =
    let start : ℕ = c.args.start in
    let past : ℕ = c.args.past in
    let s : Stretch = c.stretch-item.result in
    let old : List Breach = c.loop-stretch.found.items in
    let added : c.add_breaches.new.found.items ≡ old ++ breaches_within start past c.deref.result.now = search rules in
    let lent : c.deref.result.now ≡ s.report.breaches.items = c.deref.ensures.value in
    added ∙ ap (λ (xs : List Breach). old ++ breaches_within start past xs) lent
    ∙ ap (λ (xs : List Breach). xs ++ breaches_within start past s.report.breaches.items) c.loop-stretch.invariant
    ∙ sym (breaches_more start past c.args.stretches.now c.loop-stretch.stretch-index s c.loop-stretch-test.true c.stretch-item.is)
