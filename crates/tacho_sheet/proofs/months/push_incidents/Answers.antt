use Rattle.std.proofs.Common.{rules, ◌≡◌, ◌∙◌, ◌+◌, ◌++◌, ap, refl, map, take, string_bytes, ℕ, List}
use Rattle.std.specs.List.{flat_map}
use Rattle.std.proofs.lemmas.List.{take_all}
use Rattle.tacho_law.specs.declared.breach.Breach.{Breach}
use Rattle.tacho_stretches.specs.declared.stretch.Stretch.{Stretch}
use Rattle.tacho_stretches.specs.Stretches.{judged_of}
use Rattle.tacho_sheet.specs.Reports.{breaches_within}
use Rattle.tacho_sheet.specs.Months.{month_breaches, incident_row}
use Rattle.tacho_sheet.proofs.MonthLemmas.{breaches_more, rows_more}
use Rattle.tacho_sheet.proofs.months.push_incidents.Goals as goal

pub loop-stretch-preserved : goal.loop-stretch-preserved
loop-stretch-preserved c =
    let row : Breach → List ℕ = incident_row c.args.number c.args.name.now in
    let start : ℕ = c.month_range-start.result.0 in
    let past : ℕ = c.month_range-start.result.1 in
    let xs : List Stretch = c.args.stretches.now in
    let i : ℕ = c.loop-stretch.stretch-index in
    let s : Stretch = c.stretch-item.result in
    let old : List ℕ = string_bytes c.loop-stretch.text in
    let pushed : string_bytes c.push_breaches.new.text ≡ old ++ flat_map row (breaches_within start past c.deref.result.now) =
    search rules in
    let lent : c.deref.result.now ≡ s.report.breaches.items = c.deref.ensures.value in
    rows_more row (month_breaches start past (map judged_of (take i xs))) (breaches_within start past s.report.breaches.items)
    (month_breaches start past (map judged_of (take (i + 1) xs))) (string_bytes c.args.text.now) old _ c.loop-stretch.invariant
    (pushed ∙ ap (λ (bs : List Breach). old ++ flat_map row (breaches_within start past bs)) lent)
    (breaches_more start past xs i s c.loop-stretch-test.true c.stretch-item.is)

pub returns : goal.returns
returns c =
    let row : Breach → List ℕ = incident_row c.args.number c.args.name.now in
    let start : ℕ = c.month_range-start.result.0 in
    let past : ℕ = c.month_range-start.result.1 in
    let xs : List Stretch = c.args.stretches.now in
    let rows : List ℕ = flat_map row (month_breaches start past (map judged_of xs)) in (
      rows,
      c.loop-stretch.invariant
          ∙ ap (λ (ys : List Stretch). string_bytes c.args.text.now ++ flat_map row (month_breaches start past (map judged_of ys)))
          (take_all c.loop-stretch.stretch-index xs c.loop-stretch-test.false),
      record {
        start = start;
        past = past;
        bounds = record { first = c.month_range-start.ensures.start; end = c.month_range-start.ensures.past };
        is = refl;
      },
    )
