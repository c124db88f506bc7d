use Rattle.std.proofs.Common.{rules, ◌≡◌, ◌-◌, ◌<◌, ◌∙◌, length, get_or, List, None, true, refl, sym, string_bytes}
use Rattle.tacho_stretches.specs.declared.stretch.Stretch.{Stretch}
use Rattle.tacho_stretches.specs.Stretches.{judged_of}
use Rattle.tacho_ahead.specs.Plans.{IsInTime}
use Rattle.tacho_state.specs.Summaries.{told_summary}
use Rattle.tacho_sheet.specs.Forecast.{no_cells, outlook_cells, AreForecastCells}
use Rattle.tacho_sheet.proofs.AheadLemmas.{can_be_made, last_of, max_of, none_if, outlook_of}
use Rattle.tacho_sheet.proofs.RowsLemmas.{forecast_row, held_end, none_after, some_cells, too_late}
use Rattle.tacho_sheet.proofs.forecast.push_forecast.Goals as goal
use Rattle.tacho_sheet.proofs.forecast.push_forecast.Goals.{then-is_some-via-then-is_some, then-is_some-via-else-is_some+then-not-is_in_time}
use Rattle.tacho_sheet.proofs.forecast.push_forecast.Goals.{then-not-can_be_examined-via-then-not-can_be_examined, then-not-can_be_examined-via-else-not-can_be_examined+then-not-is_open}

pub returns-then-is_some-clause-row : goal.returns-then-is_some-clause-row
returns-then-is_some-clause-row c held base are agree =
    let xs : List Stretch = c.args.stretches.now in
    let s : Stretch = c.in-Some.last.now in
    let some : 0 < length xs = search rules in
    let is : s ≡ get_or xs (length xs - 1) s = search rules in
    let (base_is, end_is) = c.range_of-base.ensures held base are.end are are.is_end in
    let to = held_end c.held_cell.result.minute _ _ base are.end c.held_cell.ensures base_is end_is in
    let max_is = max_of c.args.minute s.report.horizon.minute c.max-start.result c.max-start.ensures in
    let cells : AreForecastCells held c.args.minute (judged_of s) s.unseen no_cells =
    elim c.then-is_some.branch [
      | then-is_some-via-then-is_some w ↦ none_after held c.args.minute (judged_of s) s.unseen (search rules)
      | then-is_some-via-else-is_some+then-not-is_in_time w ↦
          too_late held c.args.minute c.max-start.result (judged_of s) s.unseen (none_if s.unseen (sym c.is_some.ensures ∙ w.if-is_some.false))
          max_is (λ early. let told = w.is_in_time.ensures.1 early in absurd (search rules))
    ] in
    forecast_row (told_summary c.args.driver.now) held base are.end xs s c.args.minute no_cells c.held_cell.result.minute
    (string_bytes c.args.text.now) _ _ (last_of xs s some is) are.is_end cells to c.in_ok-push_front.ensures c.in_ok-push_str.ensures.bytes

pub returns-then-not-can_be_examined-clause-none : goal.returns-then-not-can_be_examined-clause-none
returns-then-not-can_be_examined-clause-none c _ held base are agree can =
    let xs : List Stretch = c.args.stretches.now in
    let s : Stretch = c.in-Some.last.now in
    let some : 0 < length xs = search rules in
    let is : s ≡ get_or xs (length xs - 1) s = search rules in
    let none : s.unseen ≡ None = none_if s.unseen (sym c.is_some.ensures ∙ c.if-is_some.false) in
    let max_is = max_of c.args.minute s.report.horizon.minute c.max-start.result c.max-start.ensures in
    let early : IsInTime c.max-start.result = search rules in
    let (examined, opened) =
    can_be_made held c.args.line.now base xs s c.args.minute c.max-start.result some is are agree none max_is early can in
    elim c.then-not-can_be_examined.branch [
      | then-not-can_be_examined-via-then-not-can_be_examined w ↦
          let told : c.can_be_examined.result ≡ true = c.can_be_examined.ensures.all examined.is_base examined.in_range examined.within in
          absurd (search rules)
      | then-not-can_be_examined-via-else-not-can_be_examined+then-not-is_open w ↦
          let told : w.is_open.result ≡ true = w.is_open.ensures.1 opened in
          absurd (search rules)
    ]

pub returns-clause-row : goal.returns-clause-row
returns-clause-row c held base are agree =
    let xs : List Stretch = c.args.stretches.now in
    let s : Stretch = c.in-Some.last.now in
    let some : 0 < length xs = search rules in
    let is : s ≡ get_or xs (length xs - 1) s = search rules in
    let none : s.unseen ≡ None = none_if s.unseen (sym c.is_some.ensures ∙ c.if-is_some.false) in
    let max_is = max_of c.args.minute s.report.horizon.minute c.max-start.result c.max-start.ensures in
    let early : IsInTime c.max-start.result = search rules in
    let (base_is, end_is) = c.range_of-base.ensures held base are.end are are.is_end in
    let to = held_end c.held_cell.result.minute _ _ base are.end c.held_cell.ensures base_is end_is in
    let o = c.in_ok-outlook.outlook in
    let outlook =
    outlook_of held c.args.line.now base xs s c.args.minute c.max-start.result some is are agree none max_is early o.limits o.used
    o.coming.items o.debts.items (c.if-not-can_be_examined.ensures.within refl) c.in_ok-outlook.ensures in
    let cells = some_cells held c.args.minute c.max-start.result (judged_of s) s.unseen
    (outlook_cells c.max-start.result o.limits o.used) none max_is early (record {
      limits = o.limits;
      used = o.used;
      coming = o.coming.items;
      debts = o.debts.items;
      outlook = outlook;
      are = refl;
    }) in
    forecast_row (told_summary c.args.driver.now) held base are.end xs s c.args.minute
    (outlook_cells c.max-start.result o.limits o.used) c.held_cell.result.minute (string_bytes c.args.text.now) _ _
    (last_of xs s some is) are.is_end cells to c.in_ok-push_front.ensures c.in_ok-push_outlook.ensures
