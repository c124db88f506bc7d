use Rattle.std.proofs.Common.{rules, ◌≡◌, ◌-◌, ◌<◌, ◌∙◌, length, get_or, List, None, true, refl, sym, string_bytes}
use Rattle.tacho_stretches.specs.declared.stretch.Stretch.{Stretch}
use Rattle.tacho_ahead.specs.Plans.{IsInTime}
use Rattle.tacho_sheet.proofs.AheadLemmas.{ahead_of, can_be_made, max_of, none_if}
use Rattle.tacho_sheet.proofs.ahead.ahead_text.Goals as goal
use Rattle.tacho_sheet.proofs.ahead.ahead_text.Goals.{then-not-can_be_examined-via-then-not-can_be_examined, then-not-can_be_examined-via-else-not-can_be_examined+then-not-is_open}

pub returns-then-not-can_be_examined-clause-none : goal.returns-then-not-can_be_examined-clause-none
returns-then-not-can_be_examined-clause-none c _ held base are agree can =
    let xs : List Stretch = c.args.stretches.now in
    let s : Stretch = c.in-Some.last.now in
    let some : 0 < length xs = search rules in
    let is : s ≡ get_or xs (length xs - 1) s = search rules in
    let none : s.unseen ≡ None = none_if s.unseen (sym c.is_some.ensures ∙ c.if-is_some.false) in
    let max_is = max_of c.args.minute s.report.horizon.minute c.max-start.result c.max-start.ensures in
    let early : IsInTime c.max-start.result = search rules in
    let (examined, opened) =
    can_be_made held c.args.line.now base xs s c.args.minute c.max-start.result some is are agree none max_is early can in
    elim c.then-not-can_be_examined.branch [
      | then-not-can_be_examined-via-then-not-can_be_examined w ↦
          let told : c.can_be_examined.result ≡ true = c.can_be_examined.ensures.all examined.is_base examined.in_range examined.within in
          absurd (search rules)
      | then-not-can_be_examined-via-else-not-can_be_examined+then-not-is_open w ↦
          let told : w.is_open.result ≡ true = w.is_open.ensures.1 opened in
          absurd (search rules)
    ]

pub returns-clause-text : goal.returns-clause-text
returns-clause-text c held base are agree =
    let xs : List Stretch = c.args.stretches.now in
    let s : Stretch = c.in-Some.last.now in
    let some : 0 < length xs = search rules in
    let is : s ≡ get_or xs (length xs - 1) s = search rules in
    let none : s.unseen ≡ None = none_if s.unseen (sym c.is_some.ensures ∙ c.if-is_some.false) in
    let max_is = max_of c.args.minute s.report.horizon.minute c.max-start.result c.max-start.ensures in
    let early : IsInTime c.max-start.result = search rules in
    let (forecast, more, forecast_is) = c.in_ok-push_forecast.ensures in
    ahead_of held c.args.line.now base xs s c.args.minute c.max-start.result some is are agree none max_is early
    (string_bytes c.in_ok-text.text) forecast (string_bytes c.push_forecast.new.text) (c.if-not-can_be_examined.ensures.within refl)
    c.in_ok-text.ensures more forecast_is
