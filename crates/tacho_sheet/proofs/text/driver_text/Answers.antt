use Rattle.std.proofs.Common.{rules, ◌≡◌, ◌∙◌, ◌<◌, ◌++◌, sym, ap, get_or, string_bytes, length}
use Rattle.std.proofs.lemmas.List.{take_all}
use Rattle.std.proofs.lemmas.List.Folds.{flat_map-map}
use Rattle.std.specs.List.{flat_map}
use Rattle.tacho_state.specs.declared.summary.DriverSummary.{DriverSummary}
use Rattle.tacho_state.specs.Summaries.{told_summary}
use Rattle.tacho_sheet.specs.Text.{summary_line}
use Rattle.tacho_sheet.proofs.TextLemmas.{one_more_line}
use Rattle.tacho_sheet.proofs.text.driver_text.Goals as goal

pub loop-driver-preserved : goal.loop-driver-preserved
loop-driver-preserved c =
    let line = λ (d : DriverSummary). summary_line (told_summary d) in
    let pushed : string_bytes c.push_driver.new.text ≡ string_bytes c.loop-driver.text ++ line c.driver-item.result = search rules in
    let within : c.loop-driver.driver-index < length c.args.drivers.now = search rules in
    let item : c.driver-item.result ≡ get_or c.args.drivers.now c.loop-driver.driver-index c.driver-item.result = c.driver-item.is in
    one_more_line line c.args.drivers.now c.loop-driver.driver-index c.driver-item.result
    (string_bytes c.loop-driver.text) _ within c.loop-driver.invariant
    (pushed ∙ ap (λ e. string_bytes c.loop-driver.text ++ line e) item)

pub returns : goal.returns
returns c =
    let line = λ (d : DriverSummary). summary_line (told_summary d) in
    c.loop-driver.invariant ∙ ap (flat_map line) (take_all c.loop-driver.driver-index c.args.drivers.now c.loop-driver-test.false)
    ∙ sym (flat_map-map summary_line told_summary c.args.drivers.now)
