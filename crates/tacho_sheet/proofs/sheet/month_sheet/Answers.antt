use Rattle.std.proofs.Common.{rules, ◌≡◌, ◌+◌, ◌-◌, ◌*◌, ◌<◌, ◌++◌, ◌∙◌, pos, codes, decimal, string_bytes, ℕ, List, ap, sym, arith}
use Rattle.std.specs.List.{flat_map}
use Rattle.tacho_law.specs.declared.breach.Breach.{Breach}
use Rattle.tacho_time.specs.Reading.{month_start}
use Rattle.tacho_time.specs.Text.{month_text}
use Rattle.tacho_sheet.specs.Reports.{amounts_text, breach_line, breaches_within, day_lines, horizon_line}
use Rattle.tacho_sheet.specs.Amounts.{AreAmounts, amounts_line, head_text}
use Rattle.tacho_sheet.proofs.SheetLemmas.{amounts_written, whole_days, sheet_pieces}
use Rattle.tacho_sheet.proofs.sheet.month_sheet.Goals as goal

-- the lines of the breaches between two minutes
abbrev lines_of : ℕ → ℕ → List Breach → List ℕ
lines_of start past breaches = flat_map breach_line (breaches_within start past breaches)

pub returns : goal.returns
returns c =
    let line = c.args.line.now in
    let report = c.args.report.now in
    let start : ℕ = c.month_range-start.result.0 in
    let past : ℕ = c.month_range-start.result.1 in
    let day : ℕ = c.day.result in
    let next : ℕ = c.day-2.result in
    let days : ℕ = next - day in
    let first : 1440 * day ≡ start = ap (λ (n : ℕ). 1440 * n) c.day.ensures ∙ whole_days start (month_start c.args.month) c.month_range-start.ensures.start in
    let last : 1440 * next ≡ past = ap (λ (n : ℕ). 1440 * n) c.day-2.ensures ∙ whole_days past (month_start (c.args.month + 1)) c.month_range-start.ensures.past in
    let order : start < past = c.month_range-start.ensures.order in
    let end : 1440 * (day + days) ≡ past = omega arith in
    let sums : AreAmounts line (1440 * day) (1440 * days) c.in_ok-total.total = search rules in
    let one : string_bytes c.in_ok-text.text ≡ head_text c.args.number c.args.name.now c.args.month = search rules in
    let two : string_bytes c.push_days.new.text ≡ string_bytes c.in_ok-text.text ++ day_lines line day days = search rules in
    let three : string_bytes c.push_str.new.self ≡ string_bytes c.push_days.new.text ++ codes "TOTAL         " = search rules in
    let four : string_bytes c.push_amounts.new.text ≡ string_bytes c.push_str.new.self ++ amounts_line c.in_ok-total.total = search rules in
    let five : string_bytes c.push_str-2.new.self ≡ string_bytes c.push_amounts.new.text ++ codes "\n" = search rules in
    let six : string_bytes c.push_breaches.new.text ≡ string_bytes c.push_str-2.new.self ++ lines_of start past c.deref.result.now = search rules in
    let seven : string_bytes c.push_horizon.new.text ≡ string_bytes c.push_breaches.new.text ++ horizon_line report.horizon = search rules in
    let within : lines_of start past c.deref.result.now ≡ lines_of (1440 * day) (1440 * (day + days)) report.breaches.items =
    ap (λ (n : ℕ). lines_of n past c.deref.result.now) (sym first) ∙ ap (λ (n : ℕ). lines_of (1440 * day) n c.deref.result.now) (sym end)
    ∙ ap (λ (x : List Breach). lines_of (1440 * day) (1440 * (day + days)) x) c.deref.ensures.value in
    let written : amounts_line c.in_ok-total.total ≡ amounts_text line (1440 * day) (1440 * days) = amounts_written line (1440 * day) (1440 * days) c.in_ok-total.total sums in
    record {
      day = day;
      days = days;
      bounds = record { first = ap (λ (n : ℕ). pos n) first ∙ c.month_range-start.ensures.start; end = ap (λ (n : ℕ). pos n) end ∙ c.month_range-start.ensures.past };
      is = sheet_pieces (codes "DRIVER ") (decimal c.args.number) (codes " ") c.args.name.now (codes "\nMONTH ") (month_text c.args.month)
          (codes "\nDATE       DAY   REST  AVAIL   WORK  DRIVE   CREW   NONE\n") (day_lines line day days) (codes "TOTAL         ") (amounts_text line (1440 * day) (1440 * days)) (codes "\n")
          (lines_of (1440 * day) (1440 * (day + days)) report.breaches.items) (horizon_line report.horizon) _ _ _ _ _ _ _
          one two three (four ∙ ap (λ (x : List ℕ). string_bytes c.push_str.new.self ++ x) written) five (six ∙ ap (λ (x : List ℕ). string_bytes c.push_str-2.new.self ++ x) within) seven;
    }
