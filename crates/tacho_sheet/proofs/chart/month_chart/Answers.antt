use Rattle.std.proofs.Common.{◌≡◌, ◌+◌, ◌-◌, ◌*◌, ◌<◌, ◌∙◌, pos, ℕ, ap, map, arith, sym}
use Rattle.tacho_stretches.specs.Stretches.{judged_of}
use Rattle.tacho_time.specs.Reading.{month_start}
use Rattle.tacho_sheet.specs.Months.{month_breaches}
use Rattle.tacho_sheet.proofs.SheetLemmas.{whole_days}
use Rattle.tacho_sheet.proofs.ChartLemmas.{chart_pieces}
use Rattle.tacho_sheet.proofs.chart.month_chart.Goals as goal

pub returns : goal.returns
returns c =
    let start : ℕ = c.month_range-start.result.0 in
    let past : ℕ = c.month_range-start.result.1 in
    let day : ℕ = c.day-first.result in
    let next : ℕ = c.day-last.result in
    let stretches = map judged_of c.args.stretches.now in
    let first : 1440 * day ≡ start = ap (λ (n : ℕ). 1440 * n) c.day-first.ensures ∙ whole_days start (month_start c.args.month) c.month_range-start.ensures.start in
    let last : 1440 * next ≡ past = ap (λ (n : ℕ). 1440 * n) c.day-last.ensures ∙ whole_days past (month_start (c.args.month + 1)) c.month_range-start.ensures.past in
    let order : start < past = c.month_range-start.ensures.order in
    let end : 1440 * (day + (next - day)) ≡ past = omega arith in
    let found : c.deref-3.result.now ≡ month_breaches (1440 * day) (1440 * next) stretches =
    c.deref-3.ensures.value ∙ c.in_ok-breaches.ensures
    ∙ ap (λ (m : ℕ). month_breaches m past stretches) (sym first) ∙ ap (λ (m : ℕ). month_breaches (1440 * day) m stretches) (sym last) in
    let many : c.number.result - c.number-2.result ≡ next - day =
    ap (λ (n : ℕ). n - c.number-2.result) c.number.ensures.value ∙ ap (λ (n : ℕ). next - n) c.number-2.ensures.value in
    let (groups, written, are) = c.in_ok-push_days.ensures stretches c.in_ok-seen.ensures found in
    record {
      day = day;
      days = next - day;
      bounds = record { first = ap (λ (n : ℕ). pos n) first ∙ c.month_range-start.ensures.start; end = ap (λ (n : ℕ). pos n) end ∙ c.month_range-start.ensures.past };
      groups = groups;
      are = are;
      is =
          chart_pieces c.args.number c.args.month (next - day) _ c.args.name.now _ _ groups _ _ _ _ _
          (c.deref.ensures ∙ c.in_ok-title.ensures) (c.deref-2.ensures ∙ c.in_ok-title.ensures) many
          c.new-text.ensures.bytes c.in_ok-push_front.ensures c.in_ok-push_hours.ensures written c.in_ok-push_legend.ensures;
    }
