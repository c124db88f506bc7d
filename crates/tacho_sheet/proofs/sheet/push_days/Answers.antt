use Rattle.std.proofs.Common.{◌≡◌, ◌+◌, ◌-◌, ◌*◌, ◌<◌, ◌≤◌, ◌++◌, ◌∙◌, ap, subst, string_bytes, ℕ, arith}
use Rattle.tacho_sheet.specs.Amounts.{AreAmounts, line_of_day, whole}
use Rattle.tacho_sheet.proofs.AmountLemmas.{amounts_more, amounts_small}
use Rattle.tacho_sheet.proofs.SheetLemmas.{days_more}
use Rattle.tacho_sheet.proofs.sheet.push_days.Goals as goal

pub add_all-requires : goal.add_all-requires
add_all-requires c =
    let line = c.args.line.now in
    let first : ℕ = c.args.first in
    let day : ℕ = c.loop-number.number in
    let same : c.new-day.result ≡ day = c.new-day.ensures in
    let counted : AreAmounts line (1440 * c.new-day.result) 1440 c.in_ok-amounts.amounts = c.in_ok-amounts.ensures in
    let amounts = subst (λ (n : ℕ). AreAmounts line (1440 * n) 1440 c.in_ok-amounts.amounts) same counted in
    let sums : whole c.loop-number.total ≤ 6 * (1440 * (day - first)) = amounts_small line (1440 * first) (1440 * (day - first)) c.loop-number.total c.loop-number.invariant.sums in
    let more : whole c.in_ok-amounts.amounts ≤ 6 * 1440 = amounts_small line (1440 * day) 1440 c.in_ok-amounts.amounts amounts in
    let last : c.number-number-end.result ≤ 47520 = c.number-number-end.ensures.bound in
    let before : day < c.number-number-end.result = c.loop-number-test.true in
    omega arith

pub loop-number-preserved : goal.loop-number-preserved
loop-number-preserved c =
    let line = c.args.line.now in
    let first : ℕ = c.args.first in
    let day : ℕ = c.loop-number.number in
    let a = c.in_ok-amounts.amounts in
    let above : first ≤ day = omega arith in
    let same : c.new-day.result ≡ day = c.new-day.ensures in
    let counted : AreAmounts line (1440 * c.new-day.result) 1440 a = c.in_ok-amounts.ensures in
    let amounts = subst (λ (n : ℕ). AreAmounts line (1440 * n) 1440 a) same counted in
    let pushed : string_bytes c.push_day.new.text ≡ string_bytes c.loop-number.text ++ line_of_day c.new-day.result a = c.in_ok-push_day.ensures in
    let at : 1440 * day ≡ 1440 * first + 1440 * (day - first) = omega arith in
    let many : 1440 * (day - first) + 1440 ≡ 1440 * ((day + 1) - first) = omega arith in
    let e = c.add_all.ensures in
    let sums = amounts_more line (1440 * first) (1440 * (day - first)) (1440 * day) 1440 c.loop-number.total a c.add_all.new.self at c.loop-number.invariant.sums amounts
    e.rest e.available e.work e.drive e.crew e.lacking in
    record {
      lines = days_more line first day (string_bytes c.args.text.now) (string_bytes c.loop-number.text) (string_bytes c.push_day.new.text) a above amounts c.loop-number.invariant.lines
          (pushed ∙ ap (λ (n : ℕ). string_bytes c.loop-number.text ++ line_of_day n a) same);
      sums = rw many at sums;
    }
