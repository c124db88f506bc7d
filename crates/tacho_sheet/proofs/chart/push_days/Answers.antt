use Rattle.std.proofs.Common.{◌≡◌, ◌+◌, ◌-◌, ◌*◌, ◌<◌, ◌≤◌, ◌++◌, ◌∙◌, ap, append_assoc, arith, subst, string_bytes, suc, ℕ, List}
use Rattle.tacho_sheet.specs.Chart.{AreDayGroups, IsDayGroup}
use Rattle.tacho_sheet.proofs.ChartLemmas.{groups_more}
use Rattle.tacho_sheet.proofs.chart.push_days.Goals as goal

pub loop-number-preserved : goal.loop-number-preserved
loop-number-preserved c stretches seen found =
    let line = c.args.line.now in
    let first : ℕ = c.args.first in
    let day : ℕ = c.loop-number.number in
    let above : first ≤ day = omega arith in
    let before : day < c.number-number-end.result = c.loop-number-test.true in
    let low : 1440 * first ≤ 1440 * c.new.result = omega (arith, c.new.ensures) in
    let high : 1440 * (c.new.result + 1) ≤ 1440 * c.args.past = omega (arith, c.new.ensures, before) in
    let (groups, so, are) = c.loop-number.invariant stretches seen found in
    let (group, pushed, is) = c.in_ok-push_day.ensures stretches (1440 * first) (1440 * c.args.past) seen found low high in
    let here : c.new.result ≡ first + (day - first) = omega (arith, c.new.ensures) in
    let many : suc (day - first) ≡ (day + 1) - first = omega arith in
    let placed = subst (λ (x : ℕ). IsDayGroup line stretches c.new.result (100 + 42 * (day - x)) group) c.number.ensures.value is in
    let own = subst (λ (k : ℕ). IsDayGroup line stretches k (100 + 42 * (day - first)) group) here placed in
    let all = groups_more line stretches first 100 (day - first) groups group are own in (
      groups ++ group,
      pushed ∙ ap (λ (t : List ℕ). t ++ group) so ∙ append_assoc (string_bytes c.args.text.now) groups group,
      subst (λ (n : ℕ). AreDayGroups line stretches first 100 n (groups ++ group)) many all,
    )
