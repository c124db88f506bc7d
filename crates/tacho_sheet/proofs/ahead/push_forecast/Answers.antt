use Rattle.std.proofs.Common.{◌≡◌, ◌≤◌, ◌++◌, ◌∙◌, ap, string_bytes, List, ℕ, refl, arith}
use Rattle.std.specs.List.{flat_map}
use Rattle.std.proofs.lemmas.Result.{on_ok_weaker}
use Rattle.tacho_law.specs.declared.breach.Breach.{Breach}
use Rattle.tacho_law.specs.declared.debt.Debt.{Debt}
use Rattle.tacho_sheet.specs.Ahead.{limit_lines, used_lines}
use Rattle.tacho_sheet.specs.Reports.{breach_line, debt_line}
use Rattle.tacho_sheet.proofs.AheadLemmas.{some_week}
use Rattle.tacho_sheet.proofs.TextLemmas.{pieces4}
use Rattle.tacho_sheet.proofs.ahead.push_forecast.Goals as goal

pub returns : goal.returns
returns c =
    let start : ℕ = c.args.start in
    let o = c.in_ok-outlook.outlook in
    let monday = c.requires.examined.is_base.from in
    let at = c.requires.open.is.from in
    let early = c.requires.open.early in
    let from : 15840 ≤ start = omega (arith, monday, at, early) in
    let (week, here) = some_week start from in
    let used : List ℕ = used_lines start week o.used in
    let coming : List ℕ = flat_map breach_line o.coming.items in
    let debts : List ℕ = flat_map (debt_line start) o.debts.items in
    let limits : List ℕ = limit_lines start o.limits in
    let one : string_bytes c.push_used.new.text ≡ string_bytes c.args.text.now ++ used = c.in_ok-push_used.ensures week here in
    let two : string_bytes c.push_breaches.new.text ≡ string_bytes c.push_used.new.text ++ coming =
    c.in_ok-push_breaches.ensures
    ∙ ap (λ (xs : List Breach). string_bytes c.push_used.new.text ++ flat_map breach_line xs) c.deref.ensures.value in
    let three : string_bytes c.push_debts.new.text ≡ string_bytes c.push_breaches.new.text ++ debts =
    c.in_ok-push_debts.ensures
    ∙ ap (λ (xs : List Debt). string_bytes c.push_breaches.new.text ++ flat_map (debt_line start) xs) c.deref-2.ensures.value in
    on_ok_weaker c.push_limits.result (λ (four : string_bytes c.push_limits.new.text ≡ string_bytes c.push_debts.new.text ++ limits). (
      used ++ (coming ++ (debts ++ limits)),
      pieces4 used coming debts limits (string_bytes c.args.text.now) _ _ _ _ one two three four,
      record {
        limits = o.limits;
        used = o.used;
        coming = o.coming.items;
        debts = o.debts.items;
        outlook = c.in_ok-outlook.ensures;
        week = week;
        here = here;
        is = refl;
      },
    )) c.push_limits.ensures
