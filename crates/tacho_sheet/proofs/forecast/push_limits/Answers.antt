use Rattle.std.proofs.Common.{◌≡◌, ◌++◌, List, Option, ℕ, codes, string_bytes}
use Rattle.std.proofs.lemmas.Result.{on_ok_weaker}
use Rattle.tacho_ahead.specs.declared.limits.Limits.{Limits}
use Rattle.tacho_sheet.specs.Cells.{minute_cell}
use Rattle.tacho_sheet.proofs.AheadLemmas.{nine_pieces}
use Rattle.tacho_sheet.proofs.forecast.push_limits.Goals as goal

pub returns : goal.returns
returns c =
    let l : Limits = c.args.limits.now in
    let cell : Option ℕ → List ℕ = λ m. codes "," ++ minute_cell m in
    on_ok_weaker c.push_limit-9.result (λ (last : string_bytes c.push_limit-9.new.text
    ≡ string_bytes c.push_limit-8.new.text ++ cell l.missing_rest).
    nine_pieces (cell l.breaks) (cell l.daily_rest) (cell l.reduced_rest) (cell l.extended_day) (cell l.third_day) (cell l.week)
    (cell l.two_weeks) (cell l.late_rest) (cell l.missing_rest) (string_bytes c.args.text.now) _ _ _ _ _ _ _ _ _
    c.in_ok-push_limit.ensures c.in_ok-push_limit-2.ensures c.in_ok-push_limit-3.ensures c.in_ok-push_limit-4.ensures
    c.in_ok-push_limit-5.ensures c.in_ok-push_limit-6.ensures c.in_ok-push_limit-7.ensures c.in_ok-push_limit-8.ensures last)
    c.push_limit-9.ensures
