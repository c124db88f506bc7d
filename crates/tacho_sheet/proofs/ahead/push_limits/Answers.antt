use Rattle.std.proofs.Common.{◌≡◌, ◌++◌, List, Option, ℕ, string_bytes}
use Rattle.std.proofs.lemmas.Result.{on_ok_weaker}
use Rattle.tacho_law.specs.declared.breach.Kind.{Kind}
use Rattle.tacho_law.specs.declared.breach.Kind.TheVariants.{B1, B2, B3, B4, B5, B6, B7, B8, B9}
use Rattle.tacho_ahead.specs.declared.limits.Limits.{Limits}
use Rattle.tacho_sheet.specs.Ahead.{limit_line}
use Rattle.tacho_sheet.proofs.AheadLemmas.{nine_pieces}
use Rattle.tacho_sheet.proofs.ahead.push_limits.Goals as goal

pub returns : goal.returns
returns c =
    let l : Limits = c.args.limits.now in
    let line : Kind → Option ℕ → List ℕ = limit_line c.args.start in
    on_ok_weaker c.push_limit-9.result (λ (last : string_bytes c.push_limit-9.new.text
    ≡ string_bytes c.push_limit-8.new.text ++ line B9 l.missing_rest).
    nine_pieces (line B1 l.breaks) (line B2 l.daily_rest) (line B3 l.reduced_rest) (line B4 l.extended_day) (line B5 l.third_day)
    (line B6 l.week) (line B7 l.two_weeks) (line B8 l.late_rest) (line B9 l.missing_rest) (string_bytes c.args.text.now) _ _ _ _ _ _ _ _ _
    c.in_ok-push_limit.ensures c.in_ok-push_limit-2.ensures c.in_ok-push_limit-3.ensures c.in_ok-push_limit-4.ensures
    c.in_ok-push_limit-5.ensures c.in_ok-push_limit-6.ensures c.in_ok-push_limit-7.ensures c.in_ok-push_limit-8.ensures last)
    c.push_limit-9.ensures
