use Rattle.std.proofs.Common.{◌≡◌, ◌≤◌, ℕ, arith}
use Rattle.std.specs.List.{Contains}
use Rattle.tacho_law.specs.declared.run.Run.{Run}
use Rattle.tacho_law.specs.Debts.{minutes_before}
use Rattle.tacho_law.specs.Weeks.{IsInWeek}
use Rattle.tacho_periods.specs.MainRests.{IsBetter}
use Rattle.tacho_periods.proofs.MainRestLemmas.{not_test, main_yes, main_best, main_in}
use Rattle.tacho_periods.proofs.main_rests.is_main.Goals as goal

pub returns-clause-main : goal.returns-clause-main
returns-clause-main c = λ line are is.
    let v : ℕ = c.week_of.result in
    let start : c.new.result ≡ c.args.rest.start = c.new.ensures in
    let week : IsInWeek v c.args.rest.start = (omega arith, omega arith) in
    let enough : 1440 ≤ minutes_before c.args.horizon c.args.rest =
    let e : c.known_minutes.result ≡ minutes_before c.args.horizon c.args.rest = c.known_minutes.ensures in
    let f : 1440 ≤ c.known_minutes.result = c.if-known_minutes-lt-WEEKLY_REST.false in
    omega arith in
    let test =
    not_test
    ((other : Run) × Contains c.args.weekly.now other
    × IsInWeek v other.start × IsBetter c.args.horizon other c.args.rest)
    c.is_outdone.result c.is_outdone.ensures in (
      λ h. (
        v,
        main_yes line c.args.weekly.now are c.args.horizon c.args.rest is v week
            enough (λ other in' within better. test.0 h (other, in', within, better)),
      ),
      λ (w, main). test.1 (λ (other, in', within, better).
          main_best line c.args.weekly.now are c.args.horizon c.args.rest is v
          (main_in line c.args.weekly.now are c.args.horizon c.args.rest is w v main week) other in' within better),
    )
