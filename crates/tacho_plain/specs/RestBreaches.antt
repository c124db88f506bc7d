-- Private to tacho_plain: Terms of the pass over weekly rests (Regulation (EC) No 561/2006, Articles 8(6b) and 8(7); 8(6b) as amended by
-- (EU) 2020/1054).
use Rattle.std.specs.Prelude.{◌≡◌, ℕ, ◌+◌, ◌≤◌}
use Rattle.tacho_law.specs.declared.run.Run.{Run}
use Rattle.tacho_law.specs.declared.run.TheConstants.{FAR}
use Rattle.tacho_law.specs.declared.debt.Debt.{Debt}
use Rattle.tacho_law.specs.Runs.{IsRestRun}
use Rattle.tacho_law.specs.Line.{Line}
use Rattle.tacho_law.specs.Weeks.{week_start}
use Rattle.tacho_law.specs.Debts.{IsMainRest, Owes}
use Rattle.tacho_law.specs.Limits.{weeks_to_pay, latest}

-- the last rest run of a line, which has no end
pub record IsLastRun (line : Line) (run : Run) : Type 0 where
  pub rests : IsRestRun line run
  pub no_end : run.past ≡ FAR
  pub early : run.start ≤ latest

-- the debt of the week of a main rest, except for its payer (Article 8(6b))
pub record IsDebtOf (line : Line) (horizon : ℕ) (main : Run) (debt : Debt) : Type 0 where
  pub is : IsMainRest line horizon debt.week main
  pub owes : Owes line horizon debt.week debt.amount
  pub deadline : debt.deadline ≡ week_start (debt.week + weeks_to_pay)
