-- Private to tacho_rests: Debts, as the rests of a line come one at a time (Regulation (EC) No 561/2006, Articles 4(h) and 8(6b); 8(6b) as
-- amended by (EU) 2020/1054).
use Rattle.std.specs.Prelude.{◌≡◌, ℕ, ◌+◌, ◌<◌, ◌≤◌, ◌↔◌, List, [], ◌++◌, Contains, AllPairs, Option, None, MatchOption}
use Rattle.tacho_law.specs.declared.run.Run.{Run}
use Rattle.tacho_law.specs.declared.debt.Debt.{Debt}
use Rattle.tacho_law.specs.declared.breach.Breach.{Breach}
use Rattle.tacho_law.specs.Line.{Line}
use Rattle.tacho_law.specs.Limits.{daily_rest, weeks_to_pay}
use Rattle.tacho_law.specs.Runs.{IsRestRun, minutes_of}
use Rattle.tacho_law.specs.Weeks.{week_start, IsInWeek}
use Rattle.tacho_law.specs.Debts.{IsMainRest, Owes, EarlierWeek, AreDebts}
use Rattle.tacho_law.specs.ByRuns.{AreDone}
use Rattle.tacho_pass.specs.Heard.{IsNext}
use Rattle.tacho_rests.specs.Paying.{overdue_of}

-- the week has a main rest that starts before minute b, and owes this amount
pub record OwesBefore (line : Line) (horizon b w amount : ℕ) : Type 0 where
  pub main : Run
  pub is : IsMainRest line horizon w main
  pub before : main.start < b
  pub owes : Owes line horizon w amount

-- the debts of the main rests that start before a minute, each paid by the first run before that minute that can pay it (Article 8(6b))
pub record AreDebtsBefore (line : Line) (horizon b : ℕ) (debts : List Debt) : Type 0 where
  pub owed : (w amount : ℕ)
      → OwesBefore line horizon b w amount
      ↔ ((debt : Debt) × Contains debts debt × (debt.week ≡ w) × (debt.amount ≡ amount))
  pub deadlines : (debt : Debt) → Contains debts debt → debt.deadline ≡ week_start (debt.week + weeks_to_pay)
  pub in_order : AllPairs EarlierWeek debts
  pub done : AreDone line horizon b [] debts

-- one run starts before the other
abbrev pub StartsBefore : Run → Run → Type 0
StartsBefore a b = a.start < b.start

-- of the rests of nine hours that start before e, those that start at b or later haven't had their turn yet
pub record AreTurns (line : Line) (horizon b e : ℕ) (left : List Run) (debts : List Debt) : Type 0 where
  pub kept : AreDebtsBefore line horizon b debts
  pub each : (run : Run)
      → Contains left run ↔ (IsRestRun line run × (daily_rest ≤ minutes_of run) × (b ≤ run.start) × (run.start < e))
  pub in_order : AllPairs StartsBefore left
  pub below : b ≤ e

-- the debt of the week of this main rest
pub record IsNewDebt (line : Line) (horizon : ℕ) (main : Run) (debt : Debt) : Type 0 where
  pub is : IsMainRest line horizon debt.week main
  pub owes : Owes line horizon debt.week debt.amount
  pub deadline : debt.deadline ≡ week_start (debt.week + weeks_to_pay)

-- the rest runs that start from b to before e are those that start in the week
pub record IsWeekOf (line : Line) (w b e : ℕ) : Type 0 where
  pub within : (run : Run) → IsRestRun line run → b ≤ run.start → run.start < e → IsInWeek w run.start
  pub whole : (run : Run) → IsRestRun line run → IsInWeek w run.start → (b ≤ run.start) × (run.start < e)

-- the main rest of a week, if it has one
abbrev pub IsMainOf : Line → ℕ → ℕ → Option Run → Type 0
IsMainOf line horizon w main =
    MatchOption main ((run : Run) → IsMainRest line horizon w run → ⊥) (λ m. IsMainRest line horizon w m)

-- what a week owes, if it owes anything
abbrev pub IsOwedOf : Line → ℕ → ℕ → Option Debt → Type 0
IsOwedOf line horizon w owed = MatchOption owed
    ((amount : ℕ) → Owes line horizon w amount → ⊥)
    (λ debt. (debt.paid_by ≡ None) × (debt.week ≡ w) × Owes line horizon w debt.amount
    × (debt.deadline ≡ week_start (w + weeks_to_pay)))

-- for the rest runs that start before e: the week of the last one, the rests of nine hours that start in that week, and the debts of
-- earlier weeks, starting with those whose deadline has been reached
pub record IsSoFar (line : Line) (horizon e w : ℕ) (rests : List Run) (due debts : List Debt) : Type 0 where
  pub turns : AreTurns line horizon (week_start w) e rests (due ++ debts)
  pub high : e ≤ week_start (w + 1)
  pub come : (debt : Debt) → Contains due debt → debt.deadline ≤ week_start w

-- the state of a ledger, with the debts and the breaches that it has put
pub record IsLedger (line : Line) (horizon e w : ℕ) (rests : List Run) (debts : List Debt) (own : List Breach)
    (owed : List Debt) : Type 0 where
  pub so_far : IsSoFar line horizon e w rests owed debts
  pub own_is : own ≡ overdue_of horizon owed

-- a ledger at the week of the next run
pub record IsOpened (line : Line) (horizon : ℕ) (run : Run) (w : ℕ) (rests : List Run) (debts : List Debt)
    (own : List Breach) (owed : List Debt) : Type 0 where
  pub e : ℕ
  pub next : IsNext line e run
  pub ledger : IsLedger line horizon e w rests debts own owed

-- all debts, and the breaches of those that weren't paid in time
pub record IsOwed (line : Line) (horizon : ℕ) (own : List Breach) (owed : List Debt) : Type 0 where
  pub are_debts : AreDebts line horizon owed
  pub own_is : own ≡ overdue_of horizon owed
