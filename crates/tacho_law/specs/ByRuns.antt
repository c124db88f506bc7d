-- Trusted in part: Compensation paid run by run, in order of time (Regulation (EC) No 561/2006, Article 8(6b) and 8(7), as amended by
-- (EU) 2020/1054): another way to find the payers of the definition in Debts.
use Rattle.std.specs.Prelude.{◌≡◌, ℕ, ◌<◌, ◌⊎◌, List, [], ◌∷◌, ◌++◌, All, Option, None, Some}
use Rattle.tacho_law.specs.declared.run.Run.{Run}
use Rattle.tacho_law.specs.declared.debt.Debt.{Debt}
use Rattle.tacho_law.specs.Line.{Line}
use Rattle.tacho_law.specs.Debts.{CanPay, Pays, AreOwed}

-- no run pays the debt yet, and this run has room for it, in addition to what it pays of earlier debts
pub record CanTake (line : Line) (horizon : ℕ) (run : Run) (earlier : List Debt) (debt : Debt) : Type 0 where
  pub unpaid : debt.paid_by ≡ None
  pub can : CanPay line horizon earlier debt run

-- a debt before and after a run's turn: the run pays it if it can; otherwise the debt stays as it is
abbrev pub IsTurn : Line → ℕ → Run → List Debt → Debt → Debt → Type 0
IsTurn line horizon run earlier before after =
    (CanTake line horizon run earlier before × (after ≡ record before { paid_by = Some run.start }))
    ⊎ ((CanTake line horizon run earlier before → ⊥) × (after ≡ before))

-- debts before and after a run's turn, starting from the oldest
abbrev pub AfterRun : Line → ℕ → Run → List Debt → List Debt → List Debt → Type 0
AfterRun line horizon run earlier [] [] = Unit {0}
AfterRun line horizon run earlier [] (after ∷ others) = ⊥
AfterRun line horizon run earlier (before ∷ debts) [] = ⊥
AfterRun line horizon run earlier (before ∷ debts) (after ∷ others) =
    IsTurn line horizon run earlier before after × AfterRun line horizon run (earlier ++ after ∷ []) debts others

-- debts before and after the turns of runs
abbrev pub AfterRuns : Line → ℕ → List Run → List Debt → List Debt → Type 0
AfterRuns line horizon [] before after = before ≡ after
AfterRuns line horizon (run ∷ runs) before after =
    (between : List Debt) × AfterRun line horizon run [] before between × AfterRuns line horizon runs between after

-- the debts of a line, after the turns of the runs
pub record ArePaidByRuns (line : Line) (horizon : ℕ) (runs : List Run) (debts : List Debt) : Type 0 where
  pub owed : List Debt
  pub are_owed : AreOwed line horizon owed
  pub unpaid : All (λ debt. debt.paid_by ≡ None) owed
  pub paid : AfterRuns line horizon runs owed debts

-- after the turns of the runs that start before minute b: the first of them that can pay the debt pays it, or none can
abbrev pub IsDone : Line → ℕ → ℕ → List Debt → Debt → Option ℕ → Type 0
IsDone line horizon b earlier debt None = (run : Run) → run.start < b → CanPay line horizon earlier debt run → ⊥
IsDone line horizon b earlier debt (Some start) = (start < b) × Pays line horizon earlier debt start

-- likewise for each of these debts, given those before it
abbrev pub AreDone : Line → ℕ → ℕ → List Debt → List Debt → Type 0
AreDone line horizon b earlier [] = Unit {0}
AreDone line horizon b earlier (debt ∷ debts) =
    IsDone line horizon b earlier debt debt.paid_by × AreDone line horizon b (earlier ++ debt ∷ []) debts
