-- Trusted: How all drivers stand in a month, as CSV: for each driver what is held and how far it is examined, the gaps, the breaches of the
-- month and of the month before, and the open debts.
use Rattle.std.specs.Prelude.{◌≡◌, ℕ, ◌-◌, nat_eq, Bool, true, false, List, [], ◌∷◌, ◌++◌, Option, None, Some, codes, decimal, filter, length, sum_by}
use Rattle.tacho_time.specs.Text.{minute_text}
use Rattle.tacho_time.specs.declared.span.Span.{Span}
use Rattle.tacho_line.specs.declared.gap.Gap.{Gap}
use Rattle.tacho_line.specs.Line.{AreGaps}
use Rattle.tacho_law.specs.declared.debt.Debt.{Debt}
use Rattle.tacho_stretches.specs.Start.{IsEndOfHeld}
use Rattle.tacho_stretches.specs.Stretches.{Judged}
use Rattle.tacho_ahead.specs.Outlook.{is_open_debt}
use Rattle.tacho_state.specs.Summaries.{Summary}
use Rattle.tacho_sheet.specs.Cells.{held_to, minute_cell, row_text}
use Rattle.tacho_sheet.specs.Months.{month_breaches}
use Rattle.tacho_sheet.specs.Reports.{AreBounds, cause_name, column_minutes, is_lacking}

-- the number of breaches of all stretches whose moment is in the month
abbrev pub IsCountIn : ℕ → List Judged → ℕ → Type 0
IsCountIn month stretches n =
    (start : ℕ) × (past : ℕ) × AreBounds month start past × (n ≡ length (month_breaches start past stretches))

-- the same of the month before; 0 if there is none
abbrev pub IsCountUnless : Bool → ℕ → List Judged → ℕ → Type 0
IsCountUnless true month stretches n = n ≡ 0
IsCountUnless false month stretches n = IsCountIn (month - 1) stretches n

-- before 2000-01 there is no month
abbrev pub IsCountBefore : ℕ → List Judged → ℕ → Type 0
IsCountBefore month stretches n = IsCountUnless (nat_eq month 24000) month stretches n

-- the first minute of some gaps
abbrev pub first_lacking : List Gap → Option ℕ
first_lacking [] = None
first_lacking (g ∷ gaps) = Some g.start

-- the debts of a stretch that are open at its horizon, by week
abbrev pub open_at_horizon : Judged → List Debt
open_at_horizon s = filter (is_open_debt s.horizon.minute) s.debts

-- the deadline of the first of some debts by week, which is the earliest
abbrev pub first_deadline : List Debt → Option ℕ
first_deadline [] = None
first_deadline (d ∷ debts) = Some d.deadline

abbrev pub standing_head : List ℕ
standing_head = codes "driver,name,files,held,horizon,cause,gaps,unknown,first,last_month,breaches,debts,owes,by\n"

-- a driver's row: their name and the number of their card files; the end of what is held; the horizon of the last stretch, and its cause;
-- the number of gaps from the base to the end of what is held, their minutes, and their first minute; the breaches of the month before and
-- of the month; the number of open debts of the last stretch, their sum, and their earliest deadline
pub record IsStandingRow (driver : Summary) (line : List Span) (base : ℕ) (stretches : List Judged) (month : ℕ) (text : List ℕ) : Type 0 where
  pub front : List Judged
  pub last : Judged
  pub list : stretches ≡ front ++ last ∷ []
  pub end : ℕ
  pub is_end : IsEndOfHeld line base end
  pub gaps : List Gap
  pub are_gaps : AreGaps line base end gaps
  pub earlier : ℕ
  pub before : IsCountBefore month stretches earlier
  pub breaches : ℕ
  pub within : IsCountIn month stretches breaches
  pub is : text ≡ row_text (decimal driver.number) (
      driver.name ∷ decimal driver.downloads
      ∷ minute_cell (held_to base end) ∷ minute_text last.horizon.minute ∷ cause_name last.horizon.cause
      ∷ decimal (length gaps) ∷ decimal (column_minutes line base (end - base) is_lacking) ∷ minute_cell (first_lacking gaps)
      ∷ decimal earlier ∷ decimal breaches
      ∷ decimal (length (open_at_horizon last)) ∷ decimal (sum_by (λ (d : Debt). d.amount) (open_at_horizon last))
      ∷ minute_cell (first_deadline (open_at_horizon last)) ∷ [])
