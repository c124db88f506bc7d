-- Trusted: The forecast for all drivers, as CSV: for each driver until when driving can go on by each rule, and what is used.
use Rattle.std.specs.Prelude.{◌≡◌, ℕ, ◌/◌, ◌⊎◌, List, [], ◌∷◌, ◌++◌, Option, None, Some, codes, decimal, map, max, replicate}
use Rattle.tacho_time.specs.Text.{day_text, minute_text}
use Rattle.tacho_time.specs.declared.span.Span.{Span}
use Rattle.tacho_law.specs.declared.breach.Breach.{Breach}
use Rattle.tacho_law.specs.declared.debt.Debt.{Debt}
use Rattle.tacho_stretches.specs.Start.{IsEndOfHeld}
use Rattle.tacho_stretches.specs.Stretches.{Judged}
use Rattle.tacho_ahead.specs.declared.limits.Limits.{Limits}
use Rattle.tacho_ahead.specs.declared.used.Used.{Used}
use Rattle.tacho_ahead.specs.Plans.{IsInTime}
use Rattle.tacho_ahead.specs.Ahead.{limit_of}
use Rattle.tacho_ahead.specs.Outlook.{IsOutlook}
use Rattle.tacho_state.specs.Summaries.{Summary}
use Rattle.tacho_sheet.specs.Ahead.{limited, limit_lines, used_lines}
use Rattle.tacho_sheet.specs.Cells.{cells_text, held_to, minute_cell, row_text}

abbrev pub forecast_head : List ℕ
forecast_head = codes "driver,name,from,held,start,B1,B2,B3,B4,B5,B6,B7,B8,B9,reduced,extended,before,week\n"

-- the start, the limits by rule, and what is used; the driving of the week before that of the start, and of the week of the start, in minutes
abbrev pub outlook_cells : ℕ → Limits → Used → List (List ℕ)
outlook_cells start limits used =
    minute_text start
    ∷ (map (λ kind. minute_cell (limit_of limits kind)) limited
    ++ (decimal used.reduced ∷ decimal used.extended ∷ decimal used.driven_before ∷ decimal used.driven_in_week ∷ []))

-- the cells of a forecast from `start` on
pub record AreOutlookCells (held : List Span) (base start : ℕ) (cells : List (List ℕ)) : Type 0 where
  pub limits : Limits
  pub used : Used
  pub coming : List Breach
  pub debts : List Debt
  pub outlook : IsOutlook held base start limits used coming debts
  pub are : cells ≡ outlook_cells start limits used

-- fourteen empty cells
abbrev pub no_cells : List (List ℕ)
no_cells = replicate 14 []

-- the forecast from the later of the minute and the horizon on. The cells are empty if something is held after the last stretch, or if the
-- forecast would go past 2099.
abbrev pub AreForecastCells : List Span → ℕ → Judged → Option ℕ → List (List ℕ) → Type 0
AreForecastCells held minute s None cells =
    (IsInTime (max minute s.horizon.minute) × AreOutlookCells held s.monday (max minute s.horizon.minute) cells)
    ⊎ (¬ (IsInTime (max minute s.horizon.minute)) × (cells ≡ no_cells))
AreForecastCells held minute s (Some past) cells = cells ≡ no_cells

-- a driver's row: their name, the Monday of the last stretch, the end of what is held, and the forecast
pub record IsForecastRow (driver : Summary) (held : List Span) (base : ℕ) (stretches : List Judged) (minute : ℕ) (text : List ℕ) : Type 0 where
  pub front : List Judged
  pub last : Judged
  pub list : stretches ≡ front ++ last ∷ []
  pub end : ℕ
  pub is_end : IsEndOfHeld held base end
  pub cells : List (List ℕ)
  pub are : AreForecastCells held minute last last.unseen cells
  pub is : text ≡ row_text (decimal driver.number)
      (driver.name ∷ day_text (last.monday / 1440) ∷ minute_cell (held_to base end) ∷ cells)

-- ---- a row beside the driver's own forecast

-- a row that ends in these cells
abbrev pub EndsIn : List (List ℕ) → List ℕ → Type 0
EndsIn cells row = (front : List ℕ) × (row ≡ front ++ (cells_text cells ++ codes "\n"))

-- a driver's own forecast with this start, these limits and what is used
abbrev pub ShowsOutlook : ℕ → Limits → Used → List ℕ → Type 0
ShowsOutlook start limits used text =
    (front : List ℕ) × (between : List ℕ) × (week : ℕ)
    × (text ≡ front ++ (used_lines start week used ++ (between ++ limit_lines start limits)))

-- the row has the cells of the driver's own forecast; or empty ones, if something is held after the last stretch
abbrev pub SameForecast : Option ℕ → List ℕ → List ℕ → Type 0
SameForecast None row text =
    (start : ℕ) × (limits : Limits) × (used : Used) × EndsIn (outlook_cells start limits used) row × ShowsOutlook start limits used text
SameForecast (Some past) row text = EndsIn no_cells row
