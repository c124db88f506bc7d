-- Trusted: The text of a forecast for a driver: the last stretch, what is used, which breaches come even if nothing is driven, which debts are
-- open, and until when driving can go on by each rule.
use Rattle.std.specs.Prelude.{◌≡◌, ℕ, ◌+◌, ◌-◌, ◌*◌, List, [], ◌∷◌, ◌++◌, Option, None, Some, codes, decimal, flat_map, max}
use Rattle.tacho_time.specs.Text.{day_text, minute_text}
use Rattle.tacho_time.specs.declared.span.Span.{Span}
use Rattle.tacho_law.specs.declared.breach.Breach.{Breach}
use Rattle.tacho_law.specs.declared.breach.Kind.{Kind}
use Rattle.tacho_law.specs.declared.breach.Kind.TheVariants.{B1, B2, B3, B4, B5, B6, B7, B8, B9}
use Rattle.tacho_law.specs.declared.debt.Debt.{Debt}
use Rattle.tacho_law.specs.Weeks.{IsInWeek}
use Rattle.tacho_stretches.specs.Stretches.{Judged}
use Rattle.tacho_ahead.specs.declared.limits.Limits.{Limits}
use Rattle.tacho_ahead.specs.declared.used.Used.{Used}
use Rattle.tacho_ahead.specs.Plans.{IsInTime}
use Rattle.tacho_ahead.specs.Ahead.{limit_of}
use Rattle.tacho_ahead.specs.Outlook.{IsOutlook}
use Rattle.tacho_sheet.specs.Reports.{amount_text, breach_line, debt_line, horizon_line, kind_name}
use Rattle.tacho_sheet.specs.Stretches.{block}

-- a minute, or `-` if there is none
abbrev pub since_text : Option ℕ → List ℕ
since_text None = codes "-"
since_text (Some m) = minute_text m

-- a week by its Monday, and its driving
abbrev pub driven_line : ℕ → ℕ → List ℕ
driven_line week minutes = codes "DRIVEN " ++ (day_text (4 + 7 * week) ++ (codes " " ++ (amount_text minutes ++ codes "\n")))

-- the start, and what is used; `week` is the week before that of the start
abbrev pub used_lines : ℕ → ℕ → Used → List ℕ
used_lines start week used =
    codes "START " ++ (minute_text start ++ (codes "\nREST SINCE " ++ (since_text used.rest_since ++ (codes "\nDAY SINCE "
    ++ (minute_text used.day_since ++ (codes "\nREDUCED " ++ (decimal used.reduced ++ (codes "\nEXTENDED " ++ (decimal used.extended
    ++ (codes "\n" ++ (driven_line week used.driven_before ++ driven_line (week + 1) used.driven_in_week)))))))))))

-- a rule's limit, if it has one, and how much is left until then
abbrev pub limit_line : ℕ → Kind → Option ℕ → List ℕ
limit_line start kind None = []
limit_line start kind (Some until) =
    kind_name kind ++ (codes " until " ++ (minute_text until ++ (codes " left " ++ (amount_text (until - start) ++ codes "\n"))))

-- the rules that have a limit
abbrev pub limited : List Kind
limited = B1 ∷ B2 ∷ B3 ∷ B4 ∷ B5 ∷ B6 ∷ B7 ∷ B8 ∷ B9 ∷ []

-- the limits, by rule
abbrev pub limit_lines : ℕ → Limits → List ℕ
limit_lines start limits = flat_map (λ kind. limit_line start kind (limit_of limits kind)) limited

-- a forecast from `start` on
pub record IsForecast (held : List Span) (base start : ℕ) (text : List ℕ) : Type 0 where
  pub limits : Limits
  pub used : Used
  pub coming : List Breach
  pub debts : List Debt
  pub outlook : IsOutlook held base start limits used coming debts
  pub week : ℕ
  pub here : IsInWeek (week + 1) start
  pub is : text ≡ used_lines start week used
      ++ (flat_map breach_line coming ++ (flat_map (debt_line start) debts ++ limit_lines start limits))

-- if nothing is held after the last stretch, the forecast from the later of the minute and the horizon on; otherwise nothing
abbrev pub IsForecastOf : List Span → ℕ → Judged → Option ℕ → List ℕ → Type 0
IsForecastOf held minute s None text = IsInTime (max minute s.horizon.minute) × IsForecast held s.monday (max minute s.horizon.minute) text
IsForecastOf held minute s (Some past) text = text ≡ []

-- the last stretch: its Monday, its horizon, and what isn't examined after it; then the forecast
pub record IsAheadText (held : List Span) (stretches : List Judged) (minute : ℕ) (text : List ℕ) : Type 0 where
  pub front : List Judged
  pub last : Judged
  pub list : stretches ≡ front ++ last ∷ []
  pub forecast : List ℕ
  pub is_forecast : IsForecastOf held minute last last.unseen forecast
  pub is : text ≡ block (horizon_line last.horizon) last ++ forecast

-- the forecast would go past 2099
pub record IsTooLate (stretches : List Judged) (minute : ℕ) : Type 0 where
  pub front : List Judged
  pub last : Judged
  pub list : stretches ≡ front ++ last ∷ []
  pub none_after : last.unseen ≡ None
  pub late : ¬ (IsInTime (max minute last.horizon.minute))
