-- Trusted: The texts of a driver's stretches: what is examined from the base on, and what isn't.
use Rattle.std.specs.Prelude.{ℕ, ◌/◌, List, [], ◌++◌, Option, Some, None, codes, flat_map}
use Rattle.tacho_time.specs.Text.{day_text, minute_text}
use Rattle.tacho_stretches.specs.Stretches.{Judged}
use Rattle.tacho_sheet.specs.Reports.{breach_text, owed_text}

-- the minutes after a horizon that aren't examined, if there are any
abbrev pub unseen_line : ℕ → Option ℕ → List ℕ
unseen_line horizon None = []
unseen_line horizon (Some past) = codes "NOT EXAMINED " ++ (minute_text horizon ++ (codes " " ++ (minute_text past ++ codes "\n")))

-- a stretch: its Monday, the text of its report, and what isn't examined after it
abbrev pub block : List ℕ → Judged → List ℕ
block report s = codes "FROM " ++ (day_text (s.monday / 1440) ++ (codes "\n" ++ (report ++ unseen_line s.horizon.minute s.unseen)))

-- each stretch with its breaches
abbrev pub stretch_text : List Judged → List ℕ
stretch_text stretches = flat_map (λ s. block (breach_text s.breaches s.horizon) s) stretches

-- each stretch with its debts, as they are at its horizon
abbrev pub debt_text : List Judged → List ℕ
debt_text stretches = flat_map (λ s. block (owed_text s.debts s.horizon) s) stretches
