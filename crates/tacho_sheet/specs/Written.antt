-- Private to tacho_sheet: What is written for stretches, by the report of a line from each Monday.
use Rattle.std.specs.Prelude.{◌≡◌, ◌⊎◌, ℕ, ◌≤◌, List, [], ◌∷◌, ◌++◌, flat_map}
use Rattle.tacho_time.specs.declared.span.Span.{Span}
use Rattle.tacho_time.specs.Spans.{IsCanonicalOf}
use Rattle.tacho_evidence.specs.OfReport.{AreShown, Shown}
use Rattle.tacho_law.specs.declared.breach.Breach.{Breach}
use Rattle.tacho_law.specs.declared.debt.Debt.{Debt}
use Rattle.tacho_law.specs.Limits.{latest}
use Rattle.tacho_law.specs.Line.{line_of}
use Rattle.tacho_line.specs.declared.horizon.Horizon.{Horizon}
use Rattle.tacho_line.specs.Line.{HoldsWithin}
use Rattle.tacho_rules.specs.Report.{IsReport}
use Rattle.tacho_stretches.specs.Stretches.{Judged}
use Rattle.tacho_sheet.specs.Evidence.{shown_text}
use Rattle.tacho_sheet.specs.Reports.{breaches_within}

-- evidence for the breaches of a report with their moment from `start` to before `past`, from the spans that the line holds up to the horizon
pub record HasEvidence (line : List Span) (start past monday horizon : ℕ) (found : List Breach) (debts : List Debt) (shown : List Shown) : Type 0 where
  pub spans : List Span
  pub slice : IsCanonicalOf (HoldsWithin line monday horizon) spans
  pub are : AreShown (line_of spans) monday horizon debts (breaches_within start past found) shown

-- the breaches of the report of a line from a Monday, with their moment from `start` to before `past`, each with its evidence
pub record IsWhyFrom (line : List Span) (start past monday : ℕ) (text : List ℕ) : Type 0 where
  pub horizon : Horizon
  pub found : List Breach
  pub debts : List Debt
  pub report : IsReport line monday horizon found debts
  pub shown : List Shown
  pub evidence : HasEvidence line start past monday horizon.minute found debts shown
  pub is : text ≡ flat_map shown_text shown

-- what is written for a stretch: nothing if it has no such breach; otherwise it has ended by the end of 2099, and its Monday's report has
-- this text
abbrev pub IsWritten : List Span → ℕ → ℕ → Judged → List ℕ → Type 0
IsWritten line start past s text =
    ((breaches_within start past s.breaches ≡ []) × (text ≡ []))
    ⊎ (¬ (breaches_within start past s.breaches ≡ []) × (s.horizon.minute ≤ latest) × IsWhyFrom line start past s.monday text)

abbrev pub AreWritten : List Span → ℕ → ℕ → List Judged → List ℕ → Type 0
AreWritten line start past [] text = text ≡ []
AreWritten line start past (s ∷ stretches) text =
    (front : List ℕ) × (back : List ℕ) × (text ≡ front ++ back) × IsWritten line start past s front × AreWritten line start past stretches back
