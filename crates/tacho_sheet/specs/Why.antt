-- Trusted: The breaches of a month, each with its evidence.
use Rattle.std.specs.Prelude.{◌≡◌, ℕ, ◌+◌, ◌≤◌, All, List, [], ◌∷◌, ◌++◌, flat_map}
use Rattle.tacho_time.specs.declared.span.Span.{Span}
use Rattle.tacho_evidence.specs.OfReport.{AreShown, Shown}
use Rattle.tacho_law.specs.Limits.{latest}
use Rattle.tacho_law.specs.Line.{IsBase}
use Rattle.tacho_line.specs.Line.{AgreeWithin}
use Rattle.tacho_rules.specs.Report.{examined_line}
use Rattle.tacho_stretches.specs.Stretches.{Judged}
use Rattle.tacho_sheet.specs.Evidence.{shown_text}
use Rattle.tacho_sheet.specs.Reports.{AreBounds, breaches_within}

-- the breaches of a stretch with their moment from `start` to before `past`, each with its evidence
pub record IsWhyOf (held : List Span) (start past : ℕ) (s : Judged) (text : List ℕ) : Type 0 where
  pub shown : List Shown
  pub are : AreShown (examined_line held s.monday s.horizon.minute) s.monday s.horizon.minute s.debts (breaches_within start past s.breaches) shown
  pub is : text ≡ flat_map shown_text shown

-- those of stretches, one after the other
abbrev pub AreWhyOf : List Span → ℕ → ℕ → List Judged → List ℕ → Type 0
AreWhyOf held start past [] text = text ≡ []
AreWhyOf held start past (s ∷ stretches) text =
    (front : List ℕ) × (back : List ℕ) × (text ≡ front ++ back) × IsWhyOf held start past s front × AreWhyOf held start past stretches back

-- the breaches of a month, of all stretches of what is held
pub record IsMonthWhy (held : List Span) (stretches : List Judged) (month : ℕ) (text : List ℕ) : Type 0 where
  pub start : ℕ
  pub past : ℕ
  pub bounds : AreBounds month start past
  pub are : AreWhyOf held start past stretches text

-- ---- a line that agrees with what is held

-- a line can be examined from a minute: a Monday from 2000-01-03 to the end of 2099, and the line doesn't go past that end
pub record CanBeExamined (line : List Span) (monday : ℕ) : Type 0 where
  pub is_base : IsBase monday
  pub in_range : monday ≤ latest
  pub within : All (λ (s : Span). s.past ≤ latest) line

-- the line gives each minute of a stretch, and the minute after it, what is held, if the stretch has such a breach
abbrev pub AgreeOn : List Span → List Span → ℕ → ℕ → Judged → Type 0
AgreeOn line held start past s =
    ¬ (breaches_within start past s.breaches ≡ []) → AgreeWithin s.monday (s.horizon.minute + 1) line held
