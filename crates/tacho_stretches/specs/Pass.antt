-- Private to tacho_stretches: What a pass represents, in terms of the spans that it has taken.
use Rattle.std.specs.Prelude.{◌≡◌, ℕ, ◌+◌, ◌<◌, ◌≤◌, ◌⊎◌, All, false, map, List, [], ◌++◌, Option, None, Some}
use Rattle.tacho_time.specs.declared.span.Mark.{Mark}
use Rattle.tacho_time.specs.declared.span.Span.{Span}
use Rattle.tacho_time.specs.Spans.{Gives}
use Rattle.tacho_line.specs.Line.{mark_at, Holds}
use Rattle.tacho_law.specs.Limits.{latest}
use Rattle.tacho_law.specs.Line.{Joined, IsBase}
use Rattle.tacho_rules.specs.Report.{IsReport}
use Rattle.tacho_pass.specs.declared.found.Found.{Found}
use Rattle.tacho_rules.specs.declared.scan.Scan.{Scan}
use Rattle.tacho_rules.specs.Scan.{IsScanOf}
use Rattle.tacho_stretches.specs.declared.examination.Examination.{Examination}
use Rattle.tacho_stretches.specs.declared.examination.Examined.{Examined}
use Rattle.tacho_stretches.specs.declared.found.FoundStretches.{FoundStretches}
use Rattle.tacho_stretches.specs.declared.pass.StretchPass.{StretchPass}
use Rattle.tacho_stretches.specs.declared.stretch.Stretch.{Stretch}
use Rattle.tacho_stretches.specs.Start.{IsNextStart, IsHeld}
use Rattle.tacho_stretches.specs.Stretches.{Judged, judged_of, first_monday, AreAll}

-- ---- spans

-- no minute from the past on is held
abbrev pub EndsBy : List Span → ℕ → Type 0
EndsBy spans past = (m : ℕ) → past ≤ m → mark_at spans m ≡ None

-- a span that follows spans that end by `past`
pub record IsNext (spans : List Span) (past : ℕ) (s : Span) : Type 0 where
  pub ended : EndsBy spans past
  pub from : past ≤ s.start
  pub some : s.start < s.past

-- two lines hold the same before the past
abbrev pub AgreeBefore : ℕ → List Span → List Span → Type 0
AgreeBefore past spans line = (m : ℕ) → m < past → mark_at spans m ≡ mark_at line m

-- ---- an examination

-- an examination, with what it has found so far
pub record Examining : Type 0 where
  pub monday : ℕ
  pub minute : ℕ
  pub scan : Scan
  pub found : Found

abbrev pub examining : Examination → Found → Examining
examining e found = record { monday = e.monday; minute = e.minute; scan = e.scan; found = found }

-- the scan was fed what the spans hold from the examination's Monday to its minute, and none of it is crew
pub record IsExaminationOf (e : Examining) (spans : List Span) : Type 0 where
  pub is_base : IsBase e.monday
  pub parts : List Span
  pub joined : Joined parts e.monday e.minute
  pub single : All (λ s. s.mark.crew ≡ false) parts
  pub held : (m : ℕ) (mark : Mark) → Gives parts m mark → Holds spans m mark
  pub scanned : IsScanOf e.scan e.found e.monday parts

-- `e` has the report of the spans from its Monday
abbrev pub IsReportOf : Examined → List Span → Type 0
IsReportOf e spans = IsReport spans e.monday e.report.horizon e.report.breaches.items e.report.debts.items

-- the horizon is before the past of the spans, and no stretch can begin after it in the spans `sought`
pub record IsExaminedOf (e : Examined) (spans sought : List Span) (past : ℕ) : Type 0 where
  pub report : IsReportOf e spans
  pub before : e.report.horizon.minute < past
  pub none : IsNextStart sought e.report.horizon.minute None

-- ---- a pass

-- the place of a pass after spans that end by `past`: in an examination, or at the horizon of one
abbrev pub IsStageOf : Examining → Option Examined → List Span → List Span → ℕ → Type 0
IsStageOf e None spans sought past = (past ≤ e.minute) × IsExaminationOf e spans
IsStageOf e (Some x) spans sought past = IsExaminedOf x spans sought past

-- the Monday of the examination at that place
abbrev pub monday_of : Examining → Option Examined → ℕ
monday_of e None = e.monday
monday_of e (Some x) = x.monday

-- for each line that agrees with the spans before `past`, these are the stretches from the base to before a Monday
pub record AreDone (spans : List Span) (past base : ℕ) (done : List Judged) (monday : ℕ) : Type 0 where
  pub from : base ≤ monday
  pub first : (rest : List Judged) → first_monday rest ≡ Some monday → first_monday (done ++ rest) ≡ Some base
  pub all : (line : List Span) (end : ℕ) (rest : List Judged) → AgreeBefore past spans line → first_monday rest ≡ Some monday
      → AreAll line end rest → AreAll line end (done ++ rest)

-- a pass, with what it has found so far
pub record Passing : Type 0 where
  pub done : List Stretch
  pub examination : Examining
  pub examined : Option Examined
  pub past : ℕ

abbrev pub passing : StretchPass → FoundStretches → Passing
passing p found =
    record { done = found.done.items; examination = examining p.examination found.found; examined = found.examined; past = p.past }

-- the span can be taken next, after spans that ended by `past`
pub record IsTakeable (past : ℕ) (s : Span) : Type 0 where
  pub from : past ≤ s.start
  pub some : s.start < s.past
  pub within : s.past ≤ latest

abbrev pub CanTake : StretchPass → Span → Type 0
CanTake p s = IsTakeable p.past s

-- the pass has taken these spans, from the base on
pub record HasPassed (p : Passing) (base : ℕ) (spans : List Span) : Type 0 where
  pub ended : EndsBy spans p.past
  pub last : (p.past ≤ base) ⊎ ((m : ℕ) × (p.past ≡ m + 1) × IsHeld spans m)
  pub done : AreDone spans p.past base (map judged_of p.done) (monday_of p.examination p.examined)
  pub stands : IsStageOf p.examination p.examined spans spans p.past

abbrev pub IsPassOf : StretchPass → FoundStretches → ℕ → List Span → Type 0
IsPassOf p found base spans = HasPassed (passing p found) base spans

-- nothing was found yet
pub record HasNothing (found : FoundStretches) : Type 0 where
  pub done : found.done.items ≡ []
  pub breaches : found.found.breaches.items ≡ []
  pub debts : found.found.debts.items ≡ []
  pub examined : found.examined ≡ None
