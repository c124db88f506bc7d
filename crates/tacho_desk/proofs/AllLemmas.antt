-- The texts of a month of all drivers, which are read driver by driver.
use Rattle.std.proofs.Common.{◌≡◌, ◌<◌, ◌+◌, ◌*◌, ◌∙◌, ◌++◌, ℕ, zero, suc, List, [], ◌∷◌, Option, None, Some, Ok, refl, sym, ap, subst}
use Rattle.std.proofs.Common.{arith, append_assoc, get_or, length, map, take}
use Rattle.std.specs.List.{All}
use Rattle.std.specs.Prelude.{IfSome, true}
use Rattle.std.specs.Option.{is_some}
use Rattle.std.proofs.lemmas.List.{append-nil}
use Rattle.std.proofs.lemmas.List.{get_or-map, length-map}
use Rattle.std.proofs.lemmas.List.Elements.{All-get_or, All-map}
use Rattle.std.proofs.lemmas.List.Sorted.{All-permutation}
use Rattle.tacho_time.specs.Limits.{greatest_minute}
use Rattle.tacho_time.specs.declared.span.Span.{Span}
use Rattle.tacho_line.specs.Line.{AgreeWithin}
use Rattle.tacho_stretches.proofs.LawLemmas.{none_left_out}
use Rattle.tacho_stretches.specs.Ranges.{FollowOn, parts}
use Rattle.tacho_stretches.specs.Stretches.{AreStretches, Judged}
use Rattle.tacho_state.specs.State.{Driver, State, driver_of, held_spans}
use Rattle.tacho_state.specs.Steps.{report_reading, reading_of}
use Rattle.tacho_state.specs.Summaries.{AreSummaries, Summary, summary_of, told_summary}
use Rattle.tacho_state.specs.declared.summary.DriverSummary.{DriverSummary}
use Rattle.tacho_sheet.specs.Months.{AreIncidentRows, IsOverviewRow}
use Rattle.tacho_sheet.specs.Forecast.{IsForecastRow}
use Rattle.tacho_sheet.specs.Reports.{AreBounds}
use Rattle.tacho_sheet.specs.Standing.{IsStandingRow}
use Rattle.tacho_sheet.proofs.MarkLemmas.{overview_same}
use Rattle.tacho_desk.specs.Tasks.{AreOfEach, OfStretches}
use Rattle.tacho_desk.proofs.ShownLemmas.{agree_in}

-- ---- each listed driver exists

-- each driver of the state exists by number
all_there : (s : State) → All (λ (d : Driver). report_reading d.number s ≡ Ok tt) s
all_there [] i d within = absurd (omega (arith, within))
all_there (x ∷ s) zero d within = grind arith
all_there (x ∷ s) (suc i) d within = grind (arith, all_there s i d (omega (arith, within)))

-- so none of those listed is answered as unknown
pub none_unknown : (s : State) (drivers : List DriverSummary) (i : ℕ) (x : DriverSummary) → AreSummaries s (map told_summary drivers)
    → i < length drivers → x ≡ get_or drivers i x → report_reading x.number s ≡ Ok tt
none_unknown s drivers i x are within is =
    let IsThere = λ (x : Summary). report_reading x.number s ≡ Ok tt in
    let there = All-permutation IsThere (map summary_of s) (map told_summary drivers) are.all
    (All-map IsThere summary_of s (all_there s)) in
    rw (get_or-map told_summary drivers i x (told_summary x) within, ← is) at
    (All-get_or IsThere (map told_summary drivers) i (told_summary x) (simp length-map within) there)

-- ---- the text so far

-- the text so far: a head, and the text of each of the first `count` drivers
abbrev pub IsSoFar : List ℕ → (Summary → Driver → List ℕ → Type 0) → List DriverSummary → ℕ → List ℕ → State → Type 0
IsSoFar head Is drivers count text s =
    (rows : List ℕ) × (text ≡ head ++ rows) × AreOfEach Is s (map told_summary (take count drivers)) rows

-- the text of one more driver
each_more : (Is : Summary → Driver → List ℕ → Type 0) (s : State) (listed : List Summary) (x : Summary) (text row : List ℕ) (d : Driver)
    → AreOfEach Is s listed text → driver_of x.number s ≡ Some d → Is x d row → AreOfEach Is s (listed ++ x ∷ []) (text ++ row)
each_more Is s [] x text row d h e is =
    (d, e, row, [], ap (λ (t : List ℕ). t ++ row) h ∙ sym (append-nil row), is, refl)
each_more Is s (y ∷ listed) x text row d (theirs, his_is, front, back, made, of_one, more) e is = (
  theirs,
  his_is,
  front,
  back ++ row,
  ap (λ (t : List ℕ). t ++ row) made ∙ append_assoc front back row,
  of_one,
  each_more Is s listed x back row d more e is,
)

-- one more driver of the list
take_more : (xs : List DriverSummary) (i : ℕ) (x : DriverSummary) → i < length xs → x ≡ get_or xs i x
    → map told_summary (take (i + 1) xs) ≡ map told_summary (take i xs) ++ told_summary x ∷ []
take_more [] i x within is = absurd (omega (arith, within))
take_more (y ∷ xs) zero x within is = grind arith
take_more (y ∷ xs) (suc i) x within is = grind (arith, take_more xs i x)

-- the text so far with one more driver
pub row_more : (head : List ℕ) (Is : Summary → Driver → List ℕ → Type 0) (drivers : List DriverSummary) (i : ℕ) (x : DriverSummary)
    (before after : List ℕ) (s : State) → i < length drivers → x ≡ get_or drivers i x → IsSoFar head Is drivers i before s
    → (d : Driver) × (driver_of x.number s ≡ Some d) × (row : List ℕ) × (after ≡ before ++ row) × Is (told_summary x) d row
    → IsSoFar head Is drivers (i + 1) after s
row_more head Is drivers i x before after s within item (rows, made, each) (d, e, row, more, is) = (
  rows ++ row,
  more ∙ (ap (λ (t : List ℕ). t ++ row) made ∙ append_assoc head rows row),
  subst (λ (xs : List Summary). AreOfEach Is s xs (rows ++ row)) (sym (take_more drivers i x within item))
      (each_more Is s (map told_summary (take i drivers)) (told_summary x) rows row d each e is),
)

-- the text so far without any driver is the head
pub none_yet : (head : List ℕ) (Is : Summary → Driver → List ℕ → Type 0) (drivers : List DriverSummary) (text : List ℕ) (s : State)
    → text ≡ head → IsSoFar head Is drivers 0 text s
none_yet head Is drivers text s is = ([], is ∙ sym (append-nil head), refl)

-- ---- a driver's part of the text

-- the text for a driver who exists, by what they hold from the base on
pub of_base : (Is : List Span → ℕ → List Judged → List ℕ → Type 0) (o : Option Driver) (line : List Span) (stretches : List Judged)
    (before after : List ℕ) → reading_of {A = Unit {0}} (λ d. Ok tt) o ≡ Ok tt
    → IfSome o (λ d. AgreeWithin (1440 * d.base) greatest_minute line (held_spans d))
    → IfSome o (λ d. AreStretches (held_spans d) (1440 * d.base) stretches)
    → ((held : List Span) (base : ℕ) → AreStretches held base stretches → AgreeWithin base greatest_minute line held
    → (row : List ℕ) × (after ≡ before ++ row) × Is held base stretches row)
    → (d : Driver) × (o ≡ Some d) × (row : List ℕ) × (after ≡ before ++ row)
    × OfStretches (λ stretches. Is (held_spans d) (1440 * d.base) stretches) d row
of_base Is None line stretches before after there agree are pushed = cc
of_base Is (Some d) line stretches before after there agree are pushed =
    let row = pushed (held_spans d) (1440 * d.base) are agree in (d, refl, row.0, row.1, (stretches, are, row.2))

-- what is said of an answer that is there
pub when_some : (P : Type 0) (o : Option (Unit {0})) → true ≡ is_some o → IfSome o (λ _. P) → P
when_some P None some is = absurd (let wrong = some in cc)
when_some P (Some x) some is = is

-- the row of how a driver stands in a month; and below, the row of a forecast
abbrev pub IsStandingOf : ℕ → Summary → Driver → List ℕ → Type 0
IsStandingOf month x d = OfStretches (λ stretches. IsStandingRow x (held_spans d) (1440 * d.base) stretches month) d

abbrev pub IsForecastOf : ℕ → Summary → Driver → List ℕ → Type 0
IsForecastOf minute x d = OfStretches (λ stretches. IsForecastRow x (held_spans d) (1440 * d.base) stretches minute) d

-- the row of a month's overview; and below, the rows of its incidents
abbrev pub IsOverviewOf : ℕ → Summary → Driver → List ℕ → Type 0
IsOverviewOf month x d = OfStretches (λ stretches. IsOverviewRow x.number x.name (held_spans d) stretches month) d

abbrev pub AreIncidentsOf : ℕ → Summary → Driver → List ℕ → Type 0
AreIncidentsOf month x d = OfStretches (λ stretches. AreIncidentRows x.number x.name stretches month) d

-- the row of the overview for a driver who exists; it depends only on the marks in the month
pub overview_of : (o : Option Driver) (n : ℕ) (name line_name : List ℕ) (line : List Span) (stretches : List Judged) (month start past : ℕ)
    (before after : List ℕ) → AreBounds month start past → line_name ≡ name → reading_of {A = Unit {0}} (λ d. Ok tt) o ≡ Ok tt
    → IfSome o (λ d. AgreeWithin start past line (held_spans d)) → IfSome o (λ d. AreStretches (held_spans d) (1440 * d.base) stretches)
    → ((base end : ℕ) → FollowOn (parts stretches) base end → (row : List ℕ) × (after ≡ before ++ row)
    × IsOverviewRow n line_name line stretches month row)
    → (d : Driver) × (o ≡ Some d) × (row : List ℕ) × (after ≡ before ++ row)
    × OfStretches (λ stretches. IsOverviewRow n name (held_spans d) stretches month) d row
overview_of None n name line_name line stretches month start past before after bounds named there within are pushed = cc
overview_of (Some d) n name line_name line stretches month start past before after bounds named there within are pushed =
    let row = pushed (1440 * d.base) are.end (none_left_out (held_spans d) (1440 * d.base) are.end stretches are are.is_end) in
    let theirs = overview_same n line_name line (held_spans d) stretches month row.0
    (agree_in month start past line (held_spans d) bounds within) row.2 in
    (d, refl, row.0, row.1, (stretches, are, rw named at theirs))

-- the rows of the incidents of a driver who exists
pub incidents_of : (o : Option Driver) (n : ℕ) (name told_name : List ℕ) (stretches : List Judged) (month : ℕ) (before after : List ℕ)
    → told_name ≡ name → reading_of {A = Unit {0}} (λ d. Ok tt) o ≡ Ok tt
    → IfSome o (λ d. AreStretches (held_spans d) (1440 * d.base) stretches)
    → (rows : List ℕ) × (after ≡ before ++ rows) × AreIncidentRows n told_name stretches month rows
    → (d : Driver) × (o ≡ Some d) × (row : List ℕ) × (after ≡ before ++ row)
    × OfStretches (λ stretches. AreIncidentRows n name stretches month) d row
incidents_of None n name told_name stretches month before after named there are pushed = cc
incidents_of (Some d) n name told_name stretches month before after named there are (rows, made, is) =
    (d, refl, rows, made, (stretches, are, rw named at is))
