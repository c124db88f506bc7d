-- Trusted: A month of all drivers, as CSV: what each driver holds, how much of it is examined, and the breaches.
use Rattle.std.specs.Prelude.{◌≡◌, ℕ, ◌-◌, ◌==◌, ◌&&◌, ◌||◌, nat_lt, nat_le, Bool, false, List, [], ◌∷◌, ◌++◌, codes, decimal, count_by, flat_map, map}
use Rattle.tacho_time.specs.declared.span.Span.{Span}
use Rattle.tacho_time.specs.Text.{minute_text}
use Rattle.tacho_law.specs.declared.breach.Breach.{Breach}
use Rattle.tacho_law.specs.declared.breach.Kind.{Kind}
use Rattle.tacho_law.specs.declared.breach.Kind.TheVariants.{B1, B2, B3, B4, B5, B6, B7, B8, B9, B10}
use Rattle.tacho_law.specs.Order.{place_of_kind}
use Rattle.tacho_stretches.specs.Stretches.{Judged}
use Rattle.tacho_sheet.specs.Reports.{AreBounds, breaches_within, columns, count_from, column_minutes}

-- the breaches of all stretches whose moment is from `start` to before `past`, stretch by stretch
abbrev pub month_breaches : ℕ → ℕ → List Judged → List Breach
month_breaches start past stretches = flat_map (λ (s : Judged). breaches_within start past s.breaches) stretches

-- ---- the overview

-- a minute is within a stretch
abbrev pub is_examined : List Judged → ℕ → Bool
is_examined [] m = false
is_examined (s ∷ stretches) m = (nat_le s.monday m && nat_lt m s.horizon.minute) || is_examined stretches m

abbrev pub kinds : List Kind
kinds = B1 ∷ B2 ∷ B3 ∷ B4 ∷ B5 ∷ B6 ∷ B7 ∷ B8 ∷ B9 ∷ B10 ∷ []

-- the number of breaches of a kind
abbrev pub count_of : List Breach → Kind → ℕ
count_of breaches kind = count_by (λ (b : Breach). place_of_kind b.kind == place_of_kind kind) breaches

-- for a range of minutes: the count of each column, the minutes within a stretch, and the number of breaches of each kind
abbrev pub numbers_of : List Span → List Judged → ℕ → ℕ → List ℕ
numbers_of line stretches start past =
    map (column_minutes line start (past - start)) columns
    ++ (count_from (is_examined stretches) start (past - start) ∷ map (count_of (month_breaches start past stretches)) kinds)

abbrev pub overview_head : List ℕ
overview_head = codes "driver,name,rest,available,work,drive,crew,none,examined,B1,B2,B3,B4,B5,B6,B7,B8,B9,B10\n"

-- a driver's number, name and numbers, separated by commas
abbrev pub overview_row : ℕ → List ℕ → List ℕ → List ℕ
overview_row number name numbers =
    decimal number ++ (codes "," ++ (name ++ (flat_map (λ n. codes "," ++ decimal n) numbers ++ codes "\n")))

-- a driver's row of the overview of a month
pub record IsOverviewRow (number : ℕ) (name : List ℕ) (line : List Span) (stretches : List Judged) (month : ℕ) (text : List ℕ) : Type 0 where
  pub start : ℕ
  pub past : ℕ
  pub bounds : AreBounds month start past
  pub is : text ≡ overview_row number name (numbers_of line stretches start past)

-- ---- incidents

-- the code of a rule
abbrev pub kind_code : Kind → List ℕ
kind_code B1 = codes "B1"
kind_code B2 = codes "B2"
kind_code B3 = codes "B3"
kind_code B4 = codes "B4"
kind_code B5 = codes "B5"
kind_code B6 = codes "B6"
kind_code B7 = codes "B7"
kind_code B8 = codes "B8"
kind_code B9 = codes "B9"
kind_code B10 = codes "B10"

-- the Article of Regulation (EC) No 561/2006 that states the rule
abbrev pub article : Kind → List ℕ
article B1 = codes "Art 7"
article B2 = codes "Art 8(2)"
article B3 = codes "Art 8(4)"
article B4 = codes "Art 6(1)"
article B5 = codes "Art 6(1)"
article B6 = codes "Art 6(2)"
article B7 = codes "Art 6(3)"
article B8 = codes "Art 8(6)"
article B9 = codes "Art 8(6)"
article B10 = codes "Art 8(6b)"

abbrev pub incident_head : List ℕ
incident_head = codes "driver,name,kind,article,moment,since,amount\n"

-- a driver's breach, separated by commas
abbrev pub incident_row : ℕ → List ℕ → Breach → List ℕ
incident_row number name b =
    decimal number ++ (codes "," ++ (name ++ (codes "," ++ (kind_code b.kind ++ (codes "," ++ (article b.kind ++ (codes ","
    ++ (minute_text b.moment ++ (codes "," ++ (minute_text b.since ++ (codes "," ++ (decimal b.amount ++ codes "\n"))))))))))))

-- a driver's rows for a month, one for each breach
pub record AreIncidentRows (number : ℕ) (name : List ℕ) (stretches : List Judged) (month : ℕ) (text : List ℕ) : Type 0 where
  pub start : ℕ
  pub past : ℕ
  pub bounds : AreBounds month start past
  pub is : text ≡ flat_map (incident_row number name) (month_breaches start past stretches)
