-- Trusted: The texts of what a driver holds, and of what the rules find in it.
use Rattle.std.specs.Prelude.{◌≡◌, ℕ, zero, suc, ◌+◌, ◌-◌, ◌*◌, ◌/◌, ◌%◌, ◌&&◌, ◌==◌, pos, nat_lt, nat_le, not, Bool, true, false, List, [], ◌∷◌, ◌++◌, Option, Some, None, codes, decimal, flat_map, filter, length, replicate, if◌then◌else◌}
use Rattle.std.proofs.Math.IntN.{◌*ℤ◌}
use Rattle.tacho_time.specs.declared.span.Activity.{Activity}
use Rattle.tacho_time.specs.declared.span.Activity.TheVariants.{Rest, Available, Work, Drive}
use Rattle.tacho_time.specs.declared.span.Mark.{Mark}
use Rattle.tacho_time.specs.declared.span.Span.{Span}
use Rattle.tacho_time.specs.Merge.{activity_code}
use Rattle.tacho_time.specs.Reading.{month_start}
use Rattle.tacho_time.specs.Spans.{IsCanonicalOf}
use Rattle.tacho_time.specs.Text.{day_text, minute_text, month_text, two_digits, activity_name, manning_name}
use Rattle.tacho_line.specs.declared.gap.Gap.{Gap}
use Rattle.tacho_line.specs.declared.horizon.Cause.{Cause}
use Rattle.tacho_line.specs.declared.horizon.Cause.TheVariants.{Unknown, Crew}
use Rattle.tacho_line.specs.declared.horizon.Horizon.{Horizon}
use Rattle.tacho_line.specs.Line.{mark_at, AgreeWithin, AreGaps, HoldsWithin}
use Rattle.tacho_law.specs.declared.breach.Breach.{Breach}
use Rattle.tacho_law.specs.declared.debt.Debt.{Debt}
use Rattle.tacho_law.specs.declared.breach.Kind.{Kind}
use Rattle.tacho_law.specs.declared.breach.Kind.TheVariants.{B1, B2, B3, B4, B5, B6, B7, B8, B9, B10}

-- ---- breaches

-- the name of a rule, and the Article of Regulation (EC) No 561/2006 that states it
abbrev pub kind_name : Kind → List ℕ
kind_name B1 = codes "B1 Art 7"
kind_name B2 = codes "B2 Art 8(2)"
kind_name B3 = codes "B3 Art 8(4)"
kind_name B4 = codes "B4 Art 6(1)"
kind_name B5 = codes "B5 Art 6(1)"
kind_name B6 = codes "B6 Art 6(2)"
kind_name B7 = codes "B7 Art 6(3)"
kind_name B8 = codes "B8 Art 8(6)"
kind_name B9 = codes "B9 Art 8(6)"
kind_name B10 = codes "B10 Art 8(6b)"

-- the rule, the moment, the first minute and the amount
abbrev pub breach_line : Breach → List ℕ
breach_line b =
    kind_name b.kind ++ (codes " at " ++ (minute_text b.moment ++ (codes " since " ++ (minute_text b.since ++ (codes " amount "
    ++ (decimal b.amount ++ codes "\n"))))))

-- why the examination ends at the horizon
abbrev pub cause_name : Cause → List ℕ
cause_name Unknown = codes "unknown"
cause_name Crew = codes "crew"

-- the first minute that isn't examined
abbrev pub horizon_line : Horizon → List ℕ
horizon_line h = codes "EXAMINED TO " ++ (minute_text h.minute ++ (codes " " ++ (cause_name h.cause ++ codes "\n")))

-- the breaches in order, and where the examination ends
abbrev pub breach_text : List Breach → Horizon → List ℕ
breach_text breaches horizon = flat_map breach_line breaches ++ horizon_line horizon

-- ---- debts

-- a debt is paid by a rest; otherwise it is late if its deadline is at or before the horizon, and open if it is after it
abbrev pub paid_text : ℕ → ℕ → Option ℕ → List ℕ
paid_text horizon deadline (Some m) = codes "paid " ++ minute_text m
paid_text horizon deadline None = if nat_le deadline horizon then codes "late" else codes "open"

-- the week by its Monday, the amount in minutes, the deadline, and whether the debt is paid, late or open
abbrev pub debt_line : ℕ → Debt → List ℕ
debt_line horizon d =
    codes "WEEK " ++ (day_text (4 + 7 * d.week) ++ (codes " owes " ++ (decimal d.amount ++ (codes " by " ++ (minute_text d.deadline
    ++ (codes " " ++ (paid_text horizon d.deadline d.paid_by ++ codes "\n")))))))

-- the debts by week, and where the examination ends
abbrev pub owed_text : List Debt → Horizon → List ℕ
owed_text debts horizon = flat_map (debt_line horizon.minute) debts ++ horizon_line horizon

-- ---- gaps, and spans as CSV

-- the first minute of a month, and the first minute after it
pub record AreBounds (month start past : ℕ) : Type 0 where
  pub first : pos start ≡ pos 1440 *ℤ month_start month
  pub end : pos past ≡ pos 1440 *ℤ month_start (month + 1)

-- two lines give each minute of the month the same mark
abbrev pub AgreeIn : ℕ → List Span → List Span → Type 0
AgreeIn month line other = (start past : ℕ) → AreBounds month start past → AgreeWithin start past line other

abbrev pub gap_line : Gap → List ℕ
gap_line g = minute_text g.start ++ (codes " " ++ (minute_text g.past ++ codes "\n"))

-- the gaps of the month: the maximal ranges of its minutes that aren't held
pub record IsGapText (line : List Span) (month : ℕ) (text : List ℕ) : Type 0 where
  pub start : ℕ
  pub past : ℕ
  pub bounds : AreBounds month start past
  pub gaps : List Gap
  pub lacking : AreGaps line start past gaps
  pub is : text ≡ flat_map gap_line gaps

-- start, past, activity and manning, separated by commas
abbrev pub csv_line : Span → List ℕ
csv_line s =
    minute_text s.start ++ (codes "," ++ (minute_text s.past ++ (codes "," ++ (activity_name s.mark.activity ++ (codes ","
    ++ (manning_name s.mark.crew ++ codes "\n"))))))

abbrev pub csv_text : List Span → List ℕ
csv_text spans = codes "start,past,activity,manning\n" ++ flat_map csv_line spans

-- a head, and the canonical list of what is held in the month
pub record IsSpanCsv (line : List Span) (month : ℕ) (text : List ℕ) : Type 0 where
  pub start : ℕ
  pub past : ℕ
  pub bounds : AreBounds month start past
  pub spans : List Span
  pub held : IsCanonicalOf (HoldsWithin line start past) spans
  pub is : text ≡ csv_text spans

-- ---- the sheet of a month

-- how many of the n minutes from m on pass the test
abbrev pub count_from : (ℕ → Bool) → ℕ → ℕ → ℕ
count_from p m zero = 0
count_from p m (suc n) = (if p m then 1 else 0) + count_from p (m + 1) n

-- held single with this activity, held as crew, or not held
abbrev pub is_single_minute : Activity → Option Mark → Bool
is_single_minute a None = false
is_single_minute a (Some mark) = not mark.crew && (activity_code mark.activity == activity_code a)

abbrev pub is_crew : Option Mark → Bool
is_crew None = false
is_crew (Some mark) = mark.crew

abbrev pub is_lacking : Option Mark → Bool
is_lacking None = true
is_lacking (Some mark) = false

-- the tests of the columns
abbrev pub columns : List (Option Mark → Bool)
columns = is_single_minute Rest ∷ is_single_minute Available ∷ is_single_minute Work ∷ is_single_minute Drive ∷ is_crew ∷ is_lacking ∷ []

-- the count of a column for the n minutes from m on
abbrev pub column_minutes : List Span → ℕ → ℕ → (Option Mark → Bool) → ℕ
column_minutes line m n column = count_from (λ k. column (mark_at line k)) m n

-- hours and minutes, which `right_aligned` aligns to the right of seven columns
abbrev pub amount_text : ℕ → List ℕ
amount_text n = decimal (n / 60) ++ (codes ":" ++ two_digits (n % 60))

abbrev pub right_aligned : List ℕ → List ℕ
right_aligned text = replicate (7 - length text) 32 ++ text

-- the six amounts of the n minutes from m on
abbrev pub amounts_text : List Span → ℕ → ℕ → List ℕ
amounts_text line m n = flat_map (λ column. right_aligned (amount_text (column_minutes line m n column))) columns

abbrev pub weekday_name : ℕ → List ℕ
weekday_name zero = codes "Mon"
weekday_name (suc zero) = codes "Tue"
weekday_name (suc (suc zero)) = codes "Wed"
weekday_name (suc (suc (suc zero))) = codes "Thu"
weekday_name (suc (suc (suc (suc zero)))) = codes "Fri"
weekday_name (suc (suc (suc (suc (suc zero))))) = codes "Sat"
weekday_name (suc (suc (suc (suc (suc (suc n)))))) = codes "Sun"

-- the line of a day: its date, its day of the week, and its amounts
abbrev pub day_line : List Span → ℕ → List ℕ
day_line line day = day_text day ++ (codes " " ++ (weekday_name ((day + 3) % 7) ++ (amounts_text line (1440 * day) 1440 ++ codes "\n")))

-- the lines of n days, from a day on
abbrev pub day_lines : List Span → ℕ → ℕ → List ℕ
day_lines line day zero = []
day_lines line day (suc n) = day_line line day ++ day_lines line (day + 1) n

-- the breaches whose moment is from `start` to before `past`
abbrev pub breaches_within : ℕ → ℕ → List Breach → List Breach
breaches_within start past breaches = filter (λ b. nat_le start b.moment && nat_lt b.moment past) breaches

-- driver, month, head, a line for each day, the sums, the breaches of the month, and where the examination ends
abbrev pub sheet_text : ℕ → List ℕ → List Span → List Breach → Horizon → ℕ → ℕ → ℕ → List ℕ
sheet_text number name line breaches horizon month day days =
    codes "DRIVER " ++ (decimal number ++ (codes " " ++ (name ++ (codes "\nMONTH " ++ (month_text month
    ++ (codes "\nDATE       DAY   REST  AVAIL   WORK  DRIVE   CREW   NONE\n"
    ++ (day_lines line day days ++ (codes "TOTAL         " ++ (amounts_text line (1440 * day) (1440 * days) ++ (codes "\n"
    ++ (flat_map breach_line (breaches_within (1440 * day) (1440 * (day + days)) breaches) ++ horizon_line horizon)))))))))))

pub record IsMonthSheet (number : ℕ) (name : List ℕ) (line : List Span) (breaches : List Breach) (horizon : Horizon) (month : ℕ)
    (text : List ℕ) : Type 0 where
  pub day : ℕ
  pub days : ℕ
  pub bounds : AreBounds month (1440 * day) (1440 * (day + days))
  pub is : text ≡ sheet_text number name line breaches horizon month day days
