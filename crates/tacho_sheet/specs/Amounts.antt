-- Private to tacho_sheet: The six amounts of some minutes, as they are counted and as they are written.
use Rattle.std.specs.Prelude.{◌≡◌, ℕ, ◌+◌, ◌<◌, ◌≤◌, Bool, true, false, List, [], ◌∷◌, ◌++◌, ◌%◌, codes, decimal, flat_map}
use Rattle.tacho_time.specs.declared.span.Activity.TheVariants.{Rest, Available, Work, Drive}
use Rattle.tacho_time.specs.declared.span.Span.{Span}
use Rattle.tacho_time.specs.Text.{day_text, month_text}
use Rattle.tacho_sheet.specs.declared.amounts.Amounts.{Amounts}
use Rattle.tacho_sheet.specs.Reports.{column_minutes, is_single_minute, is_crew, is_lacking, amount_text, right_aligned, weekday_name}

-- the amounts are those of the n minutes from m on
pub record AreAmounts (line : List Span) (m n : ℕ) (a : Amounts) : Type 0 where
  pub rest : a.rest ≡ column_minutes line m n (is_single_minute Rest)
  pub available : a.available ≡ column_minutes line m n (is_single_minute Available)
  pub work : a.work ≡ column_minutes line m n (is_single_minute Work)
  pub drive : a.drive ≡ column_minutes line m n (is_single_minute Drive)
  pub crew : a.crew ≡ column_minutes line m n is_crew
  pub lacking : a.lacking ≡ column_minutes line m n is_lacking

-- n if the test holds, otherwise 0
abbrev pub all_or_none : Bool → ℕ → ℕ
all_or_none true n = n
all_or_none false n = 0

-- the sum of the six amounts
abbrev pub whole : Amounts → ℕ
whole a = a.rest + (a.available + (a.work + (a.drive + (a.crew + a.lacking))))

-- the spans are in order between two minutes, and none is empty
abbrev pub AreFrom : ℕ → ℕ → List Span → Type 0
AreFrom from past [] = from ≤ past
AreFrom from past (s ∷ ss) = (from ≤ s.start) × (s.start < s.past) × AreFrom s.past past ss

-- the six amounts, each right-aligned in seven columns
abbrev pub amounts_line : Amounts → List ℕ
amounts_line a =
    right_aligned (amount_text a.rest) ++ (right_aligned (amount_text a.available) ++ (right_aligned (amount_text a.work) ++ (right_aligned (amount_text a.drive)
    ++ (right_aligned (amount_text a.crew) ++ (right_aligned (amount_text a.lacking) ++ [])))))

-- the line of a day with these amounts
abbrev pub line_of_day : ℕ → Amounts → List ℕ
line_of_day day a = day_text day ++ (codes " " ++ (weekday_name ((day + 3) % 7) ++ (amounts_line a ++ codes "\n")))

-- the text before the days
abbrev pub head_text : ℕ → List ℕ → ℕ → List ℕ
head_text number name month =
    codes "DRIVER " ++ (decimal number ++ (codes " " ++ (name ++ (codes "\nMONTH " ++ (month_text month
    ++ codes "\nDATE       DAY   REST  AVAIL   WORK  DRIVE   CREW   NONE\n")))))

-- the six amounts, in the order of the columns
abbrev pub amounts_in : Amounts → List ℕ
amounts_in a = a.rest ∷ a.available ∷ a.work ∷ a.drive ∷ a.crew ∷ a.lacking ∷ []

-- numbers, each after a comma
abbrev pub cells : List ℕ → List ℕ
cells numbers = flat_map (λ n. codes "," ++ decimal n) numbers
