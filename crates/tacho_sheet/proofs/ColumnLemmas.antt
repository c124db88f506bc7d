-- What the numbers of the overview mean: each minute counts in one column, and if all minutes of a range count as examined, each is within
-- a stretch.
use Rattle.std.proofs.Common.{◌≡◌, ℕ, zero, suc, ◌+◌, ◌<◌, ◌≤◌, Bool, true, false, List, Option, None, Some, map, refl, subst, arith, if◌then◌else◌, inl, inr}
use Rattle.std.specs.Prelude.{sum}
use Rattle.std.proofs.lemmas.Bool.{cases_lt}
use Rattle.tacho_time.specs.declared.span.Activity.{Activity}
use Rattle.tacho_time.specs.declared.span.Activity.TheVariants.{Rest, Available, Work, Drive}
use Rattle.tacho_time.specs.declared.span.Mark.{Mark}
use Rattle.tacho_time.specs.declared.span.Span.{Span}
use Rattle.tacho_line.specs.Line.{mark_at}
use Rattle.tacho_sheet.specs.Reports.{columns, count_from, column_minutes, is_single_minute, is_crew, is_lacking}
use Rattle.tacho_sheet.proofs.AmountLemmas.{count_le}

-- 1 if a test holds, otherwise 0
abbrev bit : Bool → ℕ
bit b = if b then 1 else 0

-- each mark, and no mark, belongs to exactly one column
one_column : (o : Option Mark)
    → bit (is_single_minute Rest o) + (bit (is_single_minute Available o) + (bit (is_single_minute Work o) + (bit (is_single_minute Drive o)
    + (bit (is_crew o) + bit (is_lacking o))))) ≡ 1
one_column None = refl
one_column (Some mark) = by_crew mark.crew mark.activity where
  by_crew : (crew : Bool) (a : Activity) → (let o : Option Mark = Some (record { activity = a; crew = crew }) in
      bit (is_single_minute Rest o) + (bit (is_single_minute Available o) + (bit (is_single_minute Work o) + (bit (is_single_minute Drive o)
      + (bit (is_crew o) + bit (is_lacking o))))) ≡ 1)
  by_crew true a = refl
  by_crew false Rest = refl
  by_crew false Available = refl
  by_crew false Work = refl
  by_crew false Drive = refl

-- the six columns of n minutes add up to n
pub add_up : (line : List Span) (m n : ℕ) → sum (map (column_minutes line m n) columns) ≡ n
add_up line m zero = refl
add_up line m (suc n) =
    let o = mark_at line m in
    let here = one_column o in
    let more : sum (map (column_minutes line (m + 1) n) columns) ≡ n = add_up line (m + 1) n in
    let a = bit (is_single_minute Rest o) in let b = bit (is_single_minute Available o) in let c = bit (is_single_minute Work o) in
    let d = bit (is_single_minute Drive o) in let e = bit (is_crew o) in let f = bit (is_lacking o) in
    omega (arith, here, more)

-- if the count of minutes that pass a test is n, each of the n minutes passes it
pub all_pass : (p : ℕ → Bool) (m n : ℕ) → count_from p m n ≡ n → (i : ℕ) → m ≤ i → i < m + n → p i ≡ true
all_pass p m zero h i a b = absurd (omega (arith, a, b))
all_pass p m (suc n) h i a b = go (p m) refl (λ rest later. all_pass p (m + 1) n rest i (omega (arith, later)) (omega (arith, b))) where
  below : count_from p (m + 1) n ≤ n
  below = count_le p (m + 1) n

  go : (t : Bool) → p m ≡ t → (count_from p (m + 1) n ≡ n → m < i → p i ≡ true) → p i ≡ true
  go false e more = absurd (let f : bit false + count_from p (m + 1) n ≡ suc n = subst (λ (t : Bool). bit t + count_from p (m + 1) n ≡ suc n) e h in
      let l = below in omega (arith, f, l))
  go true e more = elim (cases_lt m i) [
    | inl later ↦
        let f : bit true + count_from p (m + 1) n ≡ suc n = subst (λ (t : Bool). bit t + count_from p (m + 1) n ≡ suc n) e h in
        more (omega (arith, f)) later
    | inr early ↦ let here : m ≡ i = omega (arith, a, early) in subst (λ (k : ℕ). p k ≡ true) here e
  ]
