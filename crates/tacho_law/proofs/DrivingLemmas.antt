-- Counting driving minutes, minute by minute, and finding the k-th.
use Rattle.std.proofs.Common.{◌≡◌, ◌≢◌, ℕ, zero, suc, ◌+◌, ◌-◌, ◌<◌, ◌≤◌, inl, inr, List}
use Rattle.std.proofs.Common.{[], ◌∷◌, refl, ap}
use Rattle.std.proofs.Common.{◌∙◌, arith, true, false, add-one, add-suc, add-zero}
use Rattle.std.proofs.lemmas.Bool.{cases_lt}
use Rattle.std.proofs.lemmas.Bool.Decides.{nat_tests}
use Rattle.tacho_time.specs.declared.span.Activity.{Activity}
use Rattle.tacho_time.specs.declared.span.Activity.TheVariants.{Rest, Available, Work, Drive}
use Rattle.tacho_time.specs.declared.span.Span.{Span}
use Rattle.tacho_law.specs.Line.{line_of, Joined}
use Rattle.tacho_law.specs.Driving.{driving, is_drive, IsDrivingMinute}
use Rattle.tacho_law.proofs.RunsLemmas.{joined_le, line_past}

-- driving passes the test
drives : (a : Activity) → a ≡ Drive → is_drive a ≡ true
drives a e = ap is_drive e

-- other activities fail the test
idle : (a : Activity) → a ≢ Drive → is_drive a ≡ false
idle Drive n = absurd (n refl)
idle Rest n = refl
idle Available n = refl
idle Work n = refl

-- a driving minute adds one
pub driving_next : (line : ℕ → Activity) (from m : ℕ) → from ≤ m
    → line m ≡ Drive → driving line from (m + 1) ≡ driving line from m + 1
unfolding driving
driving_next line from m above e =
    rw add-one (let d : is_drive (line m) ≡ true = drives (line m) e in grind (arith, nat_tests))

-- a minute that is not driving adds nothing
pub driving_idle : (line : ℕ → Activity) (from m : ℕ) → line m ≢ Drive → driving line from (m + 1) ≡ driving line from m
unfolding driving
driving_idle line from m n =
    rw add-one (let d : is_drive (line m) ≡ false = idle (line m) n in grind (arith, nat_tests))

-- before the first minute nothing is counted
pub driving_before : (line : ℕ → Activity) (from m : ℕ) → m ≤ from → driving line from m ≡ 0
unfolding driving
driving_before line from zero below = refl
driving_before line from (suc m) below =
    let e : driving line from m ≡ 0 = driving_before line from m (omega arith) in grind (arith, nat_tests)

-- a count never falls
pub driving_mono : (line : ℕ → Activity) (from m n : ℕ) → driving line from m ≤ driving line from (m + n)
unfolding driving
driving_mono line from m zero = rw add-zero (omega arith)
driving_mono line from m (suc n) =
    rw add-suc (let e : driving line from m ≤ driving line from (m + n) = driving_mono line from m n in omega arith)

-- n more minutes that are all driving add n
pub driving_run : (line : ℕ → Activity) (from m n : ℕ) → from ≤ m
    → ((i : ℕ) → m ≤ i → i < m + n → line i ≡ Drive) → driving line from (m + n) ≡ driving line from m + n
driving_run line from m zero above h = rw (add-zero, add-zero) refl
driving_run line from m (suc n) above h =
    let e : driving line from (m + n) ≡ driving line from m + n =
    driving_run line from m n above (λ i a b. h i a (omega arith)) in
    let f : driving line from ((m + n) + 1) ≡ driving line from (m + n) + 1 =
    driving_next line from (m + n) (omega arith) (h (m + n) (omega arith) (omega arith)) in
    let g : m + suc n ≡ (m + n) + 1 = omega arith in
    rw g (omega arith)

-- n more minutes without driving add nothing
pub driving_rest : (line : ℕ → Activity) (from m n : ℕ)
    → ((i : ℕ) → m ≤ i → i < m + n → line i ≢ Drive) → driving line from (m + n) ≡ driving line from m
driving_rest line from m zero h = rw add-zero refl
driving_rest line from m (suc n) h =
    let e : driving line from (m + n) ≡ driving line from m =
    driving_rest line from m n (λ i a b. h i a (omega arith)) in
    let f : driving line from ((m + n) + 1) ≡ driving line from (m + n) =
    driving_idle line from (m + n) (h (m + n) (omega arith) (omega arith)) in
    let g : m + suc n ≡ (m + n) + 1 = omega arith in
    rw g (omega arith)

-- likewise between two minutes: all are driving
pub driving_all : (line : ℕ → Activity) (from m n : ℕ) → from ≤ m → m ≤ n
    → ((i : ℕ) → m ≤ i → i < n → line i ≡ Drive) → driving line from n ≡ driving line from m + (n - m)
driving_all line from m n above le h =
    let g : m + (n - m) ≡ n = omega arith in
    rw g at (driving_run line from m (n - m) above (λ i a b. h i a (omega arith)))

-- likewise between two minutes: none is driving
pub driving_none : (line : ℕ → Activity) (from m n : ℕ) → m ≤ n
    → ((i : ℕ) → m ≤ i → i < n → line i ≢ Drive) → driving line from n ≡ driving line from m
driving_none line from m n le h =
    let g : m + (n - m) ≡ n = omega arith in
    rw g at (driving_rest line from m (n - m) (λ i a b. h i a (omega arith)))

-- there is only one k-th driving minute
pub driving_minute_only : (line : ℕ → Activity) (from to k m n : ℕ)
    → IsDrivingMinute line from to k m → IsDrivingMinute line from to k n → m ≡ n
driving_minute_only line from to k m n a b =
    let one : (x y : ℕ) → IsDrivingMinute line from to k x → IsDrivingMinute line from to k y → x < y → ⊥ =
    λ x y p q lt.
    (let e : driving line from (x + 1) ≡ driving line from x + 1 = driving_next line from x p.above p.drives in
    let f : driving line from (x + 1) ≤ driving line from ((x + 1) + (y - (x + 1))) =
    driving_mono line from (x + 1) (y - (x + 1)) in
    let g : (x + 1) + (y - (x + 1)) ≡ y = omega arith in
    let f' : driving line from (x + 1) ≤ driving line from y = rw g at f in
    let h : driving line from x + 1 ≡ k = p.earlier in
    let j : driving line from y + 1 ≡ k = q.earlier in
    omega arith) in
    elim (cases_lt m n) [
      | inl lt ↦ absurd (one m n a b lt)
      | inr ge ↦ elim (cases_lt n m) [ inl lt ↦ absurd (one n m b a lt) | inr le ↦ omega arith ]
    ]

-- a count is at most the number of minutes up to its end
pub driving_le : (line : ℕ → Activity) (from m : ℕ) → driving line from m ≤ m
unfolding driving
driving_le line from zero = omega arith
driving_le line from (suc m) = let e : driving line from m ≤ m = driving_le line from m in grind (arith, nat_tests)

-- if there is a k-th driving minute, there are at least k
pub driving_reaches : (line : ℕ → Activity) (from to k m : ℕ)
    → IsDrivingMinute line from to k m → k ≤ driving line from to
driving_reaches line from to k m a =
    let e : driving line from (m + 1) ≡ driving line from m + 1 = driving_next line from m a.above a.drives in
    let f : driving line from m + 1 ≡ k = a.earlier in
    let g : (m + 1) + (to - (m + 1)) ≡ to = let b : m < to = a.below in omega arith in
    let h : driving line from (m + 1) ≤ driving line from to =
    rw g at (driving_mono line from (m + 1) (to - (m + 1))) in
    omega arith

-- after the spans, the line is at rest
pub line_from_past : (spans : List Span) (base past m : ℕ) → Joined spans base past → past ≤ m → line_of spans m ≡ Rest
line_from_past [] base past m j late = refl
line_from_past (s ∷ spans) base past m j late =
    let le : s.past ≤ past = joined_le spans s.past past j.2 in
    line_past s spans m (omega arith) ∙ line_from_past spans s.past past m j.2 late
