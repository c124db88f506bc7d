-- The words of a record, in order.
use Rattle.std.proofs.Common.{◌≡◌, ℕ, zero, suc, ◌+◌, ◌-◌, ◌<◌, ◌≤◌, cond, nat_le, nat_lt, List, Option, Some, None, sym, ap, ◌∙◌, arith}
use Rattle.std.proofs.lemmas.Bool.Decides.{nat_tests}
use Rattle.tacho_card.specs.declared.fault.CardFault.{CardFault}
use Rattle.tacho_card.specs.declared.fault.CardFault.TheVariants.{WordMinute, WordOrder}
use Rattle.tacho_card.specs.ActivityChangeInfo.{time_of}
use Rattle.tacho_card.specs.DriverActivity.{wrap_place}
use Rattle.tacho_card.specs.DailyRecord.{word_place, word_at, words_fault}

-- the fault of one word, or that of the words after it
abbrev after_word : List ℕ → ℕ → ℕ → ℕ → Option CardFault → Option CardFault
after_word buffer place before i rest =
    let minute = time_of (word_at buffer place i) in
    cond (nat_le 1440 minute) (Some (WordMinute (wrap_place buffer (word_place place i))))
    (cond (nat_lt minute before) (Some (WordOrder (wrap_place buffer (word_place place i)))) rest)

one_word : (b : List ℕ) (p before i n : ℕ) → i < n → words_fault b p before i (n - i) ≡ after_word b p before i (words_fault b p (time_of (word_at b p i)) (i + 1) (n - (i + 1)))
unfolding words_fault
one_word b p before i n h =
    let e : n - i ≡ suc (n - (i + 1)) = omega arith in
    ap (words_fault b p before i) e

late_test : {X : Type 0} (m : ℕ) (x y : X) → 1440 ≤ m → cond (nat_le 1440 m) x y ≡ x
late_test m x y h = grind (arith, nat_tests)

early_test : {X : Type 0} (m : ℕ) (x y : X) → m < 1440 → cond (nat_le 1440 m) x y ≡ y
early_test m x y h = grind (arith, nat_tests)

below_test : {X : Type 0} (m n : ℕ) (x y : X) → m < n → cond (nat_lt m n) x y ≡ x
below_test m n x y h = grind (arith, nat_tests)

not_below_test : {X : Type 0} (m n : ℕ) (x y : X) → n ≤ m → cond (nat_lt m n) x y ≡ y
not_below_test m n x y h = grind (arith, nat_tests)

pub late_word : (b : List ℕ) (p before i n w : ℕ) → i < n → w ≡ word_at b p i → 1440 ≤ time_of w → words_fault b p before i (n - i) ≡ Some (WordMinute (wrap_place b (word_place p i)))
late_word b p before i n w h e m = let m' : 1440 ≤ time_of (word_at b p i) = rw (← e) m in one_word b p before i n h ∙ late_test _ _ _ m'

pub early_word : (b : List ℕ) (p before i n w : ℕ) → i < n → w ≡ word_at b p i → time_of w < 1440 → time_of w < before → words_fault b p before i (n - i) ≡ Some (WordOrder (wrap_place b (word_place p i)))
early_word b p before i n w h e m o =
    let m' : time_of (word_at b p i) < 1440 = rw (← e) m in
    let o' : time_of (word_at b p i) < before = rw (← e) o in
    one_word b p before i n h ∙ early_test _ _ _ m' ∙ below_test _ _ _ _ o'

pub good_word : (b : List ℕ) (p before i n w : ℕ) → i < n → w ≡ word_at b p i → time_of w < 1440 → before ≤ time_of w → words_fault b p before i (n - i) ≡ words_fault b p (time_of w) (i + 1) (n - (i + 1))
good_word b p before i n w h e m o =
    let m' : time_of (word_at b p i) < 1440 = rw (← e) m in
    let o' : before ≤ time_of (word_at b p i) = rw (← e) o in
    one_word b p before i n h ∙ early_test _ _ _ m' ∙ not_below_test _ _ _ _ o'
    ∙ ap (λ x. words_fault b p (time_of x) (i + 1) (n - (i + 1))) (sym e)

pub no_word : (b : List ℕ) (p before i n : ℕ) → n ≤ i → words_fault b p before i (n - i) ≡ None
unfolding words_fault
no_word b p before i n h = let e : n - i ≡ zero = omega arith in ap (words_fault b p before i) e
