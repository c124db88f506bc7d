-- Places that wrap around at the end of a buffer.
use Rattle.std.proofs.Common.{◌≡◌, ℕ, ◌+◌, ◌*◌, ◌/◌, ◌%◌, List, length, slice_index, sym, ap, ap₂, ◌∙◌, arith}
use Rattle.std.proofs.Math.Nat.{div-add-mod, add-mul-mod_self_left}
use Rattle.tacho_card.specs.DriverActivity.{number_at}

-- a place can be reduced before it is scaled and shifted
pub wrap_scaled : (a k i n : ℕ) → (a + k * (i % n)) % n ≡ (a + k * i) % n
wrap_scaled a k i n =
    let whole = ap (λ x. k * x) (div-add-mod i n) in
    let same : a + k * (i % n) + n * (k * (i / n)) ≡ a + k * i = omega (arith, whole) in
    sym (add-mul-mod_self_left (a + k * (i % n)) n (k * (i / n))) ∙ ap (λ x. x % n) same

pub number_at_same : (buffer : List ℕ) (x y : ℕ) → x % length buffer ≡ y % length buffer → (x + 1) % length buffer ≡ (y + 1) % length buffer → number_at buffer x ≡ number_at buffer y
number_at_same buffer x y a b = ap₂ (λ i j. slice_index buffer i * 256 + slice_index buffer j) a b

-- the number at a place is that at the reduced place
pub number_at_reduced : (buffer : List ℕ) (i : ℕ) → number_at buffer (i % length buffer) ≡ number_at buffer i
number_at_reduced buffer i =
    let n = length buffer in
    let one : 0 + 1 * (i % n) ≡ i % n = omega arith in
    let two : 0 + 1 * i ≡ i = omega arith in
    let three : 1 + 1 * (i % n) ≡ i % n + 1 = omega arith in
    let four : 1 + 1 * i ≡ i + 1 = omega arith in
    number_at_same buffer (i % n) i
    (ap (λ x. x % n) (sym one) ∙ wrap_scaled 0 1 i n ∙ ap (λ x. x % n) two)
    (ap (λ x. x % n) (sym three) ∙ wrap_scaled 1 1 i n ∙ ap (λ x. x % n) four)

-- a word's index can be reduced before its place is computed
pub word_at_reduced : (buffer : List ℕ) (place i : ℕ) → number_at buffer (place + 12 + 2 * (i % length buffer)) ≡ number_at buffer (place + 12 + 2 * i)
word_at_reduced buffer place i =
    let n = length buffer in
    let one : place + 12 + 1 + 2 * (i % n) ≡ place + 12 + 2 * (i % n) + 1 = omega arith in
    let two : place + 12 + 1 + 2 * i ≡ place + 12 + 2 * i + 1 = omega arith in
    number_at_same buffer _ _
    (wrap_scaled (place + 12) 2 i n)
    (ap (λ x. x % n) (sym one) ∙ wrap_scaled (place + 12 + 1) 2 i n ∙ ap (λ x. x % n) two)
