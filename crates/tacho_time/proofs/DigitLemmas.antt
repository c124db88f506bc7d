-- Digits and the numbers that they spell.
use Rattle.std.proofs.Common.{◌≡◌, ℕ, ◌+◌, ◌-◌, ◌*◌, ◌/◌, ◌%◌, ◌<◌, ◌≤◌, Bool, true, false, cond, List, [], ◌∷◌, ◌++◌, length, None, Some, refl, ap, ◌∙◌, arith}
use Rattle.std.proofs.lemmas.Bool.Decides.{nat_tests}
use Rattle.std.specs.Char.{is_ascii_digit}
use Rattle.std.specs.Int.{IsInRange}
use Rattle.tacho_time.specs.Reading.{digits_from, digits_at}
use Rattle.tacho_time.specs.Text.{two_digits}

-- the first byte c is a digit, and the rest cs continues to spell k
record IsDigit (n c : ℕ) (cs : List ℕ) (k : ℕ) : Type 0 where
  low : 48 ≤ c
  high : c ≤ 57
  rest : digits_from (n * 10 + (c - 48)) cs ≡ Some k

-- if bytes spell a number, the first byte is a digit
one_more : (n c : ℕ) (cs : List ℕ) (k : ℕ) → digits_from n (c ∷ cs) ≡ Some k → IsDigit n c cs k
one_more n c cs k h = go (is_ascii_digit c) refl h where
  go : (b : Bool) → is_ascii_digit c ≡ b → cond b (digits_from (n * 10 + (c - 48)) cs) None ≡ Some k → IsDigit n c cs k
  go true e g = record { low = grind (arith, nat_tests); high = grind (arith, nat_tests); rest = g }
  go false e g = cc

-- two numbers in equal options are equal
same_some : (a b : ℕ) → Some a ≡ Some b → a ≡ b
same_some a b h = cc

-- two bytes that spell a number are its two digits
pub pair_spelled : (xs : List ℕ) (n : ℕ) → length xs ≡ 2 → digits_at xs ≡ Some n → (xs ≡ two_digits n) × (n < 100)
pair_spelled [] n len h = absurd (omega arith)
pair_spelled (a ∷ []) n len h = absurd (omega arith)
pair_spelled (a ∷ b ∷ []) n len h =
    let first = one_more 0 a (b ∷ []) n h in
    let second = one_more (0 * 10 + (a - 48)) b [] n first.rest in
    let value = same_some _ n second.rest in
    let tens : a ≡ 48 + n / 10 = omega (arith, first.low, first.high, second.low, second.high) in
    let ones : b ≡ 48 + n % 10 = omega (arith, first.low, first.high, second.low, second.high) in
    (ap (λ (x : ℕ). x ∷ b ∷ []) tens ∙ ap (λ (x : ℕ). (48 + n / 10) ∷ x ∷ []) ones, omega (arith, first.low, first.high, second.low, second.high))
pair_spelled (a ∷ b ∷ c ∷ xs) n len h = absurd (omega arith)

-- four digits that have the value n are the digits of n
four_bytes : (a b c d n : ℕ) → IsInRange 48 57 a → IsInRange 48 57 b → IsInRange 48 57 c → IsInRange 48 57 d → 1000 * (a - 48) + 100 * (b - 48) + 10 * (c - 48) + (d - 48) ≡ n → (a ∷ b ∷ c ∷ d ∷ [] ≡ two_digits (n / 100) ++ two_digits (n % 100)) × (n < 10000)
four_bytes a b c d n w x y z value =
    let century : n / 100 ≡ 10 * (a - 48) + (b - 48) = omega (arith, w, x, y, z) in
    let year : n % 100 ≡ 10 * (c - 48) + (d - 48) = omega (arith, w, x, y, z) in
    let first : a ≡ 48 + n / 100 / 10 = omega (arith, w, x) in
    let second : b ≡ 48 + n / 100 % 10 = omega (arith, w, x) in
    let third : c ≡ 48 + n % 100 / 10 = omega (arith, y, z) in
    let fourth : d ≡ 48 + n % 100 % 10 = omega (arith, y, z) in (
      ap (λ (k : ℕ). k ∷ b ∷ c ∷ d ∷ []) first
          ∙ ap (λ (k : ℕ). (48 + n / 100 / 10) ∷ k ∷ c ∷ d ∷ []) second
          ∙ ap (λ (k : ℕ). (48 + n / 100 / 10) ∷ (48 + n / 100 % 10) ∷ k ∷ d ∷ []) third
          ∙ ap (λ (k : ℕ). (48 + n / 100 / 10) ∷ (48 + n / 100 % 10) ∷ (48 + n % 100 / 10) ∷ k ∷ []) fourth,
      omega (arith, w, x, y, z),
    )

-- four bytes that spell a number are its four digits
pub four_spelled : (xs : List ℕ) (n : ℕ) → length xs ≡ 4 → digits_at xs ≡ Some n → (xs ≡ two_digits (n / 100) ++ two_digits (n % 100)) × (n < 10000)
four_spelled [] n len h = absurd (omega arith)
four_spelled (a ∷ []) n len h = absurd (omega arith)
four_spelled (a ∷ b ∷ []) n len h = absurd (omega arith)
four_spelled (a ∷ b ∷ c ∷ []) n len h = absurd (omega arith)
four_spelled (a ∷ b ∷ c ∷ d ∷ []) n len h =
    let w = one_more 0 a (b ∷ c ∷ d ∷ []) n h in
    let x = one_more (0 * 10 + (a - 48)) b (c ∷ d ∷ []) n w.rest in
    let y = one_more ((0 * 10 + (a - 48)) * 10 + (b - 48)) c (d ∷ []) n x.rest in
    let z = one_more (((0 * 10 + (a - 48)) * 10 + (b - 48)) * 10 + (c - 48)) d [] n y.rest in
    let value : 1000 * (a - 48) + 100 * (b - 48) + 10 * (c - 48) + (d - 48) ≡ n = let e = same_some _ n z.rest in omega arith in
    four_bytes a b c d n (w.low, w.high) (x.low, x.high) (y.low, y.high) (z.low, z.high) value
four_spelled (a ∷ b ∷ c ∷ d ∷ e ∷ xs) n len h = absurd (omega arith)

-- reading a digit appends it to the number so far
digit_read : (n c : ℕ) (cs : List ℕ) → c < 10 → digits_from n ((48 + c) ∷ cs) ≡ digits_from (n * 10 + c) cs
digit_read n c cs h =
    let digit : is_ascii_digit (48 + c) ≡ true = grind (arith, nat_tests) in
    let value : n * 10 + (48 + c - 48) ≡ n * 10 + c = omega arith in
    ap (λ b. cond b (digits_from (n * 10 + (48 + c - 48)) cs) None) digit ∙ ap (λ (k : ℕ). digits_from k cs) value

-- the two digits of a number are read as it
pub pair_read : (n : ℕ) → n < 100 → digits_at (two_digits n) ≡ Some n
pair_read n h = digit_read 0 (n / 10) ((48 + n % 10) ∷ []) (omega arith) ∙ digit_read (0 * 10 + n / 10) (n % 10) [] (omega arith) ∙ ap (λ (x : ℕ). Some x) (omega arith)

-- the four digits of a number are read as it
pub four_read : (n : ℕ) → n < 10000 → digits_at (two_digits (n / 100) ++ two_digits (n % 100)) ≡ Some n
four_read n h =
    let third = 48 + n % 100 / 10 in
    let fourth = 48 + n % 100 % 10 in
    digit_read 0 (n / 100 / 10) ((48 + n / 100 % 10) ∷ third ∷ fourth ∷ []) (omega arith)
    ∙ digit_read (0 * 10 + n / 100 / 10) (n / 100 % 10) (third ∷ fourth ∷ []) (omega arith)
    ∙ digit_read ((0 * 10 + n / 100 / 10) * 10 + n / 100 % 10) (n % 100 / 10) (fourth ∷ []) (omega arith)
    ∙ digit_read (((0 * 10 + n / 100 / 10) * 10 + n / 100 % 10) * 10 + n % 100 / 10) (n % 100 % 10) [] (omega arith)
    ∙ ap (λ (k : ℕ). Some k) (omega arith)
