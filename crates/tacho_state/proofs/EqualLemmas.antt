-- Numbers and bytes that pass the tests for equality.
use Rattle.std.proofs.Common.{◌≡◌, ◌≢◌, ◌∙◌, ℕ, ◌==◌, Bool, true, false, true≢false, List, refl, sym, arith, bytes_eq}
use Rattle.std.proofs.lemmas.Bool.Decides.{nat_tests}
use Rattle.std.proofs.lemmas.Slice.Eq.{bytes_eq-Decides}

-- a number equals itself
pub eq_self : (n : ℕ) → (n == n) ≡ true
eq_self n = grind (arith, nat_tests)

-- different numbers fail the test
pub eq_not : (j n : ℕ) → j ≢ n → (j == n) ≡ false
eq_not j n d = go (j == n) refl where
  go : (b : Bool) → (j == n) ≡ b → b ≡ false
  go true e = let f : j ≡ n = grind (arith, nat_tests) in absurd (d f)
  go false e = refl

-- numbers that pass the test are equal
pub eq_true : (j n : ℕ) → (j == n) ≡ true → j ≡ n
eq_true j n e = grind (arith, nat_tests)

-- numbers that don't pass the test differ
pub eq_false : (j n : ℕ) → (j == n) ≡ false → j ≢ n
eq_false j n e f = let g : (j == n) ≡ true = grind (arith, nat_tests) in cc

-- bytes that pass the test are equal
pub bytes_true : (xs ys : List ℕ) → bytes_eq xs ys ≡ true → xs ≡ ys
bytes_true xs ys e = (bytes_eq-Decides xs ys).0 e

-- bytes that don't pass it differ
pub bytes_false : (xs ys : List ℕ) → bytes_eq xs ys ≡ false → xs ≢ ys
bytes_false xs ys e f = true≢false (sym ((bytes_eq-Decides xs ys).1 f) ∙ e)

-- bytes are equal to themselves
pub bytes_eq_self : (xs : List ℕ) → bytes_eq xs xs ≡ true
bytes_eq_self xs = (bytes_eq-Decides xs xs).1 refl

-- bytes that differ don't pass it
pub bytes_not : (xs ys : List ℕ) → xs ≢ ys → bytes_eq xs ys ≡ false
bytes_not xs ys d = go (bytes_eq xs ys) refl where
  go : (b : Bool) → bytes_eq xs ys ≡ b → b ≡ false
  go true e = absurd (d (bytes_true xs ys e))
  go false e = refl
