-- The values of a name with one more field, and a number with one more digit.
use Rattle.std.proofs.lemmas.Bool.Decides.{nat_tests}
use Rattle.std.proofs.lemmas.List.{append-nil}
use Rattle.std.proofs.Common.{◌≡◌, ◌-◌, drop, ◌<◌, ◌≤◌, ◌+◌, ◌*◌, ◌^◌, ◌++◌, ◌∷◌, ◌∙◌, ℕ, true, false, List, [], length, map, take, get_or, refl, ap, arith, cond, lit<, suc, zero}
use Rattle.std.proofs.Math.Nat.{pow-le-pow_right}
use Rattle.std.specs.Str.{all_ascii_digits}
use Rattle.tacho_message.specs.Fields.{values_under, same_name}
use Rattle.std.proofs.lemmas.List.{take_more}
use Rattle.std.proofs.lemmas.List.{map-append}
use Rattle.httparse.specs.Spans.{header_bytes}
use Rattle.httparse.specs.declared.spans.HeaderSpan.{HeaderSpan}

-- the values in two joined lists of fields
pub values_under-append : (name : List ℕ) (a b : List (List ℕ × List ℕ)) → values_under name (a ++ b) ≡ values_under name a ++ values_under name b
values_under-append name [] b = refl
values_under-append name (x ∷ a) b = elim (same_name x.0 name) as (λ t. cond t (x.1 ∷ values_under name (a ++ b)) (values_under name (a ++ b)) ≡ cond t (x.1 ∷ values_under name a) (values_under name a) ++ values_under name b) [
  | true ↦ ap (λ r. x.1 ∷ r) (values_under-append name a b)
  | false ↦ values_under-append name a b
]

-- a power of ten below 10 ^ 12
pub short_power : (i : ℕ) → i < 12 → 10 ^ i ≤ 100000000000
short_power i h = pow-le-pow_right {n = 10} (lit< tt) {i = i} {j = 11} (omega arith)

-- with one more digit, a number of at most twelve digits still fits 64 bits
pub ten_more : (value digit i n : ℕ) → i < n → value < 10 ^ i → n ≤ 12 → digit < 10 → value * 10 + digit < 18446744073709551616
ten_more value digit i n lt small short d = let p = short_power i (omega arith) in omega arith

-- a byte of a text of digits is a digit
pub digit_at : (text : List ℕ) (i : ℕ) → i < length text → all_ascii_digits (drop i text) ≡ true → get_or text i 0 - 48 < 10
digit_at [] i h d = absurd (omega arith)
digit_at (x ∷ text) zero h d = grind (arith, nat_tests)
digit_at (x ∷ text) (suc i) h d = digit_at text i (omega arith) d

-- a field with the name adds its value
pub one_named : (name : List ℕ) (pairs : List (List ℕ × List ℕ)) (pair : List ℕ × List ℕ) → same_name pair.0 name ≡ true
    → values_under name (pairs ++ pair ∷ []) ≡ values_under name pairs ++ pair.1 ∷ []
one_named name pairs pair e = values_under-append name pairs (pair ∷ []) ∙ ap (λ t. values_under name pairs ++ cond t (pair.1 ∷ []) []) e

-- a field with another name adds no value
pub none_named : (name : List ℕ) (pairs : List (List ℕ × List ℕ)) (pair : List ℕ × List ℕ) → same_name pair.0 name ≡ false
    → values_under name (pairs ++ pair ∷ []) ≡ values_under name pairs
none_named name pairs pair e = values_under-append name pairs (pair ∷ []) ∙ ap (λ t. values_under name pairs ++ cond t (pair.1 ∷ []) []) e ∙ append-nil (values_under name pairs)

-- the pairs of the fields so far, and of one more
pub more_pairs : (buf : List ℕ) (fields : List HeaderSpan) (i : ℕ) (d : HeaderSpan) → i < length fields
    → map (header_bytes buf) (take (i + 1) fields) ≡ map (header_bytes buf) (take i fields) ++ header_bytes buf (get_or fields i d) ∷ []
more_pairs buf fields i d h = rw (take_more fields i d h) (map-append (header_bytes buf) (take i fields) (get_or fields i d ∷ []))
