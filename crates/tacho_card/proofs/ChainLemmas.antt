-- A chain, one record at a time.
use Rattle.std.proofs.Common.{◌≡◌, ℕ, zero, suc, ◌+◌, ◌-◌, ◌<◌, ◌≤◌, ◌==◌, not, Bool, true, false, cond, nat_lt, List, [], ◌∷◌, length, Result, Ok, Err, refl, ap, ◌∙◌, arith, add-one}
use Rattle.std.proofs.lemmas.Bool.Decides.{nat_tests}
use Rattle.tacho_card.specs.declared.fault.CardFault.{CardFault}
use Rattle.tacho_card.specs.DriverActivity.{wrap_place}
use Rattle.tacho_card.specs.DailyRecord.{DailyRecord, length_at, is_length, record_at}
use Rattle.tacho_card.specs.Chain.{followed_by, chain_from}

-- a check passed, if its failure is a fault and a record was read
passed : (b : Bool) (f : CardFault) (r : Result DailyRecord CardFault) (e : DailyRecord) → cond b (Err f) r ≡ Ok e → (b ≡ false) × (r ≡ Ok e)
passed true f r e h = cc
passed false f r e h = (refl, h)

length_bounds : (size len : ℕ) → not (is_length size len) ≡ false → 12 ≤ len
length_bounds size len h = grind (arith, nat_tests)

left_bound : (left len : ℕ) → nat_lt left len ≡ false → len ≤ left
left_bound left len h = grind (arith, nat_tests)

eq-test : (a b : ℕ) → a ≡ b → (a == b) ≡ true
eq-test a b h = grind (arith, nat_tests)

ne-test : (a b : ℕ) → (a ≡ b → ⊥) → (a == b) ≡ false
ne-test a b h = grind (arith, nat_tests)

-- the bounds of the length of a record that is read
pub read_length : (b : List ℕ) (p l : ℕ) (e : DailyRecord) → record_at b p l ≡ Ok e → (12 ≤ length_at b p) × (length_at b p ≤ l)
unfolding record_at
read_length b p l e h =
    let one = passed _ _ _ _ h in
    let two = passed _ _ _ _ one.1 in
    (length_bounds (length b) (length_at b p) one.0, left_bound l (length_at b p) two.0)

-- what comes after a record matters only if the record is read
same_rest : (r : Result DailyRecord CardFault) (xs ys : List (Result DailyRecord CardFault)) → ((e : DailyRecord) → r ≡ Ok e → xs ≡ ys) → followed_by r xs ≡ followed_by r ys
same_rest (Err f) xs ys h = refl
same_rest (Ok e) xs ys h = ap (λ l. Ok e ∷ l) (h e refl)

-- more fuel than remaining bytes changes nothing
pub same_fuel : (f g : ℕ) (b : List ℕ) (n p l : ℕ) → l < f → l < g → chain_from f b n p l ≡ chain_from g b n p l
unfolding chain_from
same_fuel zero g b n p l hf hg = absurd (omega arith)
same_fuel (suc f) zero b n p l hf hg = absurd (omega arith)
same_fuel (suc f) (suc g) b n p l hf hg =
    same_rest (record_at b p l) _ _ (λ e h.
    let len = read_length b p l e h in
    ap (cond (p == n) []) (same_fuel f g b n (wrap_place b (p + length_at b p)) (l - length_at b p) (omega arith) (omega arith)))

-- a chain from a place: a fault, a last record, or a record before others
pub chain_fault : (b : List ℕ) (n p l : ℕ) (f : CardFault) → record_at b p l ≡ Err f → chain_from (l + 1) b n p l ≡ Err f ∷ []
unfolding chain_from
chain_fault b n p l f h = rw (add-one, h) refl

pub chain_last : (b : List ℕ) (n p l : ℕ) (e : DailyRecord) → record_at b p l ≡ Ok e → p ≡ n → chain_from (l + 1) b n p l ≡ Ok e ∷ []
unfolding chain_from
chain_last b n p l e h same = rw (add-one, h) (ap (λ t. Ok e ∷ cond t [] (chain_from l b n (wrap_place b (p + length_at b p)) (l - length_at b p))) (eq-test p n same))

pub chain_more : (b : List ℕ) (n p l : ℕ) (e : DailyRecord) → record_at b p l ≡ Ok e → (p ≡ n → ⊥) → chain_from (l + 1) b n p l ≡ Ok e ∷ chain_from ((l - length_at b p) + 1) b n (wrap_place b (p + length_at b p)) (l - length_at b p)
unfolding chain_from
chain_more b n p l e h other =
    let len = read_length b p l e h in
    rw (add-one, h) (ap (λ t. Ok e ∷ cond t [] (chain_from l b n (wrap_place b (p + length_at b p)) (l - length_at b p))) (ne-test p n other)
    ∙ ap (λ xs. Ok e ∷ xs) (same_fuel l ((l - length_at b p) + 1) b n _ _ (omega arith) (omega arith)))

-- taking the first item of a list leaves a shorter list
pub less_left : {A : Type 0} (s t : List A) (x : A) → s ≡ x ∷ t → length t < length s
less_left s t x h = omega (arith, ap length h)
