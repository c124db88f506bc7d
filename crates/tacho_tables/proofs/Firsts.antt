-- Elements of a list, some at a time: one by one, in chunks of one length, and the rest after the chunks.
use Rattle.std.proofs.Common.{◌≡◌, ◌∙◌, ◌+◌, ◌*◌, ◌<◌, ◌≤◌, ℕ, zero, suc, List, [], ◌∷◌, ◌++◌, add-one, ap, append-nil, arith, refl, sym, drop, drop-cons, get_or, length, take}
use Rattle.std.specs.List.Sorted.{IsPermutation}
use Rattle.std.proofs.lemmas.List.{drop-drop, drop_all, length-drop, length-take-le, take-append-drop}
use Rattle.std.proofs.lemmas.List.Sorted.{IsPermutation-refl, IsPermutation-trans, IsPermutation-sym, IsPermutation-middle, IsPermutation-cons}
use Rattle.std.specs.Simd.{first_chunks}

-- the rest of a list from a place on is the element there, and then the rest from the next place on
pub next_there : {X : Type 0} (d : X) (at : ℕ) (xs : List X) → at < length xs → drop at xs ≡ get_or xs at d ∷ drop (at + 1) xs
next_there d at xs within = drop-cons xs at d within ∙ ap (λ k. get_or xs at d ∷ drop k xs) (sym (add-one at))

-- n elements from a place on, each by its own place
abbrev pub some_from : {X : Type 0} → X → (n at : ℕ) → List X → List X
some_from d zero at xs = []
some_from d (suc n) at xs = get_or xs at d ∷ some_from d n (at + 1) xs

-- they come first in the rest of the list from that place on
some_there : {X : Type 0} (d : X) (n at : ℕ) (xs : List X) → at + n ≤ length xs → drop at xs ≡ some_from d n at xs ++ drop (at + n) xs
some_there d zero at xs within = let same : at ≡ at + 0 = omega arith in ap (λ k. drop k xs) same
some_there d (suc n) at xs within =
    let last : at + 1 + n ≡ at + suc n = omega arith in
    next_there d at xs (omega (arith, within))
    ∙ ap (λ l. get_or xs at d ∷ l) (some_there d n (at + 1) xs (omega (arith, within)))
    ∙ ap (λ k. get_or xs at d ∷ (some_from d n (at + 1) xs ++ drop k xs)) last

-- a list of n elements, each by its own place
pub by_places : {X : Type 0} (d : X) (n : ℕ) (xs : List X) → length xs ≡ n → xs ≡ some_from d n 0 xs
by_places d n xs long =
    some_there d n 0 xs (omega (arith, long))
    ∙ ap (λ l. some_from d n 0 xs ++ l) (drop_all (0 + n) xs (omega (arith, long)))
    ∙ append-nil (some_from d n 0 xs)

-- the parts of a list, followed by the rest of it
abbrev pub joined : {X : Type 0} → List (List X) → List X → List X
joined [] rest = rest
joined (part ∷ parts) rest = part ++ joined parts rest

-- a list is its chunks, followed by the rest
pub chunks_joined : {X : Type 0} (n count : ℕ) (xs : List X) → joined (first_chunks n count xs) (drop (count * n) xs) ≡ xs
chunks_joined n zero xs = let none : 0 * n ≡ 0 = omega arith in ap (λ k. drop k xs) none
chunks_joined n (suc count) xs =
    let chunks = first_chunks n count (drop n xs) in
    let behind : suc count * n ≡ n + count * n = omega arith in
    ap (λ k. take n xs ++ joined chunks (drop k xs)) behind
    ∙ ap (λ l. take n xs ++ joined chunks l) (sym (drop-drop (count * n) n xs))
    ∙ ap (λ l. take n xs ++ l) (chunks_joined n count (drop n xs))
    ∙ take-append-drop n xs

-- there are as many chunks as were asked for
pub chunks_many : {X : Type 0} (n count : ℕ) (xs : List X) → length (first_chunks n count xs) ≡ count
chunks_many n zero xs = refl
chunks_many n (suc count) xs = ap suc (chunks_many n count (drop n xs))

-- each chunk has this length
pub chunk_long : {X : Type 0} (d : List X) (n count : ℕ) (xs : List X) → count * n ≤ length xs → (at : ℕ) → at < count
    → length (get_or (first_chunks n count xs) at d) ≡ n
chunk_long d n zero xs enough at within = absurd (omega (arith, within))
chunk_long d n (suc count) xs enough zero within = length-take-le n xs (omega (arith, enough))
chunk_long d n (suc count) xs enough (suc at) within =
    let long = length-drop n xs in
    chunk_long d n count (drop n xs) (omega (arith, enough, long)) at (omega (arith, within))

-- moving `some` from before `left` to after it is a permutation
pub moved : {X : Type 0} (some left rows : List X) → IsPermutation ((some ++ left) ++ rows) (left ++ (some ++ rows))
moved [] left rows = IsPermutation-refl (left ++ rows)
moved (x ∷ some) left rows = IsPermutation-trans _ _ _ (IsPermutation-cons x _ _ (moved some left rows))
    (IsPermutation-sym _ _ (IsPermutation-middle left x (some ++ rows)))
