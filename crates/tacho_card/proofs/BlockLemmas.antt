-- The blocks of a file, one at a time.
use Rattle.std.proofs.Common.{◌≡◌, ℕ, zero, suc, ◌+◌, ◌*◌, ◌/◌, ◌%◌, ◌<◌, ◌≤◌, ◌||◌, nat_lt, Bool, true, false, cond, List, [], ◌∷◌, ◌++◌, length, take, drop, slice_index, Result, Ok, Err, refl, sym, ap, ap₂, ◌∙◌, arith}
use Rattle.std.proofs.lemmas.Bool.Decides.{nat_tests}
use Rattle.std.proofs.lemmas.List.{length-take, length-drop, length-append, take-append-drop, take_at, drop_at, drop-drop}
use Rattle.tacho_card.specs.declared.fault.CardFault.{CardFault}
use Rattle.tacho_card.specs.declared.fault.CardFault.TheVariants.{Truncated}
use Rattle.tacho_card.specs.CardFile.{FileBlock, two_bytes, block_bytes, front_length, is_cut, front_block, block_before, blocks_from, blocks_of}

-- ---- the front of a file

-- each number is a byte
abbrev pub IsBytes : List ℕ → Type 0
IsBytes bytes = (i : ℕ) → slice_index bytes i < 256

-- the two bytes of a number that two bytes spell are these bytes
two_bytes_again : (a b : ℕ) → b < 256 → two_bytes (a * 256 + b) ≡ a ∷ b ∷ []
two_bytes_again a b h =
    let high : (a * 256 + b) / 256 ≡ a = omega arith in
    let low : (a * 256 + b) % 256 ≡ b = omega arith in
    ap₂ (λ x y. x ∷ y ∷ []) high low

-- a block that isn't cut has at least the length that its head says
fits_tests : (n k : ℕ) → (nat_lt n 5 || nat_lt n k) ≡ false → (5 ≤ n) × (k ≤ n)
fits_tests n k h = (grind (arith, nat_tests), grind (arith, nat_tests))

pub fits : (bytes : List ℕ) → is_cut bytes ≡ false → (5 ≤ length bytes) × (front_length bytes ≤ length bytes)
fits bytes h = fits_tests (length bytes) (front_length bytes) h

-- a block that has at least the length that its head says isn't cut
not_cut_tests : (n k : ℕ) → 5 ≤ n → k ≤ n → (nat_lt n 5 || nat_lt n k) ≡ false
not_cut_tests n k h l = grind (arith, nat_tests)

pub not_cut : (bytes : List ℕ) → 5 ≤ length bytes → front_length bytes ≤ length bytes → is_cut bytes ≡ false
not_cut bytes h l = not_cut_tests (length bytes) (front_length bytes) h l

-- the bytes at the front are the head and the value of the block
front_cells : (a b c d e : ℕ) (rest : List ℕ) → b < 256 → e < 256 → d * 256 + e ≤ length rest → block_bytes (front_block (a ∷ b ∷ c ∷ d ∷ e ∷ rest)) ≡ a ∷ b ∷ c ∷ d ∷ e ∷ take (d * 256 + e) rest
front_cells a b c d e rest hb he l =
    let n = d * 256 + e in
    let long : length (take n rest) ≡ n = omega (arith, length-take n rest, l) in
    ap₂ (λ x y. (x ++ c ∷ y) ++ take n rest) (two_bytes_again a b hb) (ap two_bytes long ∙ two_bytes_again d e he)

-- the bytes of the block at the front, and those after it
pub front_bytes : (bytes : List ℕ) → IsBytes bytes → is_cut bytes ≡ false → block_bytes (front_block bytes) ++ drop (front_length bytes) bytes ≡ bytes
front_bytes [] h cut = cc
front_bytes (a ∷ []) h cut = cc
front_bytes (a ∷ b ∷ []) h cut = cc
front_bytes (a ∷ b ∷ c ∷ []) h cut = cc
front_bytes (a ∷ b ∷ c ∷ d ∷ []) h cut = cc
front_bytes (a ∷ b ∷ c ∷ d ∷ e ∷ rest) h cut =
    let n = d * 256 + e in
    let cells = a ∷ b ∷ c ∷ d ∷ e ∷ rest in
    let long = fits cells cut in
    let enough : n ≤ length rest = omega (arith, long.1) in
    ap (λ x. x ++ drop (5 + n) cells) (front_cells a b c d e rest (h 1) (h 4) enough)
    ∙ ap (λ x. (a ∷ b ∷ c ∷ d ∷ e ∷ take n rest) ++ x) (sym (drop-drop n 5 cells))
    ∙ ap (λ x. a ∷ b ∷ c ∷ d ∷ e ∷ x) (take-append-drop n rest)

-- the number that two bytes spell is this number
number_again : (n : ℕ) → n / 256 * 256 + n % 256 ≡ n
number_again n = omega arith

-- the length of a block at the front
pub front_length_is : (b : FileBlock) (rest : List ℕ) → front_length (block_bytes b ++ rest) ≡ 5 + length b.value
front_length_is b rest = ap (λ n. 5 + n) (number_again (length b.value))

-- the block at the front is read as this block
pub front_block_is : (b : FileBlock) (rest : List ℕ) → front_block (block_bytes b ++ rest) ≡ b
front_block_is b rest =
    let value : take (length b.value / 256 * 256 + length b.value % 256) (b.value ++ rest) ≡ b.value = take_at b.value rest _ (sym (number_again (length b.value))) in
    ap₂ (λ x y. record { identifier = x; kind = b.kind; value = y }) (number_again b.identifier) value

-- a block at the front isn't cut
pub front_not_cut : (b : FileBlock) (rest : List ℕ) → is_cut (block_bytes b ++ rest) ≡ false
front_not_cut b rest =
    let long : length (block_bytes b ++ rest) ≡ 5 + length b.value + length rest = omega (arith, length-append b.value rest) in
    not_cut (block_bytes b ++ rest) (omega (arith, long)) (omega (arith, long, front_length_is b rest))

-- what comes after a block at the front
pub front_rest_is : (b : FileBlock) (rest : List ℕ) → drop (front_length (block_bytes b ++ rest)) (block_bytes b ++ rest) ≡ rest
front_rest_is b rest =
    let long : length (block_bytes b) ≡ 5 + length b.value = omega arith in
    drop_at (block_bytes b) rest _ (long ∙ sym (front_length_is b rest))

-- ---- blocks from an offset on

-- no bytes have no blocks
pub no_blocks : (fuel offset : ℕ) → blocks_from fuel offset [] ≡ Ok []
unfolding blocks_from
no_blocks zero offset = refl
no_blocks (suc fuel) offset = refl

-- a block that is cut
pub cut_block : (fuel offset byte : ℕ) (bytes : List ℕ) → is_cut (byte ∷ bytes) ≡ true → blocks_from (suc fuel) offset (byte ∷ bytes) ≡ Err (Truncated offset)
unfolding blocks_from
cut_block fuel offset byte bytes h =
    ap (λ b. cond b (Err (Truncated offset)) (block_before (front_block (byte ∷ bytes)) (blocks_from fuel (offset + front_length (byte ∷ bytes)) (drop (front_length (byte ∷ bytes)) (byte ∷ bytes))))) h

-- a block that isn't cut, followed by others
pub whole_block : (fuel offset byte : ℕ) (bytes : List ℕ) → is_cut (byte ∷ bytes) ≡ false → blocks_from (suc fuel) offset (byte ∷ bytes) ≡ block_before (front_block (byte ∷ bytes)) (blocks_from fuel (offset + front_length (byte ∷ bytes)) (drop (front_length (byte ∷ bytes)) (byte ∷ bytes)))
unfolding blocks_from
whole_block fuel offset byte bytes h =
    ap (λ b. cond b (Err (Truncated offset)) (block_before (front_block (byte ∷ bytes)) (blocks_from fuel (offset + front_length (byte ∷ bytes)) (drop (front_length (byte ∷ bytes)) (byte ∷ bytes))))) h

-- the bytes after a block are fewer
pub after_front : (byte : ℕ) (bytes : List ℕ) (fuel : ℕ) → length (byte ∷ bytes) ≤ suc fuel → length (drop (front_length (byte ∷ bytes)) (byte ∷ bytes)) ≤ fuel
after_front byte bytes fuel h = omega (arith, h, length-drop (front_length (byte ∷ bytes)) (byte ∷ bytes))

-- more fuel than bytes changes nothing
pub same_blocks : (f g offset : ℕ) (bytes : List ℕ) → length bytes ≤ f → length bytes ≤ g → blocks_from f offset bytes ≡ blocks_from g offset bytes
same_blocks f g offset [] hf hg = no_blocks f offset ∙ sym (no_blocks g offset)
same_blocks zero g offset (x ∷ xs) hf hg = absurd (omega (arith, hf))
same_blocks (suc f) zero offset (x ∷ xs) hf hg = absurd (omega (arith, hg))
same_blocks (suc f) (suc g) offset (x ∷ xs) hf hg = go (is_cut (x ∷ xs)) refl (same_blocks f g _ _ (after_front x xs f hf) (after_front x xs g hg)) where
  go : (b : Bool) → is_cut (x ∷ xs) ≡ b → blocks_from f (offset + front_length (x ∷ xs)) (drop (front_length (x ∷ xs)) (x ∷ xs)) ≡ blocks_from g (offset + front_length (x ∷ xs)) (drop (front_length (x ∷ xs)) (x ∷ xs)) → blocks_from (suc f) offset (x ∷ xs) ≡ blocks_from (suc g) offset (x ∷ xs)
  go true e h = cut_block f offset x xs e ∙ sym (cut_block g offset x xs e)
  go false e h = whole_block f offset x xs e ∙ ap (block_before (front_block (x ∷ xs))) h ∙ sym (whole_block g offset x xs e)

-- if a block before others is read, the others are read too
some_before : (b : FileBlock) (r : Result (List FileBlock) CardFault) (blocks : List FileBlock) → block_before b r ≡ Ok blocks → (rest : List FileBlock) × (r ≡ Ok rest) × (blocks ≡ b ∷ rest)
some_before b (Ok rest) blocks h = (rest, refl, cc)
some_before b (Err fault) blocks h = cc

-- the first block of a file that is read, and the others
pub first_block : (fuel offset byte : ℕ) (bytes : List ℕ) (blocks : List FileBlock) → blocks_from (suc fuel) offset (byte ∷ bytes) ≡ Ok blocks → (is_cut (byte ∷ bytes) ≡ false) × ((rest : List FileBlock) × (blocks_from fuel (offset + front_length (byte ∷ bytes)) (drop (front_length (byte ∷ bytes)) (byte ∷ bytes)) ≡ Ok rest) × (blocks ≡ front_block (byte ∷ bytes) ∷ rest))
first_block fuel offset byte bytes blocks h = go (is_cut (byte ∷ bytes)) refl where
  go : (b : Bool) → is_cut (byte ∷ bytes) ≡ b → (is_cut (byte ∷ bytes) ≡ false) × ((rest : List FileBlock) × (blocks_from fuel (offset + front_length (byte ∷ bytes)) (drop (front_length (byte ∷ bytes)) (byte ∷ bytes)) ≡ Ok rest) × (blocks ≡ front_block (byte ∷ bytes) ∷ rest))
  go true e = let no = sym (cut_block fuel offset byte bytes e) ∙ h in cc
  go false e = (e, some_before (front_block (byte ∷ bytes)) _ blocks (sym (whole_block fuel offset byte bytes e) ∙ h))

-- blocks that are read are the same from any offset
pub blocks_anywhere : (f g offset other : ℕ) (bytes : List ℕ) (blocks : List FileBlock) → length bytes ≤ f → length bytes ≤ g → blocks_from f offset bytes ≡ Ok blocks → blocks_from g other bytes ≡ Ok blocks
blocks_anywhere f g offset other [] blocks hf hg h = no_blocks g other ∙ sym (no_blocks f offset) ∙ h
blocks_anywhere zero g offset other (x ∷ xs) blocks hf hg h = absurd (omega (arith, hf))
blocks_anywhere (suc f) zero offset other (x ∷ xs) blocks hf hg h = absurd (omega (arith, hg))
blocks_anywhere (suc f) (suc g) offset other (x ∷ xs) blocks hf hg h =
    let first = first_block f offset x xs blocks h in
    let others = blocks_anywhere f g _ (other + front_length (x ∷ xs)) _ first.1.0 (after_front x xs f hf) (after_front x xs g hg) first.1.1 in
    whole_block g other x xs first.0 ∙ ap (block_before (front_block (x ∷ xs))) others ∙ ap (λ bs. Ok bs) (sym first.1.2)

-- ---- the blocks of bytes

-- the first block of bytes that are blocks, and the others
pub next_block : (bytes : List ℕ) (blocks : List FileBlock) → 0 < length bytes → blocks_of bytes ≡ Ok blocks → (is_cut bytes ≡ false) × ((rest : List FileBlock) × (blocks_of (drop (front_length bytes) bytes) ≡ Ok rest) × (blocks ≡ front_block bytes ∷ rest))
next_block [] blocks some h = absurd (omega (arith, some))
next_block (x ∷ xs) blocks some h =
    let first = first_block (length xs) 0 x xs blocks h in
    let fuel : length (x ∷ xs) ≤ suc (length xs) = omega arith in
    let enough = after_front x xs (length xs) fuel in
    (first.0, (first.1.0, blocks_anywhere (length xs) _ _ 0 _ first.1.0 enough (omega arith) first.1.1, first.1.2))
