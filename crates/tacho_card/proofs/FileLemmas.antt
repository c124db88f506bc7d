-- What holds while a pass goes over the blocks of a file.
use Rattle.std.proofs.Common.{◌≡◌, ℕ, zero, suc, ◌+◌, ◌-◌, ◌<◌, ◌≤◌, true, false, List, [], ◌∷◌, length, drop, Option, None, Some, Result, Ok, Err, refl, sym, ap, ◌∙◌, arith}
use Rattle.std.proofs.lemmas.List.{length-drop, drop-drop, drop_all, nil_from_length}
use Rattle.tacho_card.specs.declared.fault.CardFault.{CardFault}
use Rattle.tacho_card.specs.declared.fault.CardFault.TheVariants.{Truncated}
use Rattle.tacho_card.specs.CardFile.{FileBlock, front_length, is_cut, front_block, block_before, blocks_from, blocks_of, blocks_or_none}
use Rattle.tacho_card.proofs.BlockLemmas.{fits, no_blocks, cut_block, whole_block, same_blocks, next_block}

-- ---- C1

-- the fault of a result, if there is one
abbrev pub fault_in : Result (List FileBlock) CardFault → Option CardFault
fault_in (Ok blocks) = None
fault_in (Err fault) = Some fault

-- a block before the others doesn't change the fault
fault_following : (b : FileBlock) (r : Result (List FileBlock) CardFault) → fault_in (block_before b r) ≡ fault_in r
fault_following b (Ok blocks) = refl
fault_following b (Err fault) = refl

-- the fault of bytes that begin with a block that is cut, and with one that isn't
cut_cells : (fuel offset : ℕ) (bytes : List ℕ) → 0 < length bytes → length bytes ≤ fuel → is_cut bytes ≡ true → fault_in (blocks_from fuel offset bytes) ≡ Some (Truncated offset)
cut_cells fuel offset [] some enough h = absurd (omega (arith, some))
cut_cells zero offset (x ∷ xs) some enough h = absurd (omega (arith, enough))
cut_cells (suc fuel) offset (x ∷ xs) some enough h = ap fault_in (cut_block fuel offset x xs h)

whole_cells : (fuel offset : ℕ) (bytes : List ℕ) → 0 < length bytes → length bytes ≤ fuel → is_cut bytes ≡ false → fault_in (blocks_from fuel offset bytes) ≡ fault_in (blocks_from (fuel - 1) (offset + front_length bytes) (drop (front_length bytes) bytes))
whole_cells fuel offset [] some enough h = absurd (omega (arith, some))
whole_cells zero offset (x ∷ xs) some enough h = absurd (omega (arith, enough))
whole_cells (suc fuel) offset (x ∷ xs) some enough h =
    let less : fuel ≡ suc fuel - 1 = omega arith in
    ap fault_in (whole_block fuel offset x xs h) ∙ fault_following _ _ ∙ ap (λ f. fault_in (blocks_from f (offset + front_length (x ∷ xs)) (drop (front_length (x ∷ xs)) (x ∷ xs)))) less

-- the fault of the remaining bytes from an offset on
abbrev pub fault_from : List ℕ → ℕ → Option CardFault
fault_from bytes offset = fault_in (blocks_from (length bytes - offset) offset (drop offset bytes))

pub fault_at_cut : (bytes : List ℕ) (offset : ℕ) → offset < length bytes → is_cut (drop offset bytes) ≡ true → fault_from bytes offset ≡ Some (Truncated offset)
fault_at_cut bytes offset some h =
    let long = length-drop offset bytes in
    cut_cells _ offset (drop offset bytes) (omega (arith, long)) (omega (arith, long)) h

pub fault_past_block : (bytes : List ℕ) (offset : ℕ) → offset < length bytes → is_cut (drop offset bytes) ≡ false → fault_from bytes offset ≡ fault_from bytes (offset + front_length (drop offset bytes))
fault_past_block bytes offset some h =
    let n = front_length (drop offset bytes) in
    let long = length-drop offset bytes in
    let longer = length-drop n (drop offset bytes) in
    let enough = fits (drop offset bytes) h in
    whole_cells _ offset (drop offset bytes) (omega (arith, long)) (omega (arith, long)) h
    ∙ ap fault_in (same_blocks _ (length bytes - (offset + n)) (offset + n) (drop n (drop offset bytes)) (omega (arith, long, longer, enough.1)) (omega (arith, long, longer, enough.1)))
    ∙ ap (λ xs. fault_in (blocks_from (length bytes - (offset + n)) (offset + n) xs)) (drop-drop n offset bytes)

pub no_fault_at_end : (bytes : List ℕ) (offset : ℕ) → length bytes ≤ offset → fault_from bytes offset ≡ None
no_fault_at_end bytes offset h =
    ap (λ xs. fault_in (blocks_from (length bytes - offset) offset xs)) (drop_all offset bytes h) ∙ ap fault_in (no_blocks (length bytes - offset) offset)

-- from the fault of a result to the result, with and without a fault
pub is_fault : (r : Result (List FileBlock) CardFault) (fault : CardFault) → fault_in r ≡ Some fault → Err fault ≡ r
is_fault (Ok blocks) fault h = cc
is_fault (Err f) fault h = cc

pub no_fault : (r : Result (List FileBlock) CardFault) → fault_in r ≡ None → r ≡ Ok (blocks_or_none r)
no_fault (Ok blocks) h = refl
no_fault (Err f) h = cc

-- ---- the blocks, in order

-- the blocks of bytes, if they are read
abbrev pub items : List ℕ → List FileBlock
items bytes = blocks_or_none (blocks_of bytes)

abbrev pub IsWhole : List ℕ → Type 0
IsWhole bytes = blocks_of bytes ≡ Ok (items bytes)

pub no_items : (bytes : List ℕ) → length bytes ≡ 0 → items bytes ≡ []
no_items bytes h = ap items (nil_from_length bytes h) ∙ ap blocks_or_none (no_blocks 0 0)

-- bytes that are read as blocks
read_whole : (bytes : List ℕ) (blocks : List FileBlock) → blocks_of bytes ≡ Ok blocks → (items bytes ≡ blocks) × IsWhole bytes
read_whole bytes blocks h = let e = ap blocks_or_none h in (e, h ∙ ap (λ bs. Ok bs) (sym e))

-- the first block, and the blocks after it
pub next_item : (bytes after : List ℕ) → 0 < length bytes → after ≡ drop (front_length bytes) bytes → IsWhole bytes → IsWhole after × (items bytes ≡ front_block bytes ∷ items after)
next_item bytes after some e h =
    let next = next_block bytes (items bytes) some h in
    let others = read_whole after next.1.0 (ap blocks_of e ∙ next.1.1) in
    (others.1, next.1.2 ∙ ap (λ bs. front_block bytes ∷ bs) (sym others.0))
