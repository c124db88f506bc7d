-- The blocks that are read by recursion are exactly those that are laid end to end.
use Rattle.std.proofs.Common.{◌≡◌, ◌≢◌, ℕ, zero, suc, ◌+◌, ◌-◌, ◌*◌, ◌<◌, ◌≤◌, ◌↔◌, Bool, true, false, List, [], ◌∷◌, ◌++◌, length, take, drop, slice_index, Result, Ok, Err, refl, sym, ap, ap₂, ◌∙◌, subst, arith}
use Rattle.std.specs.List.{flat_map}
use Rattle.std.proofs.Math.Seq.{take-append-add}
use Rattle.std.proofs.lemmas.List.{append_assoc, append-nil, length-append, length-take, length-drop, get_or-drop}
use Rattle.tacho_card.specs.declared.fault.CardFault.{CardFault}
use Rattle.tacho_card.specs.declared.fault.CardFault.TheVariants.{Truncated}
use Rattle.tacho_card.specs.CardFile.{FileBlock, block_bytes, FitsHead, IsLaidEndToEnd, IsTruncatedAt, front_length, is_cut, front_block, block_before, blocks_from, blocks_of}
use Rattle.tacho_card.proofs.BlockLemmas.{IsBytes, fits, front_bytes, front_length_is, front_block_is, front_not_cut, front_rest_is, no_blocks, cut_block, whole_block, after_front, first_block}

-- ---- from blocks to what is read

-- the bytes of blocks
abbrev all_bytes : List FileBlock → List ℕ
all_bytes blocks = flat_map block_bytes blocks

-- puts blocks before those that are read from the rest
abbrev before : List FileBlock → Result (List FileBlock) CardFault → Result (List FileBlock) CardFault
before [] r = r
before (b ∷ blocks) r = block_before b (before blocks r)

-- a block at the front is read, followed by the blocks of the rest
one_block : (fuel offset : ℕ) (b : FileBlock) (rest : List ℕ) → blocks_from (suc fuel) offset (block_bytes b ++ rest) ≡ block_before b (blocks_from fuel (offset + length (block_bytes b)) rest)
one_block fuel offset b rest =
    let long : front_length (block_bytes b ++ rest) ≡ length (block_bytes b) = omega (arith, front_length_is b rest) in
    whole_block fuel offset _ _ (front_not_cut b rest)
    ∙ ap₂ (λ first n. block_before first (blocks_from fuel (offset + n) (drop (front_length (block_bytes b ++ rest)) (block_bytes b ++ rest)))) (front_block_is b rest) long
    ∙ ap (λ xs. block_before b (blocks_from fuel (offset + length (block_bytes b)) xs)) (front_rest_is b rest)

-- a block isn't empty
some_bytes : (b : FileBlock) → 0 < length (block_bytes b)
some_bytes b = omega arith

-- blocks at the front are read, followed by the blocks of the rest
all_blocks : (fuel offset : ℕ) (blocks : List FileBlock) (rest : List ℕ) → length (all_bytes blocks) ≤ fuel →
    blocks_from fuel offset (all_bytes blocks ++ rest) ≡ before blocks (blocks_from (fuel - length blocks) (offset + length (all_bytes blocks)) rest)
all_blocks fuel offset [] rest enough =
    let f : fuel ≡ fuel - 0 = omega arith in
    let o : offset ≡ offset + 0 = omega arith in
    ap₂ (λ x y. blocks_from x y rest) f o
all_blocks zero offset (b ∷ bs) rest enough = absurd (omega (arith, enough, length-append (block_bytes b) (all_bytes bs), some_bytes b))
all_blocks (suc fuel) offset (b ∷ bs) rest enough =
    let long = length-append (block_bytes b) (all_bytes bs) in
    let others = all_blocks fuel (offset + length (block_bytes b)) bs rest (omega (arith, enough, long, some_bytes b)) in
    let f : fuel - length bs ≡ suc fuel - length (b ∷ bs) = omega arith in
    let o : offset + length (block_bytes b) + length (all_bytes bs) ≡ offset + length (block_bytes b ++ all_bytes bs) = omega (arith, long) in
    ap (λ xs. blocks_from (suc fuel) offset xs) (append_assoc (block_bytes b) (all_bytes bs) rest)
    ∙ one_block fuel offset b (all_bytes bs ++ rest)
    ∙ ap (block_before b) (others ∙ ap₂ (λ x y. before bs (blocks_from x y rest)) f o)

-- if nothing comes after the blocks, the result is the blocks
before_nothing : (blocks : List FileBlock) → before blocks (Ok []) ≡ Ok blocks
before_nothing [] = refl
before_nothing (b ∷ bs) = ap (block_before b) (before_nothing bs)

before_fault : (blocks : List FileBlock) (fault : CardFault) → before blocks (Err fault) ≡ Err fault
before_fault [] fault = refl
before_fault (b ∷ bs) fault = ap (block_before b) (before_fault bs fault)

-- blocks that are laid end to end are read
pub laid_read : (bytes : List ℕ) (blocks : List FileBlock) → IsLaidEndToEnd bytes blocks → blocks_of bytes ≡ Ok blocks
laid_read bytes blocks h =
    let enough : length (all_bytes blocks) ≤ length bytes = omega (arith, ap length h.laid) in
    ap (λ xs. blocks_from (length bytes) 0 xs) (h.laid ∙ sym (append-nil (all_bytes blocks)))
    ∙ all_blocks (length bytes) 0 blocks [] enough
    ∙ ap (before blocks) (no_blocks _ _)
    ∙ before_nothing blocks

-- at most one list of blocks is laid end to end in the same bytes
pub one_list : (bytes : List ℕ) (a b : List FileBlock) → IsLaidEndToEnd bytes a → IsLaidEndToEnd bytes b → a ≡ b
one_list bytes a b h k =
    let same = sym (laid_read bytes a h) ∙ laid_read bytes b k in
    cc

-- bytes that are cut are read as a fault
cut_rest : (fuel offset : ℕ) (rest : List ℕ) → (rest ≢ []) → 0 < fuel → is_cut rest ≡ true → blocks_from fuel offset rest ≡ Err (Truncated offset)
cut_rest fuel offset [] some enough h = absurd (some refl)
cut_rest zero offset (x ∷ xs) some enough h = absurd (omega (arith, enough))
cut_rest (suc fuel) offset (x ∷ xs) some enough h = cut_block fuel offset x xs h

-- a list that isn't empty has a positive length
some_length : (xs : List ℕ) → (xs ≢ []) → 0 < length xs
some_length [] h = absurd (h refl)
some_length (x ∷ xs) h = omega arith

-- there are at most as many blocks as bytes
few_blocks : (blocks : List FileBlock) → length blocks ≤ length (all_bytes blocks)
few_blocks [] = omega arith
few_blocks (b ∷ bs) = omega (arith, few_blocks bs, length-append (block_bytes b) (all_bytes bs), some_bytes b)

-- if bytes come after the first `offset` ones, there are `offset` first ones
taken : (offset : ℕ) (bytes rest : List ℕ) → bytes ≡ take offset bytes ++ rest → 0 < length rest → length (take offset bytes) ≡ offset
taken offset bytes rest e some = omega (arith, length-take offset bytes, ap length e, length-append (take offset bytes) rest, some)

-- a block that is cut is read as a fault
pub truncated_read : (bytes : List ℕ) (offset : ℕ) → IsTruncatedAt bytes offset → blocks_of bytes ≡ Err (Truncated offset)
truncated_read bytes offset h =
    let split = h.split ∙ ap (λ xs. xs ++ h.rest) h.laid.laid in
    let some = some_length h.rest h.some in
    let long = ap length split ∙ length-append (all_bytes h.blocks) h.rest in
    let few = few_blocks h.blocks in
    let at : 0 + length (all_bytes h.blocks) ≡ offset = omega (arith, taken offset bytes h.rest h.split some, ap length h.laid.laid) in
    ap (λ xs. blocks_from (length bytes) 0 xs) split
    ∙ all_blocks (length bytes) 0 h.blocks h.rest (omega (arith, long))
    ∙ ap (before h.blocks) (cut_rest _ _ h.rest h.some (omega (arith, long, few, some)) h.cut)
    ∙ before_fault h.blocks _
    ∙ ap (λ n. Err (Truncated n)) at

-- ---- from what is read to blocks

-- dropping bytes leaves bytes
bytes_after : (n : ℕ) (bytes : List ℕ) → IsBytes bytes → IsBytes (drop n bytes)
bytes_after n bytes h i = rw (get_or-drop n bytes i 0) (h (n + i))

-- the numbers of a head that is read fit into their bytes
front_fits : (bytes : List ℕ) → IsBytes bytes → FitsHead (front_block bytes)
front_fits bytes h = record {
  identifier = omega (arith, h 0, h 1);
  kind = h 2;
  length = omega (arith, h 3, h 4, length-take (slice_index bytes 3 * 256 + slice_index bytes 4) (drop 5 bytes));
}

-- the block at the front, followed by blocks that are laid end to end
laid_before : (bytes : List ℕ) (blocks : List FileBlock) → IsBytes bytes → is_cut bytes ≡ false → IsLaidEndToEnd (drop (front_length bytes) bytes) blocks → IsLaidEndToEnd bytes (front_block bytes ∷ blocks)
laid_before bytes blocks h whole rest = record {
  laid = sym (front_bytes bytes h whole) ∙ ap (λ xs. block_bytes (front_block bytes) ++ xs) rest.laid;
  heads = (front_fits bytes h, rest.heads);
}

-- no blocks are laid in no bytes
none_laid : (fuel offset : ℕ) (blocks : List FileBlock) → blocks_from fuel offset [] ≡ Ok blocks → IsLaidEndToEnd [] blocks
none_laid fuel offset [] h = record { laid = refl; heads = tt }
none_laid fuel offset (b ∷ bs) h = let no = sym (no_blocks fuel offset) ∙ h in cc

-- blocks that are read are laid end to end
read_laid : (fuel offset : ℕ) (bytes : List ℕ) (blocks : List FileBlock) → length bytes ≤ fuel → IsBytes bytes → blocks_from fuel offset bytes ≡ Ok blocks → IsLaidEndToEnd bytes blocks
read_laid fuel offset [] blocks enough h e = none_laid fuel offset blocks e
read_laid zero offset (x ∷ xs) blocks enough h e = absurd (omega (arith, enough))
read_laid (suc fuel) offset (x ∷ xs) blocks enough h e =
    let first = first_block fuel offset x xs blocks e in
    let rest = read_laid fuel _ _ first.1.0 (after_front x xs fuel enough) (bytes_after _ (x ∷ xs) h) first.1.1 in
    subst (λ (bs : List FileBlock). IsLaidEndToEnd (x ∷ xs) bs) (sym first.1.2) (laid_before (x ∷ xs) first.1.0 h first.0 rest)

-- blocks are laid end to end iff they are read
pub laid : (bytes : List ℕ) (blocks : List FileBlock) → IsBytes bytes → IsLaidEndToEnd bytes blocks ↔ (blocks_of bytes ≡ Ok blocks)
laid bytes blocks h = (laid_read bytes blocks, read_laid (length bytes) 0 bytes blocks (omega arith) h)

-- if blocks after a first one give a fault, it comes from those after it
fault_after : (b : FileBlock) (r : Result (List FileBlock) CardFault) (fault : CardFault) → block_before b r ≡ Err fault → r ≡ Err fault
fault_after b (Ok blocks) fault h = cc
fault_after b (Err f) fault h = h

-- a block that isn't cut has as many bytes as its head says
front_taken : (bytes : List ℕ) → is_cut bytes ≡ false → length (block_bytes (front_block bytes)) ≡ front_length bytes
front_taken bytes whole =
    let enough = fits bytes whole in
    omega (arith, enough.1, enough.0, length-take (slice_index bytes 3 * 256 + slice_index bytes 4) (drop 5 bytes), length-drop 5 bytes)

-- the bytes of the block at the front, and the first n bytes after it
taken_before : (bytes : List ℕ) (n : ℕ) → IsBytes bytes → is_cut bytes ≡ false → take (front_length bytes + n) bytes ≡ block_bytes (front_block bytes) ++ take n (drop (front_length bytes) bytes)
taken_before bytes n h whole =
    let front = block_bytes (front_block bytes) in
    ap₂ (λ k xs. take (k + n) xs) (sym (front_taken bytes whole)) (sym (front_bytes bytes h whole))
    ∙ take-append-add front (drop (front_length bytes) bytes) n

-- a block that is cut, after the one at the front
truncated_before : (bytes : List ℕ) (n : ℕ) → IsBytes bytes → is_cut bytes ≡ false → IsTruncatedAt (drop (front_length bytes) bytes) n → IsTruncatedAt bytes (front_length bytes + n)
truncated_before bytes n h whole t =
    let front = block_bytes (front_block bytes) in
    let first = taken_before bytes n h whole in
    record {
      blocks = front_block bytes ∷ t.blocks;
      rest = t.rest;
      laid = record {
        laid = first ∙ ap (λ xs. front ++ xs) t.laid.laid;
        heads = (front_fits bytes h, t.laid.heads);
      };
      split = sym (front_bytes bytes h whole) ∙ ap (λ xs. front ++ xs) t.split ∙ sym (append_assoc front _ t.rest) ∙ ap (λ xs. xs ++ t.rest) (sym first);
      some = t.some;
      cut = t.cut;
    }

-- the fault is that of a block that is cut
abbrev Truncation : ℕ → List ℕ → CardFault → Type 0
Truncation offset bytes fault = (n : ℕ) × (fault ≡ Truncated (offset + n)) × IsTruncatedAt bytes n

-- if a fault is read instead of blocks, a block is cut
read_truncated : (fuel offset : ℕ) (bytes : List ℕ) (fault : CardFault) → length bytes ≤ fuel → IsBytes bytes → blocks_from fuel offset bytes ≡ Err fault → Truncation offset bytes fault
read_truncated fuel offset [] fault enough h e = let no = sym (no_blocks fuel offset) ∙ e in cc
read_truncated zero offset (x ∷ xs) fault enough h e = absurd (omega (arith, enough))
read_truncated (suc fuel) offset (x ∷ xs) fault enough h e =
    go (is_cut (x ∷ xs)) refl (λ r. read_truncated fuel _ _ fault (after_front x xs fuel enough) (bytes_after _ (x ∷ xs) h) r) where
      go : (b : Bool) → is_cut (x ∷ xs) ≡ b → (blocks_from fuel (offset + front_length (x ∷ xs)) (drop (front_length (x ∷ xs)) (x ∷ xs)) ≡ Err fault → Truncation (offset + front_length (x ∷ xs)) (drop (front_length (x ∷ xs)) (x ∷ xs)) fault) → Truncation offset (x ∷ xs) fault
      go true cut more =
          let same : Truncated offset ≡ fault = let both = sym (cut_block fuel offset x xs cut) ∙ e in cc in
          let at : offset ≡ offset + 0 = omega arith in (
            0,
            sym same ∙ ap (λ k. Truncated k) at,
            record {
              blocks = [];
              rest = x ∷ xs;
              laid = record { laid = refl; heads = tt };
              split = refl;
              some = λ none. cc;
              cut = cut;
            },
          )
      go false cut more =
          let t = more (fault_after (front_block (x ∷ xs)) _ fault (sym (whole_block fuel offset x xs cut) ∙ e)) in
          let at : offset + front_length (x ∷ xs) + t.0 ≡ offset + (front_length (x ∷ xs) + t.0) = omega arith in
          (front_length (x ∷ xs) + t.0, t.1 ∙ ap (λ k. Truncated k) at, truncated_before (x ∷ xs) t.0 h cut t.2)

-- `Truncated` is read iff the block at this offset is cut
pub truncated : (bytes : List ℕ) (offset : ℕ) → IsBytes bytes → IsTruncatedAt bytes offset ↔ (blocks_of bytes ≡ Err (Truncated offset))
truncated bytes offset h = (truncated_read bytes offset, back) where
  back : blocks_of bytes ≡ Err (Truncated offset) → IsTruncatedAt bytes offset
  back e =
      let t = read_truncated (length bytes) 0 bytes (Truncated offset) (omega arith) h e in
      let same : offset ≡ 0 + t.0 = let both = t.1 in cc in
      let at : t.0 ≡ offset = omega (arith, same) in
      subst (λ (n : ℕ). IsTruncatedAt bytes n) at t.2
