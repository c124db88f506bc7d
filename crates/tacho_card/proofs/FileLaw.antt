-- The faults of a file's blocks, defined by places, are those that the recursion finds.
use Rattle.std.proofs.Common.{◌≡◌, ℕ, zero, suc, ◌+◌, ◌<◌, ◌⊎◌, inl, inr, ◌↔◌, ◌&&◌, ◌||◌, nat_lt, Bool, true, false, cond, List, [], ◌∷◌, ◌++◌, length, get_or, slice_get, bytes_eq, Decides, HoldsAt, Option, None, Some, Result, Ok, Err, refl, sym, ap, ap₂, ◌∙◌, subst, append_assoc, length-append, arith}
use Rattle.std.proofs.Math.Seq.{get_or-append_seam}
use Rattle.std.proofs.lemmas.Bool.Decides.{nat_tests, not_from_Decides, Decides-eqb, Decides-and, Decides-or, Decides-ltb, Decides-by_or}
use Rattle.std.proofs.lemmas.List.{get_or_append_left}
use Rattle.std.proofs.lemmas.Option.{same_Some, slice_get_within, slice_get-get_or, slice_get_read, get_or_from_slice_get}
use Rattle.std.proofs.lemmas.Slice.Eq.{bytes_eq-Decides}
use Rattle.tacho_card.specs.declared.fault.CardFault.{CardFault}
use Rattle.tacho_card.specs.declared.fault.CardFault.TheVariants.{Twice, NoIdentification, ShortIdentification, TwoCards}
use Rattle.tacho_card.specs.CardFile.{FileBlock, IsLaidEndToEnd, activity_data, identification, is_block, value_of, is_once, has, first_repeat, no_repetition, holder_in, is_short, holder_of, file_holder, with_holder, then_held, then_single, card_file}
use Rattle.tacho_card.specs.Faults.{MayStandOnce, IsRepetition, IsFirstRepetition, HaveNoRepetition, IsIdentification, HaveNoIdentification, HaveShortIdentification, HaveTwoHolders, IsFileFault, IsHolder}
use Rattle.tacho_card.proofs.BlockLaw.{laid_read}
use Rattle.tacho_card.proofs.FirstLemmas.{FirstFrom, first_here, first_after, none_there, finds_none, finds_first}

-- ---- tests of blocks

-- decides whether a block has this identifier and kind
block_decides : (i k : ℕ) (b : FileBlock) → Decides (is_block i k b) ((b.identifier ≡ i) × (b.kind ≡ k))
block_decides i k b = Decides-and _ _ (Decides-eqb b.identifier i) (Decides-eqb b.kind k)

-- decides whether the file may have a block only once
single_decides : (b : FileBlock) → Decides (is_once b) (MayStandOnce b)
single_decides b =
    Decides-and _ _ (Decides-or _ _ (Decides-eqb b.identifier activity_data) (Decides-eqb b.identifier identification))
    (Decides-or _ _ (Decides-eqb b.kind 0) (Decides-eqb b.kind 2))

-- the blocks have the same identifier and the same kind
abbrev IsLike : FileBlock → FileBlock → Type 0
IsLike b other = (other.identifier ≡ b.identifier) × (other.kind ≡ b.kind)

-- a block with this identifier and kind is among the blocks
abbrev Seen : FileBlock → List FileBlock → Type 0
Seen b seen = (place : ℕ) × (place < length seen) × HoldsAt (IsLike b) seen place

-- decides whether a block repeats one of the blocks seen
repeats_decides : (seen : List FileBlock) (b : FileBlock) → Decides (is_once b && has b seen) (MayStandOnce b × Seen b seen)
repeats_decides seen b =
    Decides-and _ _ (single_decides b)
    (Decides-by_or (is_block b.identifier b.kind) (IsLike b) (has b) (block_decides b.identifier b.kind) refl (λ _ _. refl) seen)

-- ---- the search for a repetition

-- the next block comes after those seen
next_there : (seen rest : List FileBlock) (b : FileBlock) → slice_get (seen ++ b ∷ rest) (length seen) ≡ Some b
next_there seen rest b =
    slice_get_read (seen ++ b ∷ rest) _ (length seen) b refl (omega (arith, length-append seen (b ∷ rest))) (sym (get_or-append_seam seen b rest b))

-- if the test says so, the next block repeats one of those seen
next_repeats : (seen rest : List FileBlock) (b : FileBlock) → is_once b && has b seen ≡ true → IsRepetition (seen ++ b ∷ rest) (length seen) b
next_repeats seen rest b e =
    let h = (repeats_decides seen b).0 e in
    let long = length-append seen (b ∷ rest) in
    let at = get_or_append_left seen (b ∷ rest) b h.1.0 h.1.1 in
    record {
      there = next_there seen rest b;
      once = h.0;
      earlier = h.1.0;
      before = h.1.1;
      other = get_or seen h.1.0 b;
      stood = slice_get-get_or (seen ++ b ∷ rest) h.1.0 b (omega (arith, h.1.1, long)) ∙ ap Some at;
      identifier = (h.1.2 b).0;
      kind = (h.1.2 b).1;
    }

-- otherwise it repeats none
next_is_new : (seen rest : List FileBlock) (b other : FileBlock) → is_once b && has b seen ≡ false → ¬ (IsRepetition (seen ++ b ∷ rest) (length seen) other)
next_is_new seen rest b other e r =
    let same : b ≡ other = same_Some b other (sym (next_there seen rest b) ∙ r.there) in
    let stood = λ (d : FileBlock). sym (get_or_from_slice_get (seen ++ b ∷ rest) r.earlier r.other d r.stood) ∙ get_or_append_left seen (b ∷ rest) d r.earlier r.before in
    let like = λ (d : FileBlock). subst (IsLike other) (stood d) (r.identifier, r.kind) in
    not_from_Decides _ (repeats_decides seen b) e
    (subst (λ (x : FileBlock). MayStandOnce x × Seen x seen) (sym same) (r.once, (r.earlier, r.before, like)))

-- after the blocks seen, the recursion finds the first repetition
finds_from : (seen blocks : List FileBlock) → FirstFrom (IsRepetition (seen ++ blocks)) (length seen) (first_repeat seen blocks)
finds_from seen [] = λ place b l r. absurd (omega (arith, l, slice_get_within (seen ++ []) place b r.there, length-append seen []))
finds_from seen (b ∷ blocks) = go (is_once b && has b seen) refl (finds_from (seen ++ b ∷ []) blocks) where
  all : List FileBlock
  all = seen ++ b ∷ blocks

  longer : length (seen ++ b ∷ []) ≡ length seen + 1
  longer = length-append seen (b ∷ [])

  found : Option FileBlock
  found = first_repeat (seen ++ b ∷ []) blocks

  go : (t : Bool) → (is_once b && has b seen) ≡ t → FirstFrom (IsRepetition ((seen ++ b ∷ []) ++ blocks)) (length (seen ++ b ∷ [])) found →
      FirstFrom (IsRepetition all) (length seen) (cond t (Some b) found)
  go true e rest = first_here (IsRepetition all) (length seen) b (next_repeats seen blocks b e)
  go false e rest =
      let behind = subst (λ (xs : List FileBlock). FirstFrom (IsRepetition xs) (length (seen ++ b ∷ [])) found) (append_assoc seen (b ∷ []) blocks) rest in
      first_after (IsRepetition all) (length seen) _ (λ other. next_is_new seen blocks b other e)
      (subst (λ (n : ℕ). FirstFrom (IsRepetition all) n found) longer behind)

-- if none is found, there is no repetition
none_found : (blocks : List FileBlock) → first_repeat [] blocks ≡ None → HaveNoRepetition blocks
none_found blocks e = none_there (IsRepetition blocks) _ (finds_from [] blocks) e

-- if there is no repetition, none is found
no_fault : (blocks : List FileBlock) → HaveNoRepetition blocks → first_repeat [] blocks ≡ None
no_fault blocks h = finds_none (IsRepetition blocks) _ (finds_from [] blocks) h

-- the block found is the first repetition
first_found : (blocks : List FileBlock) (b : FileBlock) → first_repeat [] blocks ≡ Some b → IsFirstRepetition blocks b
first_found blocks b e =
    let found = subst (FirstFrom (IsRepetition blocks) 0) e (finds_from [] blocks) in
    record {
      place = found.0;
      repeats = found.2;
      first = λ earlier other l. found.3 earlier other (omega arith) l;
    }

-- the first repetition is found
first_fault : (blocks : List FileBlock) (b : FileBlock) → IsFirstRepetition blocks b → first_repeat [] blocks ≡ Some b
first_fault blocks b h =
    finds_first (IsRepetition blocks) _ (finds_from [] blocks) h.place b h.repeats h.first
    (λ other r. same_Some other b (sym r.there ∙ h.repeats.there))

-- ---- the values of the identifications

-- some block has this identifier, kind and value
abbrev HasValue : ℕ → ℕ → List FileBlock → List ℕ → Type 0
HasValue i k blocks v =
    (place : ℕ) × (b : FileBlock) × (slice_get blocks place ≡ Some b) × (b.identifier ≡ i) × (b.kind ≡ k) × (b.value ≡ v)

-- if a value is found for an identifier and a kind, some block has it
value_at : (i k : ℕ) (blocks : List FileBlock) (v : List ℕ) → value_of i k blocks ≡ Some v → HasValue i k blocks v
value_at i k [] v h = cc
value_at i k (x ∷ xs) v h = go (is_block i k x) refl h (value_at i k xs v) where
  go : (t : Bool) → is_block i k x ≡ t → cond t (Some x.value) (value_of i k xs) ≡ Some v → (value_of i k xs ≡ Some v → HasValue i k xs v) → HasValue i k (x ∷ xs) v
  go true e h more = let like = (block_decides i k x).0 e in (0, x, refl, like.0, like.1, same_Some x.value v h)
  go false e h more = let rest = more h in (suc rest.0, rest.1, rest.2, rest.3, rest.4, rest.5)

-- if nothing is found, the first block doesn't match and nothing is found after it
not_passed : (t : Bool) (v : List ℕ) (rest : Option (List ℕ)) → cond t (Some v) rest ≡ None → (t ≡ false) × (rest ≡ None)
not_passed true v rest h = cc
not_passed false v rest h = (refl, h)

-- if no value is found, no block has this identifier and kind
no_value : (i k : ℕ) (blocks : List FileBlock) (place : ℕ) (b : FileBlock) → value_of i k blocks ≡ None → slice_get blocks place ≡ Some b →
    ¬ ((b.identifier ≡ i) × (b.kind ≡ k))
no_value i k [] place b h there like = cc
no_value i k (x ∷ xs) zero b h there like =
    let passed = not_passed (is_block i k x) x.value (value_of i k xs) h in
    not_from_Decides _ (block_decides i k x) passed.0 (subst (λ (y : FileBlock). (y.identifier ≡ i) × (y.kind ≡ k)) (sym (same_Some x b there)) like)
no_value i k (x ∷ xs) (suc n) b h there like = no_value i k xs n b (not_passed (is_block i k x) x.value (value_of i k xs) h).1 there like

-- a later block that may be in the file only once repeats an earlier one with the same identifier and kind
repeats : (blocks : List FileBlock) (i j : ℕ) (a b : FileBlock) → i < j → slice_get blocks i ≡ Some a → slice_get blocks j ≡ Some b →
    IsLike b a → MayStandOnce b → IsRepetition blocks j b
repeats blocks i j a b l at there like once =
    record { there = there; once = once; earlier = i; before = l; other = a; stood = at; identifier = like.0; kind = like.1 }

-- so without a repetition, at most one block that may be in the file once has an identifier and a kind
one_block : (blocks : List FileBlock) (i j : ℕ) (a b : FileBlock) → HaveNoRepetition blocks → slice_get blocks i ≡ Some a → slice_get blocks j ≡ Some b →
    IsLike b a → MayStandOnce a → MayStandOnce b → a ≡ b
one_block blocks i j a b none at there like once other = go (nat_lt i j) refl (nat_lt j i) refl where
  go : (t : Bool) → nat_lt i j ≡ t → (u : Bool) → nat_lt j i ≡ u → a ≡ b
  go true e u f = absurd (none j b (repeats blocks i j a b (grind (arith, nat_tests)) at there like other))
  go false e true f = absurd (none i a (repeats blocks j i b a (grind (arith, nat_tests)) there at (sym like.0, sym like.1) once))
  go false e false f = let same : i ≡ j = grind (arith, nat_tests) in same_Some a b (sym at ∙ ap (slice_get blocks) same ∙ there)

-- an identification may be in the file only once
may_stand : (blocks : List FileBlock) (b : FileBlock) → IsIdentification blocks b → MayStandOnce b
may_stand blocks b h = (inr h.identifier, h.kind)

-- an identification has a place
stands : (blocks : List FileBlock) (b : FileBlock) → IsIdentification blocks b → (place : ℕ) × (slice_get blocks place ≡ Some b)
stands blocks b h = (h.among.0, slice_get_read blocks _ h.among.0 b refl h.among.1 (sym h.among.2))

-- the value is that of an identification
abbrev IsNamed : List FileBlock → List ℕ → Type 0
IsNamed blocks value = (b : FileBlock) × IsIdentification blocks b × (b.value ≡ value)

-- a value found for either kind is that of an identification
value_named : (blocks : List FileBlock) (k : ℕ) → (k ≡ 0) ⊎ (k ≡ 2) → (v : List ℕ) → value_of identification k blocks ≡ Some v → IsNamed blocks v
value_named blocks k either v e =
    let h = value_at identification k blocks v e in (
      h.1,
      record {
        among = (h.0, slice_get_within blocks h.0 h.1 h.2, get_or_from_slice_get blocks h.0 h.1 h.1 h.2);
        identifier = h.3;
        kind = subst (λ (n : ℕ). (n ≡ 0) ⊎ (n ≡ 2)) (sym h.4) either;
      },
      h.5,
    )

-- without a repetition, the value of an identification is found for its kind
named_value : (blocks : List FileBlock) (k : ℕ) (b : FileBlock) → HaveNoRepetition blocks → IsIdentification blocks b → b.kind ≡ k →
    value_of identification k blocks ≡ Some b.value
named_value blocks k b none h kind = go (value_of identification k blocks) refl where
  place : (place : ℕ) × (slice_get blocks place ≡ Some b)
  place = stands blocks b h

  go : (o : Option (List ℕ)) → value_of identification k blocks ≡ o → value_of identification k blocks ≡ Some b.value
  go None e = absurd (no_value identification k blocks place.0 b e place.1 (h.identifier, kind))
  go (Some v) e =
      let at = value_at identification k blocks v e in
      let once : MayStandOnce at.1 = (inr at.3, subst (λ (n : ℕ). (n ≡ 0) ⊎ (n ≡ 2)) (kind ∙ sym at.4) h.kind) in
      let same : at.1 ≡ b = one_block blocks at.0 place.0 at.1 b none at.2 place.1 (at.3 ∙ sym h.identifier, at.4 ∙ sym kind) once (may_stand blocks b h) in
      e ∙ ap Some (sym at.5 ∙ ap (λ (x : FileBlock). x.value) same)

-- ---- the holder

-- the identifications of blocks have this holder, or this fault
abbrev Names : List FileBlock → Result (List ℕ) CardFault → Type 0
Names blocks (Ok holder) = IsHolder blocks holder
Names blocks (Err NoIdentification) = HaveNoIdentification blocks
Names blocks (Err ShortIdentification) = HaveShortIdentification blocks
Names blocks (Err TwoCards) = ¬ (HaveShortIdentification blocks) × HaveTwoHolders blocks
Names blocks (Err fault) = ⊥

-- decides whether a value is short
short_decides : (value : List ℕ) → Decides (is_short (Some value)) (length value < 17)
short_decides value = Decides-ltb (length value) 17

-- if an identification's value is short, the blocks have a short identification
named_short : (blocks : List FileBlock) (x : List ℕ) → IsNamed blocks x → is_short (Some x) ≡ true → HaveShortIdentification blocks
named_short blocks x h e = (h.0, h.1, subst (λ (v : List ℕ). length v < 17) (sym h.2) ((short_decides x).0 e))

-- if all identifications have this value, it determines the holder or the fault
one_names : (blocks : List FileBlock) (x : List ℕ) → IsNamed blocks x → ((b : FileBlock) → IsIdentification blocks b → b.value ≡ x) →
    Names blocks (cond (is_short (Some x)) (Err ShortIdentification) (Ok (holder_in x)))
one_names blocks x named each = go (is_short (Some x)) refl where
  go : (t : Bool) → is_short (Some x) ≡ t → Names blocks (cond t (Err ShortIdentification) (Ok (holder_in x)))
  go true e = named_short blocks x named e
  go false e = record {
    some = (named.0, named.1);
    long = λ s. not_from_Decides _ (short_decides x) e (subst (λ (v : List ℕ). length v < 17) (each s.0 s.1) s.2);
    each = λ b h. ap holder_in (each b h);
  }

-- if each identification has one of these two values, they determine the holder or the fault
two_names : (blocks : List FileBlock) (x y : List ℕ) → IsNamed blocks x → IsNamed blocks y →
    ((b : FileBlock) → IsIdentification blocks b → (b.value ≡ x) ⊎ (b.value ≡ y)) → Names blocks (holder_of (Some x) (Some y))
two_names blocks x y one other each = go (is_short (Some x)) refl (is_short (Some y)) refl (bytes_eq (holder_in x) (holder_in y)) refl where
  long : is_short (Some x) ≡ false → is_short (Some y) ≡ false → ¬ (HaveShortIdentification blocks)
  long e f s = pick (each s.0 s.1) where
    pick : (s.0.value ≡ x) ⊎ (s.0.value ≡ y) → ⊥
    pick (inl h) = not_from_Decides _ (short_decides x) e (subst (λ (v : List ℕ). length v < 17) h s.2)
    pick (inr h) = not_from_Decides _ (short_decides y) f (subst (λ (v : List ℕ). length v < 17) h s.2)

  all : holder_in x ≡ holder_in y → (b : FileBlock) → (b.value ≡ x) ⊎ (b.value ≡ y) → holder_in b.value ≡ holder_in x
  all same b (inl h) = ap holder_in h
  all same b (inr h) = ap holder_in h ∙ sym same

  go : (t : Bool) → is_short (Some x) ≡ t → (u : Bool) → is_short (Some y) ≡ u → (s : Bool) → bytes_eq (holder_in x) (holder_in y) ≡ s →
      Names blocks (cond (t || u) (Err ShortIdentification) (cond s (Ok (holder_in x)) (Err TwoCards)))
  go true e u f s g = named_short blocks x one e
  go false e true f s g = named_short blocks y other f
  go false e false f true g = record {
    some = (one.0, one.1);
    long = long e f;
    each = λ b h. all ((bytes_eq-Decides (holder_in x) (holder_in y)).0 g) b (each b h);
  }
  go false e false f false g = (
    long e f,
    (one.0, other.0, one.1, other.1, λ same. not_from_Decides _ (bytes_eq-Decides (holder_in x) (holder_in y)) g (ap holder_in (sym one.2) ∙ same ∙ ap holder_in other.2)),
  )

-- the values of the two kinds determine the holder or the fault
values_name : (blocks : List FileBlock) (v w : Option (List ℕ)) → ((x : List ℕ) → v ≡ Some x → IsNamed blocks x) → ((x : List ℕ) → w ≡ Some x → IsNamed blocks x) →
    ((b : FileBlock) → IsIdentification blocks b → (v ≡ Some b.value) ⊎ (w ≡ Some b.value)) → Names blocks (holder_of v w)
values_name blocks None None first second each = λ b h. go (each b h) where
  go : {x : List ℕ} → (None ≡ Some x) ⊎ (None ≡ Some x) → ⊥
  go (inl e) = cc
  go (inr e) = cc
values_name blocks (Some x) None first second each = one_names blocks x (first x refl) (λ b h. go b (each b h)) where
  go : (b : FileBlock) → (Some x ≡ Some b.value) ⊎ (None ≡ Some b.value) → b.value ≡ x
  go b (inl e) = sym (same_Some x b.value e)
  go b (inr e) = cc
values_name blocks None (Some y) first second each = one_names blocks y (second y refl) (λ b h. go b (each b h)) where
  go : (b : FileBlock) → (None ≡ Some b.value) ⊎ (Some y ≡ Some b.value) → b.value ≡ y
  go b (inl e) = cc
  go b (inr e) = sym (same_Some y b.value e)
values_name blocks (Some x) (Some y) first second each = two_names blocks x y (first x refl) (second y refl) (λ b h. go b (each b h)) where
  go : (b : FileBlock) → (Some x ≡ Some b.value) ⊎ (Some y ≡ Some b.value) → (b.value ≡ x) ⊎ (b.value ≡ y)
  go b (inl e) = inl (sym (same_Some x b.value e))
  go b (inr e) = inr (sym (same_Some y b.value e))

-- without a repetition, each identification has the value found for its kind
either_value : (blocks : List FileBlock) (b : FileBlock) → HaveNoRepetition blocks → IsIdentification blocks b → (b.kind ≡ 0) ⊎ (b.kind ≡ 2) →
    (value_of identification 0 blocks ≡ Some b.value) ⊎ (value_of identification 2 blocks ≡ Some b.value)
either_value blocks b none h (inl kind) = inl (named_value blocks 0 b none h kind)
either_value blocks b none h (inr kind) = inr (named_value blocks 2 b none h kind)

-- without a repetition, the holder or fault found is that of the identifications
holder_names : (blocks : List FileBlock) → HaveNoRepetition blocks → Names blocks (file_holder blocks)
holder_names blocks none =
    values_name blocks (value_of identification 0 blocks) (value_of identification 2 blocks) (value_named blocks 0 (inl refl)) (value_named blocks 2 (inr refl))
    (λ b h. either_value blocks b none h h.kind)

-- blocks with one holder don't have two
no_two : (blocks : List FileBlock) (holder : List ℕ) → IsHolder blocks holder → ¬ (HaveTwoHolders blocks)
no_two blocks holder h two = two.4 (h.each two.0 two.2 ∙ sym (h.each two.1 two.3))

-- identifications determine one holder or fault
one_thing : (blocks : List FileBlock) (r s : Result (List ℕ) CardFault) → Names blocks r → Names blocks s → r ≡ s
one_thing blocks (Ok x) (Ok y) h k = ap (λ z. Ok z) (sym (h.each h.some.0 h.some.1) ∙ k.each h.some.0 h.some.1)
one_thing blocks (Ok x) (Err NoIdentification) h k = absurd (k h.some.0 h.some.1)
one_thing blocks (Ok x) (Err ShortIdentification) h k = absurd (h.long k)
one_thing blocks (Ok x) (Err TwoCards) h k = absurd (no_two blocks x h k.1)
one_thing blocks (Ok x) (Err g) h k = absurd k
one_thing blocks (Err NoIdentification) (Ok y) h k = absurd (h k.some.0 k.some.1)
one_thing blocks (Err NoIdentification) (Err NoIdentification) h k = refl
one_thing blocks (Err NoIdentification) (Err ShortIdentification) h k = absurd (h k.0 k.1)
one_thing blocks (Err NoIdentification) (Err TwoCards) h k = absurd (h k.1.0 k.1.2)
one_thing blocks (Err NoIdentification) (Err g) h k = absurd k
one_thing blocks (Err ShortIdentification) (Ok y) h k = absurd (k.long h)
one_thing blocks (Err ShortIdentification) (Err NoIdentification) h k = absurd (k h.0 h.1)
one_thing blocks (Err ShortIdentification) (Err ShortIdentification) h k = refl
one_thing blocks (Err ShortIdentification) (Err TwoCards) h k = absurd (k.0 h)
one_thing blocks (Err ShortIdentification) (Err g) h k = absurd k
one_thing blocks (Err TwoCards) (Ok y) h k = absurd (no_two blocks y k h.1)
one_thing blocks (Err TwoCards) (Err NoIdentification) h k = absurd (k h.1.0 h.1.2)
one_thing blocks (Err TwoCards) (Err ShortIdentification) h k = absurd (h.0 k)
one_thing blocks (Err TwoCards) (Err TwoCards) h k = refl
one_thing blocks (Err TwoCards) (Err g) h k = absurd k
one_thing blocks (Err f) s h k = absurd h

-- without a repetition, the holder or fault of the identifications is exactly the one found
says : (blocks : List FileBlock) (r : Result (List ℕ) CardFault) → HaveNoRepetition blocks → Names blocks r ↔ (file_holder blocks ≡ r)
says blocks r none = (one_thing blocks (file_holder blocks) r (holder_names blocks none), λ e. subst (Names blocks) e (holder_names blocks none))

-- without a repetition, the holder found is the one that each identification names
pub holder_named : (blocks : List FileBlock) (holder : List ℕ) → HaveNoRepetition blocks → IsHolder blocks holder ↔ (file_holder blocks ≡ Ok holder)
holder_named blocks holder none = says blocks (Ok holder) none

-- ---- the fault of a file

-- the result of reading blocks
abbrev read_blocks : List FileBlock → Option FileBlock → Result (List FileBlock) CardFault
read_blocks blocks o = then_held (no_repetition o blocks)

-- without a repetition, a fault of the identifications is the one that is read
held_fault : (blocks : List FileBlock) (fault : CardFault) → HaveNoRepetition blocks → Names blocks (Err fault) → read_blocks blocks (first_repeat [] blocks) ≡ Err fault
held_fault blocks fault none h =
    ap (read_blocks blocks) (no_fault blocks none) ∙ ap (with_holder blocks) ((says blocks (Err fault) none).0 h)

-- a fault of the blocks by places is the one found by recursion
fault_read : (blocks : List FileBlock) (fault : CardFault) → IsFileFault blocks fault → read_blocks blocks (first_repeat [] blocks) ≡ Err fault
fault_read blocks (Twice i k) h = ap (read_blocks blocks) (first_fault blocks h.0 h.1) ∙ ap₂ (λ x y. Err (Twice x y)) h.2 h.3
fault_read blocks NoIdentification h = held_fault blocks NoIdentification h.0 h.1
fault_read blocks ShortIdentification h = held_fault blocks ShortIdentification h.0 h.1
fault_read blocks TwoCards h = held_fault blocks TwoCards h.0 (h.1, h.2)
fault_read blocks fault h = absurd h

-- without a repetition, a fault of the identifications is one of the blocks
fault_held : (blocks : List FileBlock) (fault : CardFault) → HaveNoRepetition blocks → Names blocks (Err fault) → IsFileFault blocks fault
fault_held blocks NoIdentification none h = (none, h)
fault_held blocks ShortIdentification none h = (none, h)
fault_held blocks TwoCards none h = (none, h.0, h.1)
fault_held blocks fault none h = absurd h

-- if checking the holder gives a fault, it is the fault of the holder
only_holder : (blocks : List FileBlock) (r : Result (List ℕ) CardFault) (fault : CardFault) → with_holder blocks r ≡ Err fault → r ≡ Err fault
only_holder blocks (Ok holder) fault h = cc
only_holder blocks (Err f) fault h = cc

-- a fault of the blocks found by recursion is one by places
read_fault : (blocks : List FileBlock) (fault : CardFault) → read_blocks blocks (first_repeat [] blocks) ≡ Err fault → IsFileFault blocks fault
read_fault blocks fault h = go (first_repeat [] blocks) refl h where
  go : (o : Option FileBlock) → first_repeat [] blocks ≡ o → read_blocks blocks o ≡ Err fault → IsFileFault blocks fault
  go None e h =
      let none = none_found blocks e in
      fault_held blocks fault none ((says blocks (Err fault) none).1 (only_holder blocks (file_holder blocks) fault h))
  go (Some b) e h =
      let same : Twice b.identifier b.kind ≡ fault = cc in
      subst (IsFileFault blocks) same (b, first_found blocks b e, refl, refl)

-- blocks that are laid end to end are refused with exactly their fault
pub file_fault : (bytes : List ℕ) (blocks : List FileBlock) (fault : CardFault) → IsLaidEndToEnd bytes blocks → IsFileFault blocks fault ↔ (card_file bytes ≡ Err fault)
file_fault bytes blocks fault h =
    let read = ap (λ r. then_held (then_single r)) (laid_read bytes blocks h) in
    (λ f. read ∙ fault_read blocks fault f, λ e. read_fault blocks fault (sym read ∙ e))

-- blocks that have no repetition and name a holder are read
blocks_read : (blocks : List FileBlock) → HaveNoRepetition blocks × ((holder : List ℕ) × IsHolder blocks holder) → read_blocks blocks (first_repeat [] blocks) ≡ Ok blocks
blocks_read blocks h =
    ap (read_blocks blocks) (no_fault blocks h.0) ∙ ap (with_holder blocks) ((says blocks (Ok h.1.0) h.0).0 h.1.1)

-- blocks that are read have no repetition and name a holder
read_holder : (blocks : List FileBlock) → read_blocks blocks (first_repeat [] blocks) ≡ Ok blocks → HaveNoRepetition blocks × ((holder : List ℕ) × IsHolder blocks holder)
read_holder blocks h = go (first_repeat [] blocks) refl h where
  named : HaveNoRepetition blocks → (r : Result (List ℕ) CardFault) → file_holder blocks ≡ r → with_holder blocks r ≡ Ok blocks → (holder : List ℕ) × IsHolder blocks holder
  named none (Ok holder) e same = (holder, (says blocks (Ok holder) none).1 e)
  named none (Err f) e same = cc

  go : (o : Option FileBlock) → first_repeat [] blocks ≡ o → read_blocks blocks o ≡ Ok blocks → HaveNoRepetition blocks × ((holder : List ℕ) × IsHolder blocks holder)
  go None e same = let none = none_found blocks e in (none, named none (file_holder blocks) refl same)
  go (Some b) e same = cc

-- blocks that are laid end to end are read iff they have no repetition and name a holder
pub file_read : (bytes : List ℕ) (blocks : List FileBlock) → IsLaidEndToEnd bytes blocks → (HaveNoRepetition blocks × ((holder : List ℕ) × IsHolder blocks holder)) ↔ (card_file bytes ≡ Ok blocks)
file_read bytes blocks h =
    let read = ap (λ r. then_held (then_single r)) (laid_read bytes blocks h) in
    (λ named. read ∙ blocks_read blocks named, λ e. read_holder blocks (sym read ∙ e))
