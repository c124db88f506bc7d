-- The four blocks that a card file may have only once.
use Rattle.std.proofs.Common.{◌≡◌, ℕ, ◌==◌, ◌&&◌, ◌||◌, Bool, true, false, cond, List, [], ◌∷◌, ◌++◌, set, slice_index_or, Option, None, Some, ◌⊎◌, inl, inr, refl, sym, ap, ap₂, ◌∙◌, subst, arith}
use Rattle.std.proofs.lemmas.Bool.Decides.{nat_tests}
use Rattle.tacho_card.specs.CardFile.{FileBlock, activity_data, identification, is_block, is_once, has, first_repeat}
use Rattle.tacho_card.specs.Singles.{single_place}

-- some block has this identifier and kind
abbrev pub has_one : ℕ → ℕ → List FileBlock → Bool
has_one identifier kind [] = false
has_one identifier kind (first ∷ blocks) = is_block identifier kind first || has_one identifier kind blocks

-- which of the four are among the blocks
abbrev pub marks : List FileBlock → List Bool
marks blocks =
    has_one activity_data 0 blocks ∷ has_one activity_data 2 blocks ∷ has_one identification 0 blocks ∷ has_one identification 2 blocks ∷ []

-- with one more block
has_one_more : (i k : ℕ) (blocks : List FileBlock) (b : FileBlock) → has_one i k (blocks ++ b ∷ []) ≡ (has_one i k blocks || is_block i k b)
has_one_more i k [] b = go (is_block i k b) where
  go : (t : Bool) → (t || false) ≡ (false || t)
  go true = refl
  go false = refl
has_one_more i k (x ∷ xs) b = go (is_block i k x) (has_one_more i k xs b) where
  go : (t : Bool) → has_one i k (xs ++ b ∷ []) ≡ (has_one i k xs || is_block i k b) → (t || has_one i k (xs ++ b ∷ [])) ≡ (t || has_one i k xs || is_block i k b)
  go true h = refl
  go false h = h

-- a block with the identifier and kind of this one is among the blocks
has_is : (b : FileBlock) (blocks : List FileBlock) → has b blocks ≡ has_one b.identifier b.kind blocks
has_is b [] = refl
has_is b (x ∷ xs) = ap (λ t. is_block b.identifier b.kind x || t) (has_is b xs)

-- a test of both numbers passes only if both are equal
both : (i k m n : ℕ) → ((i == m) && (k == n)) ≡ true → (i ≡ m) × (k ≡ n)
both i k m n h = (grind (arith, nat_tests), grind (arith, nat_tests))

-- which of the four are among the blocks, with one more block that passes these tests
marks_more : (blocks : List FileBlock) (b : FileBlock) (t u v w : Bool) → is_block activity_data 0 b ≡ t → is_block activity_data 2 b ≡ u → is_block identification 0 b ≡ v → is_block identification 2 b ≡ w →
    marks (blocks ++ b ∷ [])
    ≡ (has_one activity_data 0 blocks || t) ∷ (has_one activity_data 2 blocks || u) ∷ (has_one identification 0 blocks || v) ∷ (has_one identification 2 blocks || w) ∷ []
marks_more blocks b t u v w e f g h =
    let one = λ (i k : ℕ) (x : Bool) (p : is_block i k b ≡ x). has_one_more i k blocks b ∙ ap (λ y. has_one i k blocks || y) p in
    ap₂ (λ x y. x ∷ y ∷ has_one identification 0 (blocks ++ b ∷ []) ∷ has_one identification 2 (blocks ++ b ∷ []) ∷ []) (one activity_data 0 t e) (one activity_data 2 u f)
    ∙ ap₂ (λ x y. (has_one activity_data 0 blocks || t) ∷ (has_one activity_data 2 blocks || u) ∷ x ∷ y ∷ []) (one identification 0 v g) (one identification 2 w h)

or_true : (b : Bool) → (b || true) ≡ true
or_true true = refl
or_true false = refl

or_false : (b : Bool) → (b || false) ≡ b
or_false true = refl
or_false false = refl

-- likewise, by the block's identifier and kind
marks_at : (blocks : List FileBlock) (b : FileBlock) (i k : ℕ) → b.identifier ≡ i → b.kind ≡ k →
    marks (blocks ++ b ∷ [])
    ≡ (has_one activity_data 0 blocks || ((i == activity_data) && (k == 0)))
    ∷ (has_one activity_data 2 blocks || ((i == activity_data) && (k == 2)))
    ∷ (has_one identification 0 blocks || ((i == identification) && (k == 0)))
    ∷ (has_one identification 2 blocks || ((i == identification) && (k == 2)))
    ∷ []
marks_at blocks b i k e f =
    let test = λ (m n : ℕ). ap₂ (λ x y. (x == m) && (y == n)) e f in
    marks_more blocks b _ _ _ _ (test activity_data 0) (test activity_data 2) (test identification 0) (test identification 2)

-- what holds for a block that is one of the four
record IsAt (b : FileBlock) (place : ℕ) : Type 0 where
  single : is_once b ≡ true
  seen : (blocks : List FileBlock) → slice_index_or (marks blocks) place false ≡ has b blocks
  more : (blocks : List FileBlock) → set (marks blocks) place true ≡ marks (blocks ++ b ∷ [])

-- a block with these numbers may be in the file only once
single_by : (b : FileBlock) (i k : ℕ) → b.identifier ≡ i → b.kind ≡ k → is_once b ≡ (((i == activity_data) || (i == identification)) && ((k == 0) || (k == 2)))
single_by b i k e f = ap₂ (λ x y. ((x == activity_data) || (x == identification)) && ((y == 0) || (y == 2))) e f

-- true if a block with these numbers was seen
seen_by : (b : FileBlock) (i k : ℕ) → b.identifier ≡ i → b.kind ≡ k → (blocks : List FileBlock) → has_one i k blocks ≡ has b blocks
seen_by b i k e f blocks = sym (has_is b blocks ∙ ap₂ (λ x y. has_one x y blocks) e f)

-- the four blocks
first_activity : (b : FileBlock) → (b.identifier ≡ activity_data) × (b.kind ≡ 0) → IsAt b 0
first_activity b h = record {
  single = single_by b _ _ h.0 h.1;
  seen = seen_by b activity_data 0 h.0 h.1;
  more = λ blocks. sym (marks_at blocks b _ _ h.0 h.1 ∙ simp (or_true, or_false));
}

second_activity : (b : FileBlock) → (b.identifier ≡ activity_data) × (b.kind ≡ 2) → IsAt b 1
second_activity b h = record {
  single = single_by b _ _ h.0 h.1;
  seen = seen_by b activity_data 2 h.0 h.1;
  more = λ blocks. sym (marks_at blocks b _ _ h.0 h.1 ∙ simp (or_true, or_false));
}

first_identification : (b : FileBlock) → (b.identifier ≡ identification) × (b.kind ≡ 0) → IsAt b 2
first_identification b h = record {
  single = single_by b _ _ h.0 h.1;
  seen = seen_by b identification 0 h.0 h.1;
  more = λ blocks. sym (marks_at blocks b _ _ h.0 h.1 ∙ simp (or_true, or_false));
}

second_identification : (b : FileBlock) → (b.identifier ≡ identification) × (b.kind ≡ 2) → IsAt b 3
second_identification b h = record {
  single = single_by b _ _ h.0 h.1;
  seen = seen_by b identification 2 h.0 h.1;
  more = λ blocks. sym (marks_at blocks b _ _ h.0 h.1 ∙ simp (or_true, or_false));
}

-- a test passed or failed
chosen : (t : Bool) (x y z : Option ℕ) → cond t x y ≡ z → ((t ≡ true) × (x ≡ z)) ⊎ ((t ≡ false) × (y ≡ z))
chosen true x y z h = inl (refl, h)
chosen false x y z h = inr (refl, h)

-- a block at number n is at an equal number
moved : (b : FileBlock) (n place : ℕ) → IsAt b n → Some n ≡ Some place → IsAt b place
moved b n place h e = let same : n ≡ place = cc in subst (λ (p : ℕ). IsAt b p) same h

-- a block has one of the four numbers
at_place : (b : FileBlock) (place : ℕ) → single_place b ≡ Some place → IsAt b place
at_place b place h = one (chosen _ _ _ _ h) where
  four : ((is_block identification 2 b ≡ true) × (Some 3 ≡ Some place)) ⊎ ((is_block identification 2 b ≡ false) × (None ≡ Some place)) → IsAt b place
  four (inl e) = moved b 3 place (second_identification b (both _ _ _ _ e.0)) e.1
  four (inr e) = let no = e.1 in cc

  three : ((is_block identification 0 b ≡ true) × (Some 2 ≡ Some place)) ⊎ ((is_block identification 0 b ≡ false) × (cond (is_block identification 2 b) (Some 3) None ≡ Some place)) → IsAt b place
  three (inl e) = moved b 2 place (first_identification b (both _ _ _ _ e.0)) e.1
  three (inr e) = four (chosen _ _ _ _ e.1)

  two : ((is_block activity_data 2 b ≡ true) × (Some 1 ≡ Some place)) ⊎ ((is_block activity_data 2 b ≡ false) × (cond (is_block identification 0 b) (Some 2) (cond (is_block identification 2 b) (Some 3) None) ≡ Some place)) → IsAt b place
  two (inl e) = moved b 1 place (second_activity b (both _ _ _ _ e.0)) e.1
  two (inr e) = three (chosen _ _ _ _ e.1)

  one : ((is_block activity_data 0 b ≡ true) × (Some 0 ≡ Some place)) ⊎ ((is_block activity_data 0 b ≡ false) × (cond (is_block activity_data 2 b) (Some 1) (cond (is_block identification 0 b) (Some 2) (cond (is_block identification 2 b) (Some 3) None)) ≡ Some place)) → IsAt b place
  one (inl e) = moved b 0 place (first_activity b (both _ _ _ _ e.0)) e.1
  one (inr e) = two (chosen _ _ _ _ e.1)

-- a block that is none of the four passes no test
no_tests : (t u v w : Bool) → cond {A = Option ℕ} t (Some 0) (cond u (Some 1) (cond v (Some 2) (cond w (Some 3) None))) ≡ None → (t ≡ false) × (u ≡ false) × (v ≡ false) × (w ≡ false)
no_tests true u v w h = cc
no_tests false true v w h = cc
no_tests false false true w h = cc
no_tests false false false true h = cc
no_tests false false false false h = (refl, refl, refl, refl)

-- such a block may be in the file several times
not_single_tests : (i k a n : ℕ) → ((i == a) && (k == 0)) ≡ false → ((i == a) && (k == 2)) ≡ false → ((i == n) && (k == 0)) ≡ false → ((i == n) && (k == 2)) ≡ false → (((i == a) || (i == n)) && ((k == 0) || (k == 2))) ≡ false
not_single_tests i k a n e f g h = grind (arith, nat_tests)

-- ---- one step of the search for a repetition

after_test : (t : Bool) (b : FileBlock) (rest : Option FileBlock) → t ≡ true → cond t (Some b) rest ≡ Some b
after_test t b rest h = ap (λ x. cond x (Some b) rest) h

past_test : (t : Bool) (b : FileBlock) (rest : Option FileBlock) → t ≡ false → cond t (Some b) rest ≡ rest
past_test t b rest h = ap (λ x. cond x (Some b) rest) h

-- one of the four that was seen before
pub repeats : (b : FileBlock) (place : ℕ) (blocks rest : List FileBlock) → single_place b ≡ Some place → slice_index_or (marks blocks) place false ≡ true → first_repeat blocks (b ∷ rest) ≡ Some b
repeats b place blocks rest h seen =
    let is = at_place b place h in
    after_test (is_once b && has b blocks) b _ (ap₂ (λ x y. x && y) is.single (sym (is.seen blocks) ∙ seen))

-- one of the four that wasn't seen before
pub first_time : (b : FileBlock) (place : ℕ) (blocks rest : List FileBlock) → single_place b ≡ Some place → slice_index_or (marks blocks) place false ≡ false → (set (marks blocks) place true ≡ marks (blocks ++ b ∷ [])) × (first_repeat blocks (b ∷ rest) ≡ first_repeat (blocks ++ b ∷ []) rest)
first_time b place blocks rest h seen =
    let is = at_place b place h in
    (is.more blocks, past_test (is_once b && has b blocks) b _ (ap₂ (λ x y. x && y) is.single (sym (is.seen blocks) ∙ seen)))

-- any other block
pub no_single : (b : FileBlock) (blocks rest : List FileBlock) → single_place b ≡ None → (marks blocks ≡ marks (blocks ++ b ∷ [])) × (first_repeat blocks (b ∷ rest) ≡ first_repeat (blocks ++ b ∷ []) rest)
no_single b blocks rest h =
    let no = no_tests _ _ _ _ h in
    let single = not_single_tests b.identifier b.kind activity_data identification no.0 no.1 no.2 no.3 in (
      sym (marks_more blocks b _ _ _ _ no.0 no.1 no.2 no.3 ∙ simp or_false),
      past_test (is_once b && has b blocks) b _ (ap (λ t. t && has b blocks) single),
    )
