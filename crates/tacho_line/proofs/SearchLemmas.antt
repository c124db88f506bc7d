-- What searches in a canonical list find.
use Rattle.std.proofs.Common.{◌≡◌, ℕ, zero, suc, ◌+◌, ◌<◌, ◌≤◌, nat_lt, nat_le, Bool, true, false, cond, List, [], ◌∷◌, length, take, drop, slice_index_or, slice_range, refl, sym, ap, ◌∙◌, arith}
use Rattle.std.proofs.lemmas.Bool.Decides.{nat_tests}
use Rattle.std.specs.List.Sorted.{IsPartitionPoint, IsPartitionedBy, IsNonDecreasingBy}
use Rattle.tacho_time.specs.declared.span.Span.{Span}
use Rattle.tacho_time.specs.Spans.{GoesOn, IsCanonical, StartsFrom}
use Rattle.tacho_time.proofs.CanonicalLemmas.{canonical_starts}
use Rattle.tacho_line.specs.Search.{front_of, rest_of, from_minute}

-- ---- starts increase along the list, and so do ends

-- each span of a list in order starts at its first minute or later
at_place : (n : ℕ) (xs : List Span) → StartsFrom n xs → (j : ℕ) (d : Span) → j < length xs → (n ≤ (slice_index_or xs j d).start) × ((slice_index_or xs j d).start < (slice_index_or xs j d).past)
at_place n [] h j d l = absurd (omega (arith, l))
at_place n (s ∷ ss) h zero d l = (h.0, h.1)
at_place n (s ∷ ss) h (suc j) d l = let more = at_place s.start ss h.2 j d (omega (arith, l)) in (omega (arith, h.0, more.0), more.1)

-- a span prepended to spans with larger values keeps the values increasing
rises : (f : Span → ℕ) (s : Span) (ss : List Span) → ((j : ℕ) (d : Span) → j < length ss → f s ≤ f (slice_index_or ss j d)) → IsNonDecreasingBy f ss → IsNonDecreasingBy f (s ∷ ss)
rises f s ss low up zero zero d a b = omega arith
rises f s ss low up zero (suc j) d a b = low j d (omega (arith, b))
rises f s ss low up (suc i) zero d a b = absurd (omega (arith, a))
rises f s ss low up (suc i) (suc j) d a b = up i j d (omega (arith, a)) (omega (arith, b))

pub starts_rise : (xs : List Span) → IsCanonical xs → IsNonDecreasingBy (λ s. s.start) xs
starts_rise [] h = λ i j d a b. absurd (omega (arith, b))
starts_rise (s ∷ ss) h =
    rises (λ x. x.start) s ss (λ j d l. let p = at_place s.past ss (canonical_starts s ss h) j d l in omega (arith, p.0, h.0)) (starts_rise ss h.2)

pub pasts_rise : (xs : List Span) → IsCanonical xs → IsNonDecreasingBy (λ s. s.past) xs
pasts_rise [] h = λ i j d a b. absurd (omega (arith, b))
pasts_rise (s ∷ ss) h =
    rises (λ x. x.past) s ss (λ j d l. let p = at_place s.past ss (canonical_starts s ss h) j d l in omega (arith, p.0, p.1)) (pasts_rise ss h.2)

-- in a list of increasing values, those below a limit come first
pub parted_below : (f : Span → ℕ) (xs : List Span) (m : ℕ) → IsNonDecreasingBy f xs → IsPartitionedBy (λ s. nat_lt (f s) m) xs
parted_below f xs m up i j d a b h = let l = up i j d a b in grind (arith, nat_tests)

pub parted_up_to : (f : Span → ℕ) (xs : List Span) (m : ℕ) → IsNonDecreasingBy f xs → IsPartitionedBy (λ s. nat_le (f s) m) xs
parted_up_to f xs m up i j d a b h = let l = up i j d a b in grind (arith, nat_tests)

-- ---- the partition point of a test

-- a partition point of a list, other than its start, gives one of the tail
tail_point : (p : Span → Bool) (s : Span) (ss : List Span) (i : ℕ) → IsPartitionPoint (λ y. p y ≡ true) (λ y. p y ≡ false) (s ∷ ss) (suc i) → IsPartitionPoint (λ y. p y ≡ true) (λ y. p y ≡ false) ss i
tail_point p s ss i h = ((λ k d a b. h.0 (suc k) d (omega arith) (omega (arith, b))), (λ k d a b. h.1 (suc k) d (omega (arith, a)) (omega (arith, b))))

pub point_front : (p : Span → Bool) (xs : List Span) (i : ℕ) → i ≤ length xs → IsPartitionPoint (λ y. p y ≡ true) (λ y. p y ≡ false) xs i → take i xs ≡ front_of p xs
point_front p [] zero l h = refl
point_front p [] (suc i) l h = absurd (omega (arith, l))
point_front p (s ∷ ss) zero l h = sym (ap (λ b. cond b (s ∷ front_of p ss) []) (h.1 0 s (omega arith) (omega arith)))
point_front p (s ∷ ss) (suc i) l h =
    ap (λ xs. s ∷ xs) (point_front p ss i (omega (arith, l)) (tail_point p s ss i h)) ∙ sym (ap (λ b. cond b (s ∷ front_of p ss) []) (h.0 0 s (omega arith) (omega arith)))

pub point_rest : (p : Span → Bool) (xs : List Span) (i : ℕ) → i ≤ length xs → IsPartitionPoint (λ y. p y ≡ true) (λ y. p y ≡ false) xs i → drop i xs ≡ rest_of p xs
point_rest p [] zero l h = refl
point_rest p [] (suc i) l h = absurd (omega (arith, l))
point_rest p (s ∷ ss) zero l h = sym (ap (λ b. cond b (rest_of p ss) (s ∷ ss)) (h.1 0 s (omega arith) (omega arith)))
point_rest p (s ∷ ss) (suc i) l h =
    point_rest p ss i (omega (arith, l)) (tail_point p s ss i h) ∙ sym (ap (λ b. cond b (rest_of p ss) (s ∷ ss)) (h.0 0 s (omega arith) (omega arith)))

-- ---- parts of a canonical list are canonical

pub rest_canonical : (p : Span → Bool) (xs : List Span) → IsCanonical xs → IsCanonical (rest_of p xs)
rest_canonical p [] h = tt
rest_canonical p (s ∷ ss) h = go (p s) (rest_canonical p ss h.2) where
  go : (b : Bool) → IsCanonical (rest_of p ss) → IsCanonical (cond b (rest_of p ss) (s ∷ ss))
  go true more = more
  go false more = h

front_goes_on : (p : Span → Bool) (s : Span) (ss : List Span) → GoesOn s ss → GoesOn s (front_of p ss)
front_goes_on p s [] h = tt
front_goes_on p s (t ∷ ts) h = go (p t) where
  go : (b : Bool) → GoesOn s (cond b (t ∷ front_of p ts) [])
  go true = h
  go false = tt

pub front_canonical : (p : Span → Bool) (xs : List Span) → IsCanonical xs → IsCanonical (front_of p xs)
front_canonical p [] h = tt
front_canonical p (s ∷ ss) h = go (p s) (front_canonical p ss h.2) where
  go : (b : Bool) → IsCanonical (front_of p ss) → IsCanonical (cond b (s ∷ front_of p ss) [])
  go true more = (h.0, front_goes_on p s ss h.1, more)
  go false more = tt

-- ---- lists by their first span

pub first_and_rest : (xs : List Span) (s : Span) → 1 ≤ length xs → s ≡ slice_index_or xs 0 s → xs ≡ s ∷ drop 1 xs
first_and_rest [] s l e = absurd (omega (arith, l))
first_and_rest (t ∷ ts) s l e = ap (λ x. x ∷ ts) (sym e)

pub no_first : (xs : List Span) → length xs < 1 → xs ≡ []
no_first [] l = refl
no_first (t ∷ ts) l = absurd (omega (arith, l))

-- ---- spans that end after a minute

-- the first span ends after the minute, and so do later ones
abbrev pub EndsAfter : ℕ → List Span → Type 0
EndsAfter m [] = Unit {0}
EndsAfter m (s ∷ ss) = m < s.past

pub after_ends : (m : ℕ) (xs : List Span) → EndsAfter m (from_minute m xs)
after_ends m [] = tt
after_ends m (s ∷ ss) = go (nat_le s.past m) refl (after_ends m ss) where
  go : (b : Bool) → nat_le s.past m ≡ b → EndsAfter m (from_minute m ss) → EndsAfter m (cond b (from_minute m ss) (s ∷ ss))
  go true e more = more
  go false e more = grind (arith, nat_tests)

pub next_ends : (s : Span) (ss : List Span) → IsCanonical (s ∷ ss) → EndsAfter s.past ss
next_ends s [] h = tt
next_ends s (t ∷ ts) h = omega (arith, h.1.0, h.2.0)

-- ---- a range of places

pub range_after : (xs : List Span) (i n : ℕ) → slice_range xs i (i + n) ≡ take n (drop i xs)
range_after xs i n = ap (λ (k : ℕ). take k (drop i xs)) (omega arith)
