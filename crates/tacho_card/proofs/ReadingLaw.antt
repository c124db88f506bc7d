-- Data have at most one reading.
use Rattle.std.proofs.Common.{◌≡◌, ℕ, ◌<◌, ◌≤◌, ◌⊎◌, inl, inr, List, [], ◌∷◌, Option, None, Some, Result, Ok, Err, sym, ap, ◌∙◌, arith}
use Rattle.tacho_time.specs.declared.span.Span.{Span}
use Rattle.tacho_time.specs.declared.span.Mark.{Mark}
use Rattle.tacho_time.specs.Spans.{Gives, IsCanonical, IsCanonicalOf, Conflicts, IsFirstConflict}
use Rattle.tacho_time.proofs.CanonicalLemmas.{later, lt_or_le, canonical_starts, one_list}
use Rattle.tacho_card.specs.declared.fault.CardFault.{CardFault}
use Rattle.tacho_card.specs.declared.fault.CardFault.TheVariants.{SelfContradiction}
use Rattle.tacho_card.specs.DriverActivity.{DriverActivity}
use Rattle.tacho_card.specs.Reading.{ActivitiesGive, IsReading}

-- a canonical list gives each minute at most one mark
one_mark : (xs : List Span) → IsCanonical xs → (m : ℕ) (a b : Mark) → Gives xs m a → Gives xs m b → a ≡ b
one_mark [] h m a b x y = absurd x
one_mark (s ∷ ss) h m a b (inl x) (inl y) = sym x.1 ∙ y.1
one_mark (s ∷ ss) h m a b (inl x) (inr y) = let l = later s.past ss m b (canonical_starts s ss h) y in absurd (omega (arith, l, x.0.1))
one_mark (s ∷ ss) h m a b (inr x) (inl y) = let l = later s.past ss m a (canonical_starts s ss h) x in absurd (omega (arith, l, y.0.1))
one_mark (s ∷ ss) h m a b (inr x) (inr y) = one_mark ss h.2 m a b x y

-- so a set of pairs with a canonical list has no minute with two marks
no_conflict : (P : ℕ → Mark → Type 0) (xs : List Span) (m : ℕ) → IsCanonicalOf P xs → Conflicts P m → ⊥
no_conflict P xs m h c = c.4 (one_mark xs h.canonical m c.0 c.1 ((h.same m c.0).1 c.2) ((h.same m c.1).1 c.3))

-- and it has at most one canonical list
same_list : (P : ℕ → Mark → Type 0) (xs ys : List Span) → IsCanonicalOf P xs → IsCanonicalOf P ys → xs ≡ ys
same_list P xs ys h k =
    one_list xs ys h.canonical k.canonical (λ m mark. (λ g. (k.same m mark).1 ((h.same m mark).0 g), λ g. (h.same m mark).1 ((k.same m mark).0 g)))

-- the least minute with two marks is at most any other such minute
no_earlier : (P : ℕ → Mark → Type 0) (m n : ℕ) → IsFirstConflict P m → IsFirstConflict P n → m ≤ n
no_earlier P m n h k = go (lt_or_le n m) where
  go : (n < m) ⊎ (m ≤ n) → m ≤ n
  go (inl l) = absurd (h.1 n l k.0)
  go (inr l) = l

-- so two least minutes with two marks are equal
same_conflict : (P : ℕ → Mark → Type 0) (m n : ℕ) → IsFirstConflict P m → IsFirstConflict P n → m ≡ n
same_conflict P m n h k =
    let a = no_earlier P m n h k in
    let b = no_earlier P n m k h in
    omega (arith, a, b)

-- the chains have one first fault
same_fault : (a b : CardFault) (r : Option CardFault) → r ≡ Some a → r ≡ Some b → a ≡ b
same_fault a b r h k = cc

-- the chains can't both have a fault and have none
no_fault : (a : CardFault) (r : Option CardFault) → r ≡ Some a → r ≡ None → ⊥
no_fault a r h k = cc

-- data have at most one reading
pub one_of_data : (activities : List DriverActivity) (a b : Result (List Span) CardFault) → IsReading activities a → IsReading activities b → a ≡ b
one_of_data activities (Ok xs) (Ok ys) h k = ap (λ l. Ok l) (same_list (ActivitiesGive activities) xs ys h.1 k.1)
one_of_data activities (Ok xs) (Err b) h (inl k) = absurd (no_fault b _ k h.0)
one_of_data activities (Ok xs) (Err b) h (inr k) = absurd (no_conflict (ActivitiesGive activities) xs k.1.0 h.1 k.1.2.0)
one_of_data activities (Err a) (Ok ys) (inl h) k = absurd (no_fault a _ h k.0)
one_of_data activities (Err a) (Ok ys) (inr h) k = absurd (no_conflict (ActivitiesGive activities) ys h.1.0 k.1 h.1.2.0)
one_of_data activities (Err a) (Err b) (inl h) (inl k) = ap (λ f. Err f) (same_fault a b _ h k)
one_of_data activities (Err a) (Err b) (inl h) (inr k) = absurd (no_fault a _ h k.0)
one_of_data activities (Err a) (Err b) (inr h) (inl k) = absurd (no_fault b _ k h.0)
one_of_data activities (Err a) (Err b) (inr h) (inr k) =
    let e = same_conflict (ActivitiesGive activities) h.1.0 k.1.0 h.1.2 k.1.2 in
    ap (λ f. Err f) (h.1.1 ∙ ap (λ m. SelfContradiction m) e ∙ sym k.1.1)
