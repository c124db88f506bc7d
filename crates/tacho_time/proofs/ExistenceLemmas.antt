-- Spans in any order have a canonical list, or a first minute with two marks.
use Rattle.std.proofs.Common.{◌≡◌, ℕ, ◌<◌, ◌≤◌, ◌⊎◌, inl, inr, nat_le, Bool, true, false, cond, List, [], ◌∷◌, Result, Ok, Err, refl, arith}
use Rattle.std.proofs.lemmas.Bool.Decides.{nat_tests}
use Rattle.tacho_time.specs.declared.span.Span.{Span}
use Rattle.tacho_time.specs.declared.canonical.SpanFault.TheVariants.{Contradiction}
use Rattle.tacho_time.specs.Spans.{Gives, GiveSame, IsCanonicalOf, IsFirstConflict, StartsFrom}
use Rattle.tacho_time.specs.Merge.{merge_spans, IsMerged, is_full}
use Rattle.tacho_time.proofs.CanonicalLemmas.{same_trans, same_following, merged_means, moved_result}

-- inserts a span at its place among spans in order
abbrev put : Span → List Span → List Span
put s [] = s ∷ []
put s (t ∷ ts) = cond (nat_le s.start t.start) (s ∷ t ∷ ts) (t ∷ put s ts)

-- inserting keeps them in order
put_starts : (n : ℕ) (s : Span) (ts : List Span) → n ≤ s.start → s.start < s.past → StartsFrom n ts → StartsFrom n (put s ts)
put_starts n s [] l full h = (l, full, tt)
put_starts n s (t ∷ ts) l full h = go (nat_le s.start t.start) refl (λ k. put_starts t.start s ts k full h.2) where
  go : (b : Bool) → nat_le s.start t.start ≡ b → (t.start ≤ s.start → StartsFrom t.start (put s ts)) → StartsFrom n (cond b (s ∷ t ∷ ts) (t ∷ put s ts))
  go true e more = (l, full, (grind (arith, nat_tests), h.1, h.2))
  go false e more = (h.0, h.1, more (grind (arith, nat_tests)))

-- two spans give the same in either order
swapped_same : (s t : Span) (ts : List Span) → GiveSame (t ∷ s ∷ ts) (s ∷ t ∷ ts)
swapped_same s t ts m k = (swap, swap) where
  swap : {P Q R : Type 0} → P ⊎ (Q ⊎ R) → Q ⊎ (P ⊎ R)
  swap (inl p) = inr (inl p)
  swap (inr (inl q)) = inl q
  swap (inr (inr r)) = inr (inr r)

-- inserting a span gives the same as prepending it
put_same : (s : Span) (ts : List Span) → GiveSame (put s ts) (s ∷ ts)
put_same s [] = λ m k. (λ g. g, λ g. g)
put_same s (t ∷ ts) = go (nat_le s.start t.start) (put_same s ts) where
  go : (b : Bool) → GiveSame (put s ts) (s ∷ ts) → GiveSame (cond b (s ∷ t ∷ ts) (t ∷ put s ts)) (s ∷ t ∷ ts)
  go true rest = λ m k. (λ g. g, λ g. g)
  go false rest = same_trans (t ∷ put s ts) (t ∷ s ∷ ts) (s ∷ t ∷ ts) (same_following t (put s ts) (s ∷ ts) rest) (swapped_same s t ts)

-- prepending an empty span changes nothing
empty_same : (s : Span) (ss : List Span) → is_full s ≡ false → GiveSame ss (s ∷ ss)
empty_same s ss e m k = (λ g. inr g, back) where
  back : Gives (s ∷ ss) m k → Gives ss m k
  back (inl c) = let l : s.past ≤ s.start = grind (arith, nat_tests) in absurd (omega (arith, l, c.0.0, c.0.1))
  back (inr g) = g

-- for any spans, there are spans in order that give the same
ordered : (spans : List Span) → (xs : List Span) × StartsFrom 0 xs × GiveSame xs spans
ordered [] = ([], tt, λ m k. (λ g. g, λ g. g))
ordered (s ∷ ss) = go (is_full s) refl (ordered ss) where
  go : (b : Bool) → is_full s ≡ b → (xs : List Span) × StartsFrom 0 xs × GiveSame xs ss → (xs : List Span) × StartsFrom 0 xs × GiveSame xs (s ∷ ss)
  go true e rest = (
    put s rest.0,
    put_starts 0 s rest.0 (omega arith) (grind (arith, nat_tests)) rest.1,
    same_trans (put s rest.0) (s ∷ rest.0) (s ∷ ss) (put_same s rest.0) (same_following s rest.0 ss rest.2),
  )
  go false e rest = (rest.0, rest.1, same_trans rest.0 ss (s ∷ ss) rest.2 (empty_same s ss e))

-- spans have a canonical list, or a first minute with two marks
pub list_or_conflict : (spans : List Span) → ((runs : List Span) × IsCanonicalOf (Gives spans) runs) ⊎ ((m : ℕ) × IsFirstConflict (Gives spans) m)
list_or_conflict spans = go (merge_spans in_order.0) (merged_means in_order.0 in_order.1) where
  in_order : (xs : List Span) × StartsFrom 0 xs × GiveSame xs spans
  in_order = ordered spans

  go : (r : Result (List Span) ℕ) → IsMerged in_order.0 r → ((runs : List Span) × IsCanonicalOf (Gives spans) runs) ⊎ ((m : ℕ) × IsFirstConflict (Gives spans) m)
  go (Ok runs) h = inl (runs, moved_result (λ xs. xs) spans in_order.0 (Ok runs) in_order.2 h)
  go (Err m) h = inr (m, moved_result (λ xs. xs) spans in_order.0 (Err (Contradiction m)) in_order.2 h)
