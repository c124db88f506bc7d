-- What the rows read near a range give there is what the driver's rows give there.
use Rattle.std.proofs.Common.{◌≡◌, ℕ, suc, ◌⊎◌, inl, inr, List, [], ◌∷◌, Some, map, filter, refl, sym, subst, arith}
use Rattle.std.specs.List.{Contains}
use Rattle.std.specs.List.Sorted.{IsPermutation}
use Rattle.std.proofs.lemmas.List.Sorted.{IsPermutation-sym, IsPermutation-map, Contains-permutation}
use Rattle.tacho_time.specs.declared.span.Span.{Span}
use Rattle.tacho_time.specs.declared.span.Mark.{Mark}
use Rattle.tacho_time.specs.Spans.{Covers, Gives, IsCanonicalOf}
use Rattle.tacho_state.specs.Disjoint.{GiveExactly, near}
use Rattle.tacho_state.specs.State.{Driver, State, IsDownloaded, Held, driver_of}
use Rattle.tacho_tables.specs.declared.rows.StoredSpan.{StoredSpan}
use Rattle.tacho_tables.specs.Rows.{SpanRow}
use Rattle.tacho_tables.specs.Tables.{Tables, is_row_near, span_of}
use Rattle.tacho_reading.specs.Standing.{TablesRepresent, spans_of, stored_span, IsReadNear}
use Rattle.tacho_reading.proofs.RowLemmas.{near_spans}
use Rattle.tacho_reading.proofs.PassingLemmas.{first_or_rest, none_there}
use Rattle.tacho_state.proofs.PutLemmas.{found_number}
use Rattle.tacho_reading.proofs.StateLemmas.{found_of}

-- a pair that a list of spans gives is given by one of them
giver : (xs : List Span) (m : ℕ) (k : Mark) → Gives xs m k → (s : Span) × Contains xs s × Covers s m × (s.mark ≡ k)
giver [] m k g = absurd g
giver (s ∷ ss) m k (inl c) = (s, (0, omega arith, refl), c.0, c.1)
giver (s ∷ ss) m k (inr g) =
    let it = giver ss m k g in
    let l = it.1.1 in
    (it.0, (suc it.1.0, omega (arith, l), it.1.2), it.2, it.3)

-- a pair that one of the spans gives is given by the list
given_by : (xs : List Span) (m : ℕ) (k : Mark) (s : Span) → Contains xs s → Covers s m → s.mark ≡ k → Gives xs m k
given_by [] m k s h c e = absurd (none_there s h)
given_by (x ∷ xs) m k s h c e = go (first_or_rest x s xs h) (λ w. given_by xs m k s w c e) where
  go : (x ≡ s) ⊎ Contains xs s → (Contains xs s → Gives xs m k) → Gives (x ∷ xs) m k
  go (inl f) more = inl (subst (λ (y : Span). Covers y m × (y.mark ≡ k)) (sym f) (c, e))
  go (inr f) more = inr (more f)

-- spans in another order give the same pairs
pub permuted_gives : (xs ys : List Span) (m : ℕ) (k : Mark) → IsPermutation xs ys → Gives xs m k → Gives ys m k
permuted_gives xs ys m k p g =
    let it = giver xs m k g in
    given_by ys m k it.0 (Contains-permutation xs ys it.0 p it.1) it.2 it.3

-- the line of what was read near a range is that of the driver's spans there
pub read_line : (rows : List SpanRow) (n a b : ℕ) (found : List StoredSpan) (line : List Span) → IsReadNear rows n a b found
    → IsCanonicalOf (Gives (map stored_span found)) line
    → IsCanonicalOf (Gives (near a b (spans_of n rows))) line
read_line rows n a b found line p h =
    let read : IsPermutation (near a b (spans_of n rows)) (map stored_span found) =
    subst (λ (x : List Span). IsPermutation x (map stored_span found)) (near_spans n a b rows)
    (IsPermutation-map stored_span (map span_of (filter (is_row_near n a b) rows)) found p)
    in
    record {
      canonical = h.canonical;
      same = λ m k. (
        λ g. permuted_gives (map stored_span found) (near a b (spans_of n rows)) m k
            (IsPermutation-sym (near a b (spans_of n rows)) (map stored_span found) read) ((h.same m k).0 g),
        λ g. (h.same m k).1 (permuted_gives (near a b (spans_of n rows)) (map stored_span found) m k read g),
      );
    }

-- a driver's card spans keep what the driver is given
pub card_kept : (t : Tables) (s : State) (n : ℕ) (d : Driver) → TablesRepresent t s → driver_of n s ≡ Some d
    → GiveExactly (spans_of n t.card_spans) (IsDownloaded d)
card_kept t s n d h k = subst (λ (j : ℕ). GiveExactly (spans_of j t.card_spans) (IsDownloaded d)) (found_number n s d k)
    (found_of t n s d k h.each).card_spans

-- a driver's held rows keep what the driver holds
pub held_kept : (t : Tables) (s : State) (n : ℕ) (d : Driver) → TablesRepresent t s → driver_of n s ≡ Some d → GiveExactly (spans_of n t.held) (Held d)
held_kept t s n d h k = subst (λ (j : ℕ). GiveExactly (spans_of j t.held) (Held d)) (found_number n s d k) (found_of t n s d k h.each).held
