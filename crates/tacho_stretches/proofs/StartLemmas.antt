-- The start of the next stretch.
use Rattle.std.proofs.Common.{◌≡◌, ℕ, suc, ◌+◌, ◌<◌, ◌≤◌, ◌⊎◌, inl, inr, List, [], ◌∷◌, Option, None, Some, sym, ap, subst, ◌∙◌, arith, drop, length, get_or, drop-cons, add-one}
use Rattle.tacho_time.specs.declared.span.Mark.{Mark}
use Rattle.tacho_time.specs.declared.span.Span.{Span}
use Rattle.tacho_time.specs.Spans.{IsCanonical}
use Rattle.tacho_time.proofs.CanonicalLemmas.{canonical_starts, lt_or_le}
use Rattle.tacho_line.specs.Line.{mark_at, IsSingle}
use Rattle.tacho_line.proofs.LineLemmas.{first_holds, rest_holds, none_before, canonical_from}
use Rattle.tacho_stretches.specs.Start.{IsStart, IsNextStart}

-- ---- one span, and the spans after it

-- a minute that isn't held isn't single
pub none_single : (o : Option Mark) → o ≡ None → IsSingle o → ⊥
none_single None e single = single
none_single (Some mark) e single = cc

-- a start in spans is a start in the first span, or in the others after it
split : (s : Span) (ss : List Span) (after m : ℕ) → IsCanonical (s ∷ ss) → IsStart (s ∷ ss) after m
    → IsStart (s ∷ []) after m ⊎ ((s.past ≤ m) × IsStart ss after m)
split s ss after m h is = go (lt_or_le m s.start) (lt_or_le m s.past) where
  go : (m < s.start) ⊎ (s.start ≤ m) → (m < s.past) ⊎ (s.past ≤ m)
      → IsStart (s ∷ []) after m ⊎ ((s.past ≤ m) × IsStart ss after m)
  go (inl l) q = absurd (none_single (mark_at (s ∷ ss) m)
      (none_before s.start (s ∷ ss) m (canonical_from s ss h) l) is.single)
  go (inr l) (inl q) = inl (record {
    later = is.later;
    monday = is.monday;
    single = subst IsSingle (first_holds s ss m l q ∙ sym (first_holds s [] m l q)) is.single;
  })
  go (inr l) (inr q) = inr (
    q,
    record {
      later = is.later;
      monday = is.monday;
      single = subst IsSingle (rest_holds s ss m q) is.single;
    },
  )

-- a start in one span is a minute of it
pub within : (s : Span) (after m : ℕ) → s.start < s.past → IsStart (s ∷ []) after m → (s.start ≤ m) × (m < s.past)
within s after m full is = go (lt_or_le m s.start) (lt_or_le m s.past) where
  go : (m < s.start) ⊎ (s.start ≤ m) → (m < s.past) ⊎ (s.past ≤ m) → (s.start ≤ m) × (m < s.past)
  go (inl l) q = absurd (none_single (mark_at (s ∷ []) m)
      (none_before s.start (s ∷ []) m (canonical_from s [] (full, tt, tt)) l) is.single)
  go (inr l) (inl q) = (l, q)
  go (inr l) (inr q) = absurd (none_single (mark_at (s ∷ []) m) (rest_holds s [] m q) is.single)

-- a start in the first span is a start in all
of_first : (s : Span) (ss : List Span) (after m : ℕ) → s.start < s.past → IsStart (s ∷ []) after m
    → IsStart (s ∷ ss) after m
of_first s ss after m full is =
    let w = within s after m full is in
    record {
      later = is.later;
      monday = is.monday;
      single = subst IsSingle (first_holds s [] m w.0 w.1 ∙ sym (first_holds s ss m w.0 w.1)) is.single;
    }

-- a start in the other spans is a start in all
of_rest : (s : Span) (ss : List Span) (after m : ℕ) → IsCanonical (s ∷ ss) → IsStart ss after m
    → IsStart (s ∷ ss) after m
of_rest s ss after m h is = go (lt_or_le m s.past) where
  go : (m < s.past) ⊎ (s.past ≤ m) → IsStart (s ∷ ss) after m
  go (inl q) = absurd (none_single (mark_at ss m) (none_before s.past ss m (canonical_starts s ss h) q) is.single)
  go (inr q) = record {
    later = is.later;
    monday = is.monday;
    single = subst IsSingle (sym (rest_holds s ss m q)) is.single;
  }

-- ---- the next start

-- if the first span has no start, the next start is that of the others
skipped : (s : Span) (ss : List Span) (after : ℕ) (r : Option ℕ) → IsCanonical (s ∷ ss)
    → IsNextStart (s ∷ []) after None → IsNextStart ss after r → IsNextStart (s ∷ ss) after r
skipped s ss after None h none is = λ m start. go m (split s ss after m h start) where
  go : (m : ℕ) → IsStart (s ∷ []) after m ⊎ ((s.past ≤ m) × IsStart ss after m) → ⊥
  go m (inl first) = none m first
  go m (inr rest) = is m rest.1
skipped s ss after (Some monday) h none is =
    (of_rest s ss after monday h is.0, λ m start. go m (split s ss after m h start)) where
      go : (m : ℕ) → IsStart (s ∷ []) after m ⊎ ((s.past ≤ m) × IsStart ss after m) → monday ≤ m
      go m (inl first) = absurd (none m first)
      go m (inr rest) = is.1 m rest.1

-- if the first span has a start, it is the next start
found : (s : Span) (ss : List Span) (after monday : ℕ) → IsCanonical (s ∷ ss)
    → IsNextStart (s ∷ []) after (Some monday) → IsNextStart (s ∷ ss) after (Some monday)
found s ss after monday h is =
    (of_first s ss after monday h.0 is.0, λ m start. go m (split s ss after m h start)) where
      go : (m : ℕ) → IsStart (s ∷ []) after m ⊎ ((s.past ≤ m) × IsStart ss after m) → monday ≤ m
      go m (inl first) = is.1 m first
      go m (inr rest) = let w = within s after monday h.0 is.0 in omega (arith, w.1, rest.0)

-- ---- the loop

-- the next start in the remaining spans is the next start in all
pub record IsLeft (spans : List Span) (after : ℕ) (left : List Span) : Type 0 where
  pub canonical : IsCanonical left
  pub next : (r : Option ℕ) → IsNextStart left after r → IsNextStart spans after r

pub left_all : (spans : List Span) (after : ℕ) → IsCanonical spans → IsLeft spans after spans
left_all spans after h = record { canonical = h; next = λ r is. is }

pub left_next : (spans : List Span) (after : ℕ) (s : Span) (ss : List Span) → IsLeft spans after (s ∷ ss)
    → IsNextStart (s ∷ []) after None → IsLeft spans after ss
left_next spans after s ss left none = record {
  canonical = left.canonical.2;
  next = λ r is. left.next r (skipped s ss after r left.canonical none is);
}

pub left_found : (spans : List Span) (after monday : ℕ) (s : Span) (ss : List Span) → IsLeft spans after (s ∷ ss)
    → IsNextStart (s ∷ []) after (Some monday) → IsNextStart spans after (Some monday)
left_found spans after monday s ss left is = left.next (Some monday) (found s ss after monday left.canonical is)

pub left_none : (spans : List Span) (after : ℕ) → IsLeft spans after [] → IsNextStart spans after None
left_none spans after left = left.next None (λ m start. start.single)

-- the remaining spans are the next one and those after it
pub next_of : (xs : List Span) (i : ℕ) (s : Span) → i < length xs → s ≡ get_or xs i s → drop i xs ≡ s ∷ drop (i + 1) xs
next_of xs i s l is = drop-cons xs i s l ∙ (rw (add-one) (ap (λ (x : Span). x ∷ drop (suc i) xs) (sym is)))
