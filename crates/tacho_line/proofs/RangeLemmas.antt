-- What passes over the spans of a range find.
use Rattle.std.proofs.Common.{◌≡◌, ℕ, ◌<◌, ◌≤◌, ◌⊎◌, inl, inr, nat_lt, nat_le, Bool, true, false, cond, List, [], ◌∷◌, ◌++◌, map, None, refl, sym, ◌∙◌, subst, arith}
use Rattle.std.proofs.lemmas.Bool.Decides.{nat_tests}
use Rattle.tacho_time.specs.declared.span.Span.{Span}
use Rattle.tacho_time.specs.declared.span.Mark.{Mark}
use Rattle.tacho_time.specs.Spans.{Covers, Gives, GoesOn, IsCanonical, IsCanonicalOf}
use Rattle.tacho_time.proofs.CanonicalLemmas.{lt_or_le}
use Rattle.tacho_line.specs.declared.gap.Gap.{Gap}
use Rattle.tacho_line.specs.Line.{mark_at, HoldsWithin, IsWithin, InGaps, BeginsAfter, AreGapsApart, AreGaps}
use Rattle.tacho_line.specs.Search.{from_minute, before, overlap}
use Rattle.tacho_line.specs.Walk.{gap_between, gaps_from, later_of, earlier_of, cut_to}
use Rattle.tacho_line.proofs.SearchLemmas.{rest_canonical, front_canonical, EndsAfter, after_ends, next_ends}
use Rattle.tacho_line.proofs.LineLemmas.{first_holds, rest_holds, none_before, canonical_from, overlap_holds, held_given, given_held}

-- ---- spans that overlap a range

-- each span overlaps the range, if the range isn't empty
abbrev pub Meet : ℕ → ℕ → List Span → Type 0
Meet start past [] = Unit {0}
Meet start past (s ∷ ss) = (start < s.past) × (s.start < past) × Meet start past ss

-- spans that overlap a range also overlap one that starts earlier
meet_less : (a b past : ℕ) (xs : List Span) → a ≤ b → Meet b past xs → Meet a past xs
meet_less a b past [] l h = tt
meet_less a b past (s ∷ ss) l h = (omega (arith, l, h.0), h.1, meet_less a b past ss l h.2)

-- spans that overlap a range also overlap one that starts later, if the first span does
meet_again : (a b past : ℕ) (xs : List Span) → IsCanonical xs → EndsAfter b xs → Meet a past xs → Meet b past xs
meet_again a b past [] h e w = tt
meet_again a b past (s ∷ ss) h e w = (e, w.1, meet_less b s.past past ss (omega (arith, e)) (meet_again a s.past past ss h.2 (next_ends s ss h) w.2))

-- spans after the first one overlap the range after it
next_meet : (s : Span) (past : ℕ) (ss : List Span) (a : ℕ) → IsCanonical (s ∷ ss) → Meet a past ss → Meet s.past past ss
next_meet s past ss a h e = meet_again a s.past past ss h.2 (next_ends s ss h) e

meet_ends : (start past : ℕ) (xs : List Span) → Meet start past xs → EndsAfter start xs
meet_ends start past [] h = tt
meet_ends start past (s ∷ ss) h = h.0

before_meet : (start past : ℕ) (xs : List Span) → IsCanonical xs → EndsAfter start xs → Meet start past (before past xs)
before_meet start past [] h e = tt
before_meet start past (s ∷ ss) h e = go (nat_lt s.start past) refl (before_meet s.past past ss h.2 (next_ends s ss h)) where
  go : (b : Bool) → nat_lt s.start past ≡ b → Meet s.past past (before past ss) → Meet start past (cond b (s ∷ before past ss) [])
  go true t more = (e, grind (arith, nat_tests), meet_less start s.past past (before past ss) (omega (arith, e)) more)
  go false t more = tt

pub overlap_meet : (xs : List Span) (start past : ℕ) → IsCanonical xs → Meet start past (overlap xs start past)
overlap_meet xs start past h = before_meet start past (from_minute start xs) (rest_canonical (λ s. nat_le s.past start) xs h) (after_ends start xs)

pub overlap_canonical : (xs : List Span) (start past : ℕ) → IsCanonical xs → IsCanonical (overlap xs start past)
overlap_canonical xs start past h = front_canonical (λ s. nat_lt s.start past) (from_minute start xs) (rest_canonical (λ s. nat_le s.past start) xs h)

-- ---- slices

pub later_facts : (a b : ℕ) → (a ≤ later_of a b) × (b ≤ later_of a b)
later_facts a b = (grind (arith, nat_tests), grind (arith, nat_tests))

pub later_least : (a b m : ℕ) → a ≤ m → b ≤ m → later_of a b ≤ m
later_least a b m h l = grind (arith, nat_tests)

pub later_below : (a b m : ℕ) → a < m → b < m → later_of a b < m
later_below a b m h l = grind (arith, nat_tests)

earlier_facts : (a b : ℕ) → (earlier_of a b ≤ a) × (earlier_of a b ≤ b)
earlier_facts a b = (grind (arith, nat_tests), grind (arith, nat_tests))

earlier_above : (a b m : ℕ) → m < a → m < b → m < earlier_of a b
earlier_above a b m h l = grind (arith, nat_tests)

-- a span, cut to a range, covers the minutes of the range that the span covers
cut_covers : (start past : ℕ) (s : Span) (m : ℕ) → Covers (cut_to start past s) m → Covers s m × IsWithin start past m
cut_covers start past s m c =
    let a = later_facts s.start start in
    let b = earlier_facts s.past past in
    ((omega (arith, a.0, c.0), omega (arith, b.0, c.1)), (omega (arith, a.1, c.0), omega (arith, b.1, c.1)))

covers_cut : (start past : ℕ) (s : Span) (m : ℕ) → Covers s m → IsWithin start past m → Covers (cut_to start past s) m
covers_cut start past s m c w = (later_least s.start start m c.0 w.0, earlier_above s.past past m c.1 w.1)

pub cuts_give : (start past : ℕ) (xs : List Span) (m : ℕ) (k : Mark) → Gives (map (cut_to start past) xs) m k → IsWithin start past m × Gives xs m k
cuts_give start past [] m k g = absurd g
cuts_give start past (s ∷ ss) m k (inl c) = let d = cut_covers start past s m c.0 in (d.1, inl (d.0, c.1))
cuts_give start past (s ∷ ss) m k (inr g) = let d = cuts_give start past ss m k g in (d.0, inr d.1)

pub gives_cuts : (start past : ℕ) (xs : List Span) (m : ℕ) (k : Mark) → IsWithin start past m → Gives xs m k → Gives (map (cut_to start past) xs) m k
gives_cuts start past [] m k w g = absurd g
gives_cuts start past (s ∷ ss) m k w (inl c) = inl (covers_cut start past s m c.0 w, c.1)
gives_cuts start past (s ∷ ss) m k w (inr g) = inr (gives_cuts start past ss m k w g)

cut_goes_on : (start past : ℕ) (s : Span) (ss : List Span) → GoesOn s ss → GoesOn (cut_to start past s) (map (cut_to start past) ss)
cut_goes_on start past s [] h = tt
cut_goes_on start past s (t ∷ ts) h =
    let a = (earlier_facts s.past past).0 in
    let b = (later_facts t.start start).0 in
    (omega (arith, a, b, h.0), λ e. h.1 (omega (arith, a, b, h.0, e)))

cuts_canonical : (start past : ℕ) (xs : List Span) → start < past → IsCanonical xs → Meet start past xs → IsCanonical (map (cut_to start past) xs)
cuts_canonical start past [] l h e = tt
cuts_canonical start past (s ∷ ss) l h e =
    (earlier_above s.past past _ (later_below s.start start s.past h.0 e.0) (later_below s.start start past e.1 l), cut_goes_on start past s ss h.1, cuts_canonical start past ss l h.2 e.2)

pub slice_is : (xs : List Span) (start past : ℕ) → IsCanonical xs → start < past → IsCanonicalOf (HoldsWithin xs start past) (map (cut_to start past) (overlap xs start past))
slice_is xs start past h l =
    let met = overlap xs start past in
    let known = overlap_canonical xs start past h in
    let same : (m : ℕ) (k : Mark) → IsWithin start past m → mark_at met m ≡ mark_at xs m = λ m k w. overlap_holds xs start past m h w in
    record {
      canonical = cuts_canonical start past met l known (overlap_meet xs start past h);
      same = (λ m k. (
        (λ g. let d = cuts_give start past met m k g in (d.0, sym (same m k d.0) ∙ given_held met m k known d.1)),
        (λ w. gives_cuts start past met m k w.0 (held_given met m k (same m k w.0 ∙ w.1))),
      ));
    }

-- ---- gaps

-- no gap begins before minute m
abbrev GapsFrom : ℕ → List Gap → Type 0
GapsFrom m [] = Unit {0}
GapsFrom m (g ∷ gaps) = m ≤ g.start

gaps_start : (m past : ℕ) (xs : List Span) → IsCanonical xs → EndsAfter m xs → GapsFrom m (gaps_from m past xs)
gaps_start m past [] h e = go (nat_lt m past) where
  go : (b : Bool) → GapsFrom m (cond b (record { start = m; past = past } ∷ []) [])
  go true = omega arith
  go false = tt
gaps_start m past (s ∷ ss) h e = go (nat_lt m s.start) (gaps_from s.past past ss) (gaps_start s.past past ss h.2 (next_ends s ss h)) where
  later_gaps : (gaps : List Gap) → GapsFrom s.past gaps → GapsFrom m gaps
  later_gaps [] g = tt
  later_gaps (g ∷ gaps) l = omega (arith, e, l)

  go : (b : Bool) (gaps : List Gap) → GapsFrom s.past gaps → GapsFrom m (cond b (record { start = m; past = s.start } ∷ []) [] ++ gaps)
  go true gaps g = omega arith
  go false gaps g = later_gaps gaps g

-- a gap that ends at a span, before gaps after that span
begins_after : (m : ℕ) (s : Span) (gaps : List Gap) → s.start < s.past → GapsFrom s.past gaps → BeginsAfter (record { start = m; past = s.start }) gaps
begins_after m s [] h g = tt
begins_after m s (next ∷ gaps) h g = omega (arith, h, g)

pub gaps_apart : (m past : ℕ) (xs : List Span) → IsCanonical xs → EndsAfter m xs → AreGapsApart (gaps_from m past xs)
gaps_apart m past [] h e = go (nat_lt m past) refl where
  go : (b : Bool) → nat_lt m past ≡ b → AreGapsApart (cond b (record { start = m; past = past } ∷ []) [])
  go true t = (grind (arith, nat_tests), tt, tt)
  go false t = tt
gaps_apart m past (s ∷ ss) h e = go (nat_lt m s.start) refl (gaps_from s.past past ss) (gaps_start s.past past ss h.2 (next_ends s ss h)) (gaps_apart s.past past ss h.2 (next_ends s ss h)) where
  go : (b : Bool) → nat_lt m s.start ≡ b → (gaps : List Gap) → GapsFrom s.past gaps → AreGapsApart gaps → AreGapsApart (cond b (record { start = m; past = s.start } ∷ []) [] ++ gaps)
  go true t gaps g more = (grind (arith, nat_tests), begins_after m s gaps h.0 g, more)
  go false t gaps g more = more

-- a minute of a list of gaps is in its first gap or in the others
in_between : (a b m : ℕ) (gaps : List Gap) → InGaps (gap_between a b ++ gaps) m → IsWithin a b m ⊎ InGaps gaps m
in_between a b m gaps = go (nat_lt a b) where
  go : (t : Bool) → InGaps (cond t (record { start = a; past = b } ∷ []) [] ++ gaps) m → IsWithin a b m ⊎ InGaps gaps m
  go true h = h
  go false h = inr h

between_in : (a b m : ℕ) (gaps : List Gap) → IsWithin a b m ⊎ InGaps gaps m → InGaps (gap_between a b ++ gaps) m
between_in a b m gaps = go (nat_lt a b) refl where
  go : (t : Bool) → nat_lt a b ≡ t → IsWithin a b m ⊎ InGaps gaps m → InGaps (cond t (record { start = a; past = b } ∷ []) [] ++ gaps) m
  go true e h = h
  go false e (inl w) = let l : b ≤ a = grind (arith, nat_tests) in absurd (omega (arith, l, w.0, w.1))
  go false e (inr h) = h

last_gap : (a b m : ℕ) → InGaps (gap_between a b) m → IsWithin a b m
last_gap a b m = go (nat_lt a b) where
  go : (t : Bool) → InGaps (cond t (record { start = a; past = b } ∷ []) []) m → IsWithin a b m
  go true (inl w) = w
  go true (inr h) = absurd h
  go false h = absurd h

gap_last : (a b m : ℕ) → IsWithin a b m → InGaps (gap_between a b) m
gap_last a b m w = go (nat_lt a b) refl where
  go : (t : Bool) → nat_lt a b ≡ t → InGaps (cond t (record { start = a; past = b } ∷ []) []) m
  go true e = inl w
  go false e = let l : b ≤ a = grind (arith, nat_tests) in absurd (omega (arith, l, w.0, w.1))

-- the spans don't hold any minute of the gaps
pub gaps_lack : (m past : ℕ) (xs : List Span) → IsCanonical xs → Meet m past xs → (n : ℕ) → InGaps (gaps_from m past xs) n → IsWithin m past n × (mark_at xs n ≡ None)
gaps_lack m past [] h e n g = (last_gap m past n g, refl)
gaps_lack m past (s ∷ ss) h e n g = go (in_between m s.start n (gaps_from s.past past ss) g) (gaps_lack s.past past ss h.2 (next_meet s past ss m h e.2) n) where
  go : IsWithin m s.start n ⊎ InGaps (gaps_from s.past past ss) n → (InGaps (gaps_from s.past past ss) n → IsWithin s.past past n × (mark_at ss n ≡ None)) → IsWithin m past n × (mark_at (s ∷ ss) n ≡ None)
  go (inl w) more = ((w.0, omega (arith, w.1, e.1)), none_before s.start (s ∷ ss) n (canonical_from s ss h) w.1)
  go (inr i) more = let d = more i in ((omega (arith, e.0, d.0.0), d.0.1), rest_holds s ss n d.0.0 ∙ d.1)

-- each minute that the spans don't hold is in a gap
pub lack_gaps : (m past : ℕ) (xs : List Span) → (n : ℕ) → IsWithin m past n → mark_at xs n ≡ None → InGaps (gaps_from m past xs) n
lack_gaps m past [] n w e = gap_last m past n w
lack_gaps m past (s ∷ ss) n w e = between_in m s.start n (gaps_from s.past past ss) (go (lt_or_le n s.start) (lt_or_le n s.past) (lack_gaps s.past past ss n)) where
  go : (n < s.start) ⊎ (s.start ≤ n) → (n < s.past) ⊎ (s.past ≤ n) → (IsWithin s.past past n → mark_at ss n ≡ None → InGaps (gaps_from s.past past ss) n) → IsWithin m s.start n ⊎ InGaps (gaps_from s.past past ss) n
  go (inl l) y more = inl (w.0, l)
  go (inr l) (inl x) more = let held = first_holds s ss n l x in cc
  go (inr l) (inr x) more = inr (more (x, w.1) (sym (rest_holds s ss n x) ∙ e))

pub gaps_are : (xs : List Span) (start past : ℕ) (gaps : List Gap) → IsCanonical xs → gaps ≡ gaps_from start past (overlap xs start past) → AreGaps xs start past gaps
gaps_are xs start past gaps h e =
    let met = overlap xs start past in
    let known = overlap_canonical xs start past h in
    let meet = overlap_meet xs start past h in
    subst (λ (g : List Gap). AreGaps xs start past g) (sym e) (record {
      apart = gaps_apart start past met known (meet_ends start past met meet);
      lacking = (λ m. (
        (λ i. let d = gaps_lack start past met known meet m i in (d.0, sym (overlap_holds xs start past m h d.0) ∙ d.1)),
        (λ w. lack_gaps start past met m w.0 (overlap_holds xs start past m h w.0 ∙ w.1)),
      ));
    })
