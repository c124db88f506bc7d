-- The mark that a canonical list gives a minute.
use Rattle.std.proofs.Common.{◌≡◌, ℕ, ◌<◌, ◌≤◌, inl, inr, ◌↔◌, ◌&&◌, nat_lt, nat_le, Bool, true, false, cond, List, [], ◌∷◌, Some, None, refl, sym, ap, ◌∙◌, subst, arith}
use Rattle.std.proofs.lemmas.Bool.Decides.{nat_tests}
use Rattle.tacho_time.specs.declared.span.Span.{Span}
use Rattle.tacho_time.specs.declared.span.Mark.{Mark}
use Rattle.tacho_time.specs.Spans.{Gives, IsCanonical, StartsFrom}
use Rattle.tacho_time.proofs.CanonicalLemmas.{later, starts_lower, canonical_starts}
use Rattle.tacho_line.specs.Line.{covers, mark_at, Holds, IsWithin}
use Rattle.tacho_line.specs.Search.{from_minute, before, overlap}
use Rattle.tacho_line.proofs.SearchLemmas.{rest_canonical}

-- ---- one span

within_test : (a b m : ℕ) → a ≤ m → m < b → nat_le a m && nat_lt m b ≡ true
within_test a b m h l = grind (arith, nat_tests)

over_test : (a b m : ℕ) → b ≤ m → nat_le a m && nat_lt m b ≡ false
over_test a b m h = go (nat_le a m) where
  go : (t : Bool) → t && nat_lt m b ≡ false
  go true = grind (arith, nat_tests)
  go false = refl

under_test : (a b m : ℕ) → m < a → nat_le a m && nat_lt m b ≡ false
under_test a b m h = grind (arith, nat_tests)

test_within : (a b m : ℕ) → nat_le a m && nat_lt m b ≡ true → (a ≤ m) × (m < b)
test_within a b m h = (grind (arith, nat_tests), grind (arith, nat_tests))

-- a minute of the first span
pub first_holds : (s : Span) (ss : List Span) (m : ℕ) → s.start ≤ m → m < s.past → mark_at (s ∷ ss) m ≡ Some s.mark
first_holds s ss m h l = ap (λ b. cond b (Some s.mark) (mark_at ss m)) (within_test s.start s.past m h l)

-- a minute after the first span
pub rest_holds : (s : Span) (ss : List Span) (m : ℕ) → s.past ≤ m → mark_at (s ∷ ss) m ≡ mark_at ss m
rest_holds s ss m h = ap (λ b. cond b (Some s.mark) (mark_at ss m)) (over_test s.start s.past m h)

-- a minute before the first span
before_first : (s : Span) (ss : List Span) (m : ℕ) → m < s.start → mark_at (s ∷ ss) m ≡ mark_at ss m
before_first s ss m h = ap (λ b. cond b (Some s.mark) (mark_at ss m)) (under_test s.start s.past m h)

-- no minute before the first start is held
pub none_before : (n : ℕ) (xs : List Span) (m : ℕ) → StartsFrom n xs → m < n → mark_at xs m ≡ None
none_before n [] m h l = refl
none_before n (s ∷ ss) m h l = before_first s ss m (omega (arith, h.0, l)) ∙ none_before s.start ss m h.2 (omega (arith, h.0, l))

pub canonical_from : (s : Span) (ss : List Span) → IsCanonical (s ∷ ss) → StartsFrom s.start (s ∷ ss)
canonical_from s ss h = (omega arith, h.0, starts_lower s.start s.past ss (omega (arith, h.0)) (canonical_starts s ss h))

-- ---- what a line holds is what its spans give

pub held_given : (xs : List Span) (m : ℕ) (k : Mark) → Holds xs m k → Gives xs m k
held_given [] m k h = cc
held_given (s ∷ ss) m k h = go (covers s m) refl h (held_given ss m k) where
  go : (b : Bool) → covers s m ≡ b → cond b (Some s.mark) (mark_at ss m) ≡ Some k → (Holds ss m k → Gives ss m k) → Gives (s ∷ ss) m k
  go true e h more = inl (test_within s.start s.past m e, cc)
  go false e h more = inr (more h)

pub given_held : (xs : List Span) (m : ℕ) (k : Mark) → IsCanonical xs → Gives xs m k → Holds xs m k
given_held [] m k h g = absurd g
given_held (s ∷ ss) m k h (inl c) = first_holds s ss m c.0.0 c.0.1 ∙ ap (λ x. Some x) c.1
given_held (s ∷ ss) m k h (inr g) = rest_holds s ss m (later s.past ss m k (canonical_starts s ss h) g) ∙ given_held ss m k h.2 g

pub line_map : (line : List Span) (m : ℕ) (mark : Mark) → IsCanonical line → Holds line m mark ↔ Gives line m mark
line_map line m mark h = (held_given line m mark, given_held line m mark h)

-- ---- searches keep the spans that they look for

-- spans that end at or before the base don't hold any minute from the base on
pub after_holds : (base : ℕ) (xs : List Span) (m : ℕ) → base ≤ m → mark_at (from_minute base xs) m ≡ mark_at xs m
after_holds base [] m l = refl
after_holds base (s ∷ ss) m l = go (nat_le s.past base) refl (after_holds base ss m l) where
  go : (b : Bool) → nat_le s.past base ≡ b → mark_at (from_minute base ss) m ≡ mark_at ss m → mark_at (cond b (from_minute base ss) (s ∷ ss)) m ≡ mark_at (s ∷ ss) m
  go true e more = let over : s.past ≤ base = grind (arith, nat_tests) in more ∙ sym (rest_holds s ss m (omega (arith, over, l)))
  go false e more = refl

-- spans that start at or after `past` don't hold any minute before it
pub before_holds : (past : ℕ) (xs : List Span) (m : ℕ) → IsCanonical xs → m < past → mark_at (before past xs) m ≡ mark_at xs m
before_holds past [] m h l = refl
before_holds past (s ∷ ss) m h l = go (nat_lt s.start past) refl (before_holds past ss m h.2 l) where
  go : (b : Bool) → nat_lt s.start past ≡ b → mark_at (before past ss) m ≡ mark_at ss m → mark_at (cond b (s ∷ before past ss) []) m ≡ mark_at (s ∷ ss) m
  go true e more = ap (λ r. cond (covers s m) (Some s.mark) r) more
  go false e more =
      let from : past ≤ s.start = grind (arith, nat_tests) in
      sym (none_before s.start (s ∷ ss) m (canonical_from s ss h) (omega (arith, from, l)))

pub overlap_holds : (xs : List Span) (start past m : ℕ) → IsCanonical xs → IsWithin start past m → mark_at (overlap xs start past) m ≡ mark_at xs m
overlap_holds xs start past m h w = before_holds past (from_minute start xs) m (rest_canonical (λ s. nat_le s.past start) xs h) w.1 ∙ after_holds start xs m w.0

-- the first span that ends after a minute
pub after_first : (m : ℕ) (xs : List Span) (s : Span) (ss : List Span) → from_minute m xs ≡ s ∷ ss → m < s.past
after_first m [] s ss e = cc
after_first m (t ∷ ts) s ss e = go (nat_le t.past m) refl e (after_first m ts s ss) where
  go : (b : Bool) → nat_le t.past m ≡ b → cond b (from_minute m ts) (t ∷ ts) ≡ s ∷ ss → (from_minute m ts ≡ s ∷ ss → m < s.past) → m < s.past
  go true d h more = more h
  go false d h more =
      let under : m < t.past = grind (arith, nat_tests) in
      let same : t ≡ s = cc in
      subst (λ (x : Span). m < x.past) same under

-- ---- the mark found by a search

pub found_mark : (m : ℕ) (xs : List Span) (s : Span) (ss : List Span) → from_minute m xs ≡ s ∷ ss → s.start ≤ m → mark_at xs m ≡ Some s.mark
found_mark m xs s ss e l =
    sym (after_holds m xs m (omega arith)) ∙ ap (λ (x : List Span). mark_at x m) e ∙ first_holds s ss m l (after_first m xs s ss e)

pub no_mark : (m : ℕ) (xs : List Span) (s : Span) (ss : List Span) → IsCanonical xs → from_minute m xs ≡ s ∷ ss → m < s.start → mark_at xs m ≡ None
no_mark m xs s ss h e l =
    let known = subst IsCanonical e (rest_canonical (λ x. nat_le x.past m) xs h) in
    sym (after_holds m xs m (omega arith)) ∙ ap (λ (x : List Span). mark_at x m) e ∙ none_before s.start (s ∷ ss) m (canonical_from s ss known) l

pub no_span : (m : ℕ) (xs : List Span) → from_minute m xs ≡ [] → mark_at xs m ≡ None
no_span m xs e = sym (after_holds m xs m (omega arith)) ∙ ap (λ (x : List Span). mark_at x m) e
