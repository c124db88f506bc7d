-- What two lists of spans give as one list.
use Rattle.std.proofs.Common.{◌≡◌, ℕ, ◌+◌, ◌-◌, ◌<◌, ◌≤◌, ◌⊎◌, inl, inr, ◌&&◌, ◌==◌, nat_lt, Bool, true, false, cond, List, [], ◌∷◌, ◌++◌, refl, sym, ap, ◌∙◌, subst, arith}
use Rattle.std.proofs.lemmas.Bool.Decides.{nat_tests}
use Rattle.tacho_time.specs.declared.span.Span.{Span}
use Rattle.tacho_time.specs.declared.span.Mark.{Mark}
use Rattle.tacho_time.specs.Spans.{Covers, Gives, GoesOn, IsCanonical, IsCanonicalOf, GiveSame}
use Rattle.tacho_time.specs.Merge.{same_mark}
use Rattle.tacho_time.proofs.CanonicalLemmas.{lt_or_le, later, first_given, canonical_starts, ends_there, marks_equal, marks_differ, both_true, same_trans, same_following}
use Rattle.tacho_line.specs.Search.{front_of, rest_of, before}
use Rattle.tacho_line.proofs.SearchLemmas.{rest_canonical, front_canonical}
use Rattle.tacho_line.specs.Join.{ShareNone, EitherGives, StartsAfter, AreSpansInOrder, starting_from, in_order, touches, joined_from, join_spans}

-- ---- one list after another

-- each minute of one list is before each minute of the other
abbrev pub IsBefore : List Span → List Span → Type 0
IsBefore xs ys = (m n : ℕ) (j k : Mark) → Gives xs m j → Gives ys n k → m < n

-- where the lists touch, they have different marks
abbrev pub IsApart : List Span → List Span → Type 0
IsApart xs ys = (m : ℕ) (k : Mark) → Gives xs m k → Gives ys (m + 1) k → ⊥

pub append_gives : (xs ys : List Span) (m : ℕ) (k : Mark) → Gives (xs ++ ys) m k → Gives xs m k ⊎ Gives ys m k
append_gives [] ys m k g = inr g
append_gives (s ∷ ss) ys m k (inl c) = inl (inl c)
append_gives (s ∷ ss) ys m k (inr g) = go (append_gives ss ys m k g) where
  go : Gives ss m k ⊎ Gives ys m k → Gives (s ∷ ss) m k ⊎ Gives ys m k
  go (inl x) = inl (inr x)
  go (inr y) = inr y

pub front_gives : (xs ys : List Span) (m : ℕ) (k : Mark) → Gives xs m k → Gives (xs ++ ys) m k
front_gives [] ys m k g = absurd g
front_gives (s ∷ ss) ys m k (inl c) = inl c
front_gives (s ∷ ss) ys m k (inr g) = inr (front_gives ss ys m k g)

pub back_gives : (xs ys : List Span) (m : ℕ) (k : Mark) → Gives ys m k → Gives (xs ++ ys) m k
back_gives [] ys m k g = g
back_gives (s ∷ ss) ys m k g = inr (back_gives ss ys m k g)

-- a span gives its last minute its mark
last_given : (s : Span) → s.start < s.past → Gives (s ∷ []) (s.past - 1) s.mark
last_given s h = inl ((omega (arith, h), omega (arith, h)), refl)

-- ---- one canonical list after another

goes_on_one : (s : Span) (ys : List Span) → s.start < s.past → IsCanonical ys → IsBefore (s ∷ []) ys → IsApart (s ∷ []) ys → GoesOn s ys
goes_on_one s [] h c b a = tt
goes_on_one s (t ∷ ts) h c b a =
    let l = b (s.past - 1) t.start s.mark t.mark (last_given s h) (first_given t ts c.0) in
    (omega (arith, l, h), λ e d. a (s.past - 1) s.mark (last_given s h) (inl ((omega (arith, e, h), omega (arith, e, h, c.0)), sym d)))

pub canonical_join : (xs ys : List Span) → IsCanonical xs → IsCanonical ys → IsBefore xs ys → IsApart xs ys → IsCanonical (xs ++ ys)
canonical_join [] ys h c b a = c
canonical_join (s ∷ []) ys h c b a = (h.0, goes_on_one s ys h.0 c b a, c)
canonical_join (s ∷ t ∷ ts) ys h c b a =
    (h.0, h.1, canonical_join (t ∷ ts) ys h.2 c (λ m n j k x y. b m n j k (inr x) y) (λ m k x y. a m k (inr x) y))

goes_on_front : (s : Span) (xs ys : List Span) → GoesOn s (xs ++ ys) → GoesOn s xs
goes_on_front s [] ys h = tt
goes_on_front s (t ∷ ts) ys h = h

pub front_is_canonical : (xs ys : List Span) → IsCanonical (xs ++ ys) → IsCanonical xs
front_is_canonical [] ys h = tt
front_is_canonical (s ∷ ss) ys h = (h.0, goes_on_front s ss ys h.1, front_is_canonical ss ys h.2)

pub back_is_canonical : (xs ys : List Span) → IsCanonical (xs ++ ys) → IsCanonical ys
back_is_canonical [] ys h = h
back_is_canonical (s ∷ ss) ys h = back_is_canonical ss ys h.2

pub parts_before : (xs ys : List Span) → IsCanonical (xs ++ ys) → IsBefore xs ys
parts_before [] ys h m n j k x y = absurd x
parts_before (s ∷ ss) ys h m n j k (inl c) y =
    let l = later s.past (ss ++ ys) n k (canonical_starts s (ss ++ ys) h) (back_gives ss ys n k y) in omega (arith, l, c.0.1)
parts_before (s ∷ ss) ys h m n j k (inr x) y = parts_before ss ys h.2 m n j k x y

pub parts_apart : (xs ys : List Span) → IsCanonical (xs ++ ys) → IsApart xs ys
parts_apart [] ys h m k x y = x
parts_apart (s ∷ ss) ys h m k (inl c) y =
    let given = back_gives ss ys (m + 1) k y in
    let l = later s.past (ss ++ ys) (m + 1) k (canonical_starts s (ss ++ ys) h) given in
    let ends : m + 1 ≡ s.past = omega (arith, l, c.0.1) in
    ends_there s (ss ++ ys) h (inr (subst (λ (n : ℕ). Gives (ss ++ ys) n s.mark) ends (subst (λ (d : Mark). Gives (ss ++ ys) (m + 1) d) (sym c.1) given)))
parts_apart (s ∷ ss) ys h m k (inr x) y = parts_apart ss ys h.2 m k x y

-- ---- spans in order, one list after another

starts_after_one : (s : Span) (ys : List Span) → s.start < s.past → AreSpansInOrder ys → IsBefore (s ∷ []) ys → StartsAfter s ys
starts_after_one s [] h c b = tt
starts_after_one s (t ∷ ts) h c b =
    let l = b (s.past - 1) t.start s.mark t.mark (last_given s h) (first_given t ts c.0) in omega (arith, l, h)

order_join : (xs ys : List Span) → AreSpansInOrder xs → AreSpansInOrder ys → IsBefore xs ys → AreSpansInOrder (xs ++ ys)
order_join [] ys h c b = c
order_join (s ∷ []) ys h c b = (h.0, starts_after_one s ys h.0 c b, c)
order_join (s ∷ t ∷ ts) ys h c b = (h.0, h.1, order_join (t ∷ ts) ys h.2 c (λ m n j k x y. b m n j k (inr x) y))

canonical_in_order : (xs : List Span) → IsCanonical xs → AreSpansInOrder xs
canonical_in_order [] h = tt
canonical_in_order (s ∷ []) h = (h.0, tt, tt)
canonical_in_order (s ∷ t ∷ ts) h = (h.0, h.1.0, canonical_in_order (t ∷ ts) h.2)

-- ---- a list, split

pub split_list : (p : Span → Bool) (xs : List Span) → xs ≡ front_of p xs ++ rest_of p xs
split_list p [] = refl
split_list p (s ∷ ss) = go (p s) (split_list p ss) where
  go : (b : Bool) → ss ≡ front_of p ss ++ rest_of p ss → s ∷ ss ≡ cond b (s ∷ front_of p ss) [] ++ cond b (rest_of p ss) (s ∷ ss)
  go true e = ap (λ x. s ∷ x) e
  go false e = refl

-- a minute of spans that start before minute a is before a, or these spans also give a
early_minutes : (a : ℕ) (xs : List Span) (m : ℕ) (k : Mark) → Gives (before a xs) m k → (m < a) ⊎ Gives (before a xs) a k
early_minutes a [] m k g = absurd g
early_minutes a (s ∷ ss) m k g = go (nat_lt s.start a) refl g (early_minutes a ss m k) where
  own : s.start < a → Covers s m × (s.mark ≡ k) → (m < a) ⊎ (a ≤ m) → (m < a) ⊎ Gives (s ∷ before a ss) a k
  own l c (inl x) = inl x
  own l c (inr x) = inr (inl ((omega (arith, l), omega (arith, x, c.0.1)), c.1))

  other : (m < a) ⊎ Gives (before a ss) a k → (m < a) ⊎ Gives (s ∷ before a ss) a k
  other (inl x) = inl x
  other (inr g) = inr (inr g)

  go : (b : Bool) → nat_lt s.start a ≡ b → Gives (cond b (s ∷ before a ss) []) m k → (Gives (before a ss) m k → (m < a) ⊎ Gives (before a ss) a k) → (m < a) ⊎ Gives (cond b (s ∷ before a ss) []) a k
  go true e (inl c) more = own (grind (arith, nat_tests)) c (lt_or_le m a)
  go true e (inr g) more = other (more g)
  go false e g more = absurd g

-- the other spans start at minute a or later
late_minutes : (a : ℕ) (xs : List Span) (m : ℕ) (k : Mark) → IsCanonical xs → Gives (starting_from a xs) m k → a ≤ m
late_minutes a [] m k h g = absurd g
late_minutes a (s ∷ ss) m k h g = go (nat_lt s.start a) refl g (late_minutes a ss m k h.2) where
  kept : a ≤ s.start → Gives (s ∷ ss) m k → a ≤ m
  kept l (inl c) = omega (arith, l, c.0.0)
  kept l (inr x) = let from = later s.past ss m k (canonical_starts s ss h) x in omega (arith, l, from, h.0)

  go : (b : Bool) → nat_lt s.start a ≡ b → Gives (cond b (starting_from a ss) (s ∷ ss)) m k → (Gives (starting_from a ss) m k → a ≤ m) → a ≤ m
  go true e x more = more x
  go false e x more = kept (grind (arith, nat_tests)) x

-- a minute at or after a span's start that isn't in the span is after it
after_span : (s : Span) (m : ℕ) (k : Mark) → s.start ≤ m → (Covers s m → ⊥) → s.past ≤ m
after_span s m k l shared = go (lt_or_le m s.past) where
  go : (m < s.past) ⊎ (s.past ≤ m) → s.past ≤ m
  go (inl x) = absurd (shared (l, x))
  go (inr x) = x

-- ---- two lists in the order of their starts

pub front_part : (p : Span → Bool) (xs : List Span) (m : ℕ) (k : Mark) → Gives (front_of p xs) m k → Gives xs m k
front_part p xs m k g = subst (λ (l : List Span). Gives l m k) (sym (split_list p xs)) (front_gives (front_of p xs) (rest_of p xs) m k g)

pub rest_part : (p : Span → Bool) (xs : List Span) (m : ℕ) (k : Mark) → Gives (rest_of p xs) m k → Gives xs m k
rest_part p xs m k g = subst (λ (l : List Span). Gives l m k) (sym (split_list p xs)) (back_gives (front_of p xs) (rest_of p xs) m k g)

pub some_part : (p : Span → Bool) (xs : List Span) (m : ℕ) (k : Mark) → Gives xs m k → Gives (front_of p xs) m k ⊎ Gives (rest_of p xs) m k
some_part p xs m k g = append_gives (front_of p xs) (rest_of p xs) m k (subst (λ (l : List Span). Gives l m k) (split_list p xs) g)

order_gives : (held spans : List Span) (m : ℕ) (k : Mark) → Gives (in_order held spans) m k → EitherGives held spans m k
order_gives held [] m k g = inl g
order_gives held (s ∷ ss) m k g =
    go (append_gives (before s.start held) (s ∷ in_order (starting_from s.start held) ss) m k g) (order_gives (starting_from s.start held) ss m k) where
      go : Gives (before s.start held) m k ⊎ Gives (s ∷ in_order (starting_from s.start held) ss) m k → (Gives (in_order (starting_from s.start held) ss) m k → EitherGives (starting_from s.start held) ss m k) → EitherGives held (s ∷ ss) m k
      go (inl x) more = inl (front_part (λ x. nat_lt x.start s.start) held m k x)
      go (inr (inl c)) more = inr (inl c)
      go (inr (inr x)) more = last (more x) where
        last : EitherGives (starting_from s.start held) ss m k → EitherGives held (s ∷ ss) m k
        last (inl y) = inl (rest_part (λ x. nat_lt x.start s.start) held m k y)
        last (inr y) = inr (inr y)

gives_order : (held spans : List Span) (m : ℕ) (k : Mark) → EitherGives held spans m k → Gives (in_order held spans) m k
gives_order held [] m k (inl g) = g
gives_order held [] m k (inr g) = absurd g
gives_order held (s ∷ ss) m k g =
    go g (gives_order (starting_from s.start held) ss m k) where
      go : EitherGives held (s ∷ ss) m k → (EitherGives (starting_from s.start held) ss m k → Gives (in_order (starting_from s.start held) ss) m k) → Gives (before s.start held ++ s ∷ in_order (starting_from s.start held) ss) m k
      go (inr (inl c)) more = back_gives (before s.start held) (s ∷ in_order (starting_from s.start held) ss) m k (inl c)
      go (inr (inr x)) more = back_gives (before s.start held) (s ∷ in_order (starting_from s.start held) ss) m k (inr (more (inr x)))
      go (inl x) more = side (some_part (λ y. nat_lt y.start s.start) held m k x) where
        side : Gives (before s.start held) m k ⊎ Gives (starting_from s.start held) m k → Gives (before s.start held ++ s ∷ in_order (starting_from s.start held) ss) m k
        side (inl y) = front_gives (before s.start held) (s ∷ in_order (starting_from s.start held) ss) m k y
        side (inr y) = back_gives (before s.start held) (s ∷ in_order (starting_from s.start held) ss) m k (inr (more (inl y)))

order_is : (held spans : List Span) → IsCanonical held → IsCanonical spans → ShareNone held spans → AreSpansInOrder (in_order held spans)
order_is held [] h c shared = canonical_in_order held h
order_is held (s ∷ ss) h c shared = go (order_is (starting_from s.start held) ss (rest_canonical (λ x. nat_lt x.start s.start) held h) c.2 (λ m j k x y. shared m j k (rest_part (λ x. nat_lt x.start s.start) held m j x) (inr y))) where
  -- the minutes that come after the span in the list are after it
  past_it : (n : ℕ) (k : Mark) → Gives (in_order (starting_from s.start held) ss) n k → s.past ≤ n
  past_it n k g = side (order_gives (starting_from s.start held) ss n k g) where
    side : EitherGives (starting_from s.start held) ss n k → s.past ≤ n
    side (inl x) = after_span s n k (late_minutes s.start held n k h x) (λ w. shared n k s.mark (rest_part (λ y. nat_lt y.start s.start) held n k x) (inl (w, refl)))
    side (inr x) = later s.past ss n k (canonical_starts s ss c) x

  from_it : (n : ℕ) (k : Mark) → Gives (s ∷ in_order (starting_from s.start held) ss) n k → s.start ≤ n
  from_it n k (inl w) = w.0.0
  from_it n k (inr x) = let l = past_it n k x in omega (arith, l, c.0)

  early : (m : ℕ) (j : Mark) → Gives (before s.start held) m j → m < s.start
  early m j x = side (early_minutes s.start held m j x) where
    side : (m < s.start) ⊎ Gives (before s.start held) s.start j → m < s.start
    side (inl l) = l
    side (inr y) = absurd (shared s.start j s.mark (front_part (λ y. nat_lt y.start s.start) held s.start j y) (first_given s ss c.0))

  one_before : (m n : ℕ) (j k : Mark) → Gives (s ∷ []) m j → Gives (in_order (starting_from s.start held) ss) n k → m < n
  one_before m n j k (inl w) y = let l = past_it n k y in omega (arith, l, w.0.1)
  one_before m n j k (inr w) y = absurd w

  go : AreSpansInOrder (in_order (starting_from s.start held) ss) → AreSpansInOrder (before s.start held ++ s ∷ in_order (starting_from s.start held) ss)
  go more =
      order_join (before s.start held) (s ∷ in_order (starting_from s.start held) ss) (canonical_in_order (before s.start held) (front_canonical (λ x. nat_lt x.start s.start) held h))
      (order_join (s ∷ []) (in_order (starting_from s.start held) ss) (c.0, tt, tt) more one_before)
      (λ m n j k x y. let a = early m j x in let b = from_it n k y in omega (arith, a, b))

-- ---- joining spans that touch

-- the first run has the start and the mark of the span
abbrev BeginsAs : Span → List Span → Type 0
BeginsAs last [] = ⊥
BeginsAs last (t ∷ ts) = (t.start ≡ last.start) × (t.mark ≡ last.mark)

-- what the runs from a span on have to be
abbrev Runs : Span → List Span → List Span → Type 0
Runs last ss out = IsCanonical out × GiveSame out (last ∷ ss) × BeginsAs last out

both_tests : (a b : ℕ) (t : Bool) → (a == b) && t ≡ true → (a ≡ b) × (t ≡ true)
both_tests a b t h =
    let p : ((a == b) ≡ true) × (t ≡ true) = both_true (a == b) t h in
    let first : (a == b) ≡ true = p.0 in
    (grind (arith, nat_tests), p.1)

not_both : (a b : ℕ) (t : Bool) → (a == b) && t ≡ false → a ≡ b → t ≡ false
not_both a b true h e = grind (arith, nat_tests)
not_both a b false h e = refl

stretched_after : (last s : Span) (ss : List Span) → StartsAfter s ss → StartsAfter (record last { past = s.past }) ss
stretched_after last s [] h = tt
stretched_after last s (t ∷ ts) h = h

stretched_gives : (last s : Span) (ss : List Span) → last.start < last.past → s.start < s.past → last.past ≡ s.start → s.mark ≡ last.mark → GiveSame (record last { past = s.past } ∷ ss) (last ∷ s ∷ ss)
stretched_gives last s ss full own touch same m k = (there, back) where
  pick : (m < last.past) ⊎ (last.past ≤ m) → Covers (record last { past = s.past }) m × (last.mark ≡ k) → Gives (last ∷ s ∷ ss) m k
  pick (inl h) c = inl ((c.0.0, h), c.1)
  pick (inr h) c = inr (inl ((omega (arith, h, touch), c.0.1), same ∙ c.1))

  there : Gives (record last { past = s.past } ∷ ss) m k → Gives (last ∷ s ∷ ss) m k
  there (inl c) = pick (lt_or_le m last.past) c
  there (inr g) = inr (inr g)

  back : Gives (last ∷ s ∷ ss) m k → Gives (record last { past = s.past } ∷ ss) m k
  back (inl c) = inl ((c.0.0, omega (arith, c.0.1, touch, own)), c.1)
  back (inr (inl c)) = inl ((omega (arith, full, touch, c.0.0), c.0.1), sym same ∙ c.1)
  back (inr (inr g)) = inr g

stretched_runs : (last s : Span) (ss out : List Span) → GiveSame (record last { past = s.past } ∷ ss) (last ∷ s ∷ ss) → Runs (record last { past = s.past }) ss out → Runs last (s ∷ ss) out
stretched_runs last s ss [] same h = absurd h.2
stretched_runs last s ss (t ∷ ts) same h = (h.0, same_trans (t ∷ ts) (record last { past = s.past } ∷ ss) (last ∷ s ∷ ss) h.1 same, h.2)

apart_runs : (last s : Span) (ss out : List Span) → last.start < last.past → last.past ≤ s.start → touches last s ≡ false → Runs s ss out → Runs last (s ∷ ss) (last ∷ out)
apart_runs last s ss [] full l e h = absurd h.2
apart_runs last s ss (t ∷ ts) full l e h =
    ((full, (omega (arith, l, h.2.0), λ d m. marks_differ s.mark last.mark (not_both last.past s.start (same_mark s.mark last.mark) e (d ∙ h.2.0)) (sym h.2.1 ∙ sym m)), h.0), same_following last (t ∷ ts) (s ∷ ss) h.1, (refl, refl))

runs_are : (last : Span) (ss : List Span) → AreSpansInOrder (last ∷ ss) → Runs last ss (joined_from last ss)
runs_are last [] h = ((h.0, tt, tt), (λ m k. (λ g. g, λ g. g)), (refl, refl))
runs_are last (s ∷ ss) h =
    go (touches last s) refl
    (λ l. runs_are (record last { past = s.past }) ss (l, stretched_after last s ss h.2.1, h.2.2))
    (runs_are s ss h.2) where
      go : (b : Bool) → touches last s ≡ b → (last.start < s.past → Runs (record last { past = s.past }) ss (joined_from (record last { past = s.past }) ss)) → Runs s ss (joined_from s ss)
          → Runs last (s ∷ ss) (cond b (joined_from (record last { past = s.past }) ss) (last ∷ joined_from s ss))
      go true e more apart =
          let t = both_tests last.past s.start (same_mark s.mark last.mark) e in
          stretched_runs last s ss _ (stretched_gives last s ss h.0 h.2.0 t.0 (marks_equal s.mark last.mark t.1)) (more (omega (arith, h.0, h.1, h.2.0)))
      go false e more apart = apart_runs last s ss _ h.0 h.1 e apart

joined_are : (xs : List Span) → AreSpansInOrder xs → IsCanonical (join_spans xs) × GiveSame (join_spans xs) xs
joined_are [] h = (tt, λ m k. (λ g. g, λ g. g))
joined_are (s ∷ ss) h = let r = runs_are s ss h in (r.0, r.1)

-- ---- the merge

pub merge_is : (held spans : List Span) → IsCanonical held → IsCanonical spans → ShareNone held spans → IsCanonicalOf (EitherGives held spans) (join_spans (in_order held spans))
merge_is held spans h c shared =
    let r = joined_are (in_order held spans) (order_is held spans h c shared) in
    record {
      canonical = r.0;
      same = (λ m k. ((λ g. order_gives held spans m k ((r.1 m k).0 g)), λ g. (r.1 m k).1 (gives_order held spans m k g)));
    }
