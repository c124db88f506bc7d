-- Adding spans to a canonical list: the added spans, between the spans around them.
use Rattle.std.proofs.Common.{◌≡◌, ℕ, zero, suc, ◌+◌, ◌-◌, ◌<◌, ◌≤◌, ◌⊎◌, inl, inr, nat_lt, nat_le, Bool, true, false, cond, List, [], ◌∷◌, ◌++◌, length, take, drop, slice_index_or, slice_range, Option, Some, None, refl, sym, ap, ◌∙◌, subst, arith}
use Rattle.std.proofs.Common.{Global}
use Rattle.std.proofs.lemmas.Bool.Decides.{nat_tests}
use Rattle.std.proofs.lemmas.Iterator.{items_from_drains}
use Rattle.std.proofs.lemmas.Iterator.Adapters.{YieldsList-from_vec}
use Rattle.std.proofs.lemmas.List.{map-id}
use Rattle.std.proofs.lemmas.Option.{slice_get_within, get_or_from_slice_get}
use Rattle.std.specs.Iterator.{Yields}
use Rattle.std.specs.List.{slice_get}
use Rattle.std.specs.Vec.Iter.{into_iter_items, into_iter_len, into_iter_steps}
use Rattle.std.specs.declared.vec.IntoIter.{IntoIter}
use Rattle.tacho_time.specs.declared.span.Span.{Span}
use Rattle.tacho_time.specs.declared.span.Mark.{Mark}
use Rattle.tacho_time.specs.Spans.{Gives, IsCanonical, IsCanonicalOf, SamePairs}
use Rattle.tacho_time.proofs.CanonicalLemmas.{later, first_given, canonical_starts}
use Rattle.tacho_line.specs.Line.{mark_at, Holds, Together, AreNotHeld, IsWithin}
use Rattle.tacho_line.specs.Join.{ShareNone, EitherGives, ending_before, ending_from, starting_by, starting_after}
use Rattle.tacho_line.proofs.LineLemmas.{held_given, given_held}
use Rattle.tacho_line.proofs.MergeLemmas.{IsBefore, IsApart, append_gives, front_gives, back_gives, canonical_join, front_is_canonical, back_is_canonical, parts_before, parts_apart, split_list, front_part, rest_part}

-- ---- which minutes the parts give

ending_minutes : (a : ℕ) (xs : List Span) (m : ℕ) (k : Mark) → Gives (ending_before a xs) m k → m + 1 < a
ending_minutes a [] m k g = absurd g
ending_minutes a (s ∷ ss) m k g = go (nat_lt s.past a) refl g (ending_minutes a ss m k) where
  go : (b : Bool) → nat_lt s.past a ≡ b → Gives (cond b (s ∷ ending_before a ss) []) m k → (Gives (ending_before a ss) m k → m + 1 < a) → m + 1 < a
  go true e (inl c) more = let l : s.past < a = grind (arith, nat_tests) in omega (arith, l, c.0.1)
  go true e (inr x) more = more x
  go false e x more = absurd x

starting_minutes : (b : ℕ) (xs : List Span) (m : ℕ) (k : Mark) → IsCanonical xs → Gives (starting_after b xs) m k → b < m
starting_minutes b [] m k h g = absurd g
starting_minutes b (s ∷ ss) m k h g = go (nat_le s.start b) refl g (starting_minutes b ss m k h.2) where
  kept : b < s.start → Gives (s ∷ ss) m k → b < m
  kept l (inl c) = omega (arith, l, c.0.0)
  kept l (inr x) = let from = later s.past ss m k (canonical_starts s ss h) x in omega (arith, l, from, h.0)

  go : (t : Bool) → nat_le s.start b ≡ t → Gives (cond t (starting_after b ss) (s ∷ ss)) m k → (Gives (starting_after b ss) m k → b < m) → b < m
  go true e x more = more x
  go false e x more = kept (grind (arith, nat_tests)) x

-- the minutes of canonical spans are from the first start to before the last end
pub first_bound : (xs : List Span) (m : ℕ) (k : Mark) (d : Span) → IsCanonical xs → Gives xs m k → (slice_index_or xs 0 d).start ≤ m
first_bound [] m k d h g = absurd g
first_bound (s ∷ ss) m k d h (inl c) = c.0.0
first_bound (s ∷ ss) m k d h (inr g) = let l = later s.past ss m k (canonical_starts s ss h) g in omega (arith, l, h.0)

pub last_bound : (xs : List Span) (n m : ℕ) (k : Mark) (d : Span) → IsCanonical xs → length xs ≡ n + 1 → Gives xs m k → m < (slice_index_or xs n d).past
last_bound [] n m k d h e g = absurd g
last_bound (s ∷ []) zero m k d h e (inl c) = c.0.1
last_bound (s ∷ []) zero m k d h e (inr g) = absurd g
last_bound (s ∷ []) (suc n) m k d h e g = absurd (omega (arith, e))
last_bound (s ∷ t ∷ ts) zero m k d h e g = absurd (omega (arith, e))
last_bound (s ∷ t ∷ ts) (suc n) m k d h e (inl c) =
    let l = last_bound (t ∷ ts) n t.start t.mark d h.2 (omega (arith, e)) (first_given t ts h.2.0) in omega (arith, l, h.1.0, c.0.1)
last_bound (s ∷ t ∷ ts) (suc n) m k d h e (inr g) = last_bound (t ∷ ts) n m k d h.2 (omega (arith, e)) g

-- ---- the list around the merged part

either_front : (front middle back spans : List Span) (m : ℕ) (k : Mark) → EitherGives middle spans m k → EitherGives (front ++ (middle ++ back)) spans m k
either_front front middle back spans m k (inl g) = inl (back_gives front (middle ++ back) m k (front_gives middle back m k g))
either_front front middle back spans m k (inr g) = inr g

module _ (front middle back spans merged : List Span) (a b : ℕ)
    (known : IsCanonical (front ++ (middle ++ back)))
    (before : (m : ℕ) (k : Mark) → Gives front m k → m + 1 < a)
    (behind : (m : ℕ) (k : Mark) → Gives back m k → b < m)
    (within : (m : ℕ) (k : Mark) → Gives spans m k → IsWithin a b m)
    (run : IsCanonicalOf (EitherGives middle spans) merged) where
  -- a minute of the merged part is given by the middle or by the spans
  abbrev sides : (m : ℕ) (k : Mark) → Gives merged m k → EitherGives middle spans m k
  sides m k g = (run.same m k).0 g

  inner : IsCanonical (middle ++ back)
  inner = back_is_canonical front (middle ++ back) known

  merged_before : IsBefore merged back
  merged_before m n j k x y = go (sides m j x) where
    go : EitherGives middle spans m j → m < n
    go (inl g) = parts_before middle back inner m n j k g y
    go (inr g) = let w = within m j g in let l = behind n k y in omega (arith, w.1, l)

  merged_apart : IsApart merged back
  merged_apart m k x y = go (sides m k x) where
    go : EitherGives middle spans m k → ⊥
    go (inl g) = parts_apart middle back inner m k g y
    go (inr g) = let w = within m k g in let l = behind (m + 1) k y in absurd (omega (arith, w.1, l))

  front_before : IsBefore front (merged ++ back)
  front_before m n j k x y = go (append_gives merged back n k y) where
    go : Gives merged n k ⊎ Gives back n k → m < n
    go (inr g) = parts_before front (middle ++ back) known m n j k x (back_gives middle back n k g)
    go (inl g) = side (sides n k g) where
      side : EitherGives middle spans n k → m < n
      side (inl z) = parts_before front (middle ++ back) known m n j k x (front_gives middle back n k z)
      side (inr z) = let w = within n k z in let l = before m j x in omega (arith, w.0, l)

  front_apart : IsApart front (merged ++ back)
  front_apart m k x y = go (append_gives merged back (m + 1) k y) where
    go : Gives merged (m + 1) k ⊎ Gives back (m + 1) k → ⊥
    go (inr g) = parts_apart front (middle ++ back) known m k x (back_gives middle back (m + 1) k g)
    go (inl g) = side (sides (m + 1) k g) where
      side : EitherGives middle spans (m + 1) k → ⊥
      side (inl z) = parts_apart front (middle ++ back) known m k x (front_gives middle back (m + 1) k z)
      side (inr z) = let w = within (m + 1) k z in let l = before m k x in absurd (omega (arith, w.0, l))

  all_canonical : IsCanonical (front ++ (merged ++ back))
  all_canonical =
      canonical_join front (merged ++ back) (front_is_canonical front (middle ++ back) known)
      (canonical_join merged back run.canonical (back_is_canonical middle back inner) merged_before merged_apart)
      front_before front_apart

  all_given : (m : ℕ) (k : Mark) → Gives (front ++ (merged ++ back)) m k → EitherGives (front ++ (middle ++ back)) spans m k
  all_given m k g = go (append_gives front (merged ++ back) m k g) where
    go : Gives front m k ⊎ Gives (merged ++ back) m k → EitherGives (front ++ (middle ++ back)) spans m k
    go (inl x) = inl (front_gives front (middle ++ back) m k x)
    go (inr x) = side (append_gives merged back m k x) where
      side : Gives merged m k ⊎ Gives back m k → EitherGives (front ++ (middle ++ back)) spans m k
      side (inl y) = either_front front middle back spans m k (sides m k y)
      side (inr y) = inl (back_gives front (middle ++ back) m k (back_gives middle back m k y))

  given_all : (m : ℕ) (k : Mark) → EitherGives (front ++ (middle ++ back)) spans m k → Gives (front ++ (merged ++ back)) m k
  given_all m k (inr g) = back_gives front (merged ++ back) m k (front_gives merged back m k ((run.same m k).1 (inr g)))
  given_all m k (inl g) = go (append_gives front (middle ++ back) m k g) where
    go : Gives front m k ⊎ Gives (middle ++ back) m k → Gives (front ++ (merged ++ back)) m k
    go (inl x) = front_gives front (merged ++ back) m k x
    go (inr x) = side (append_gives middle back m k x) where
      side : Gives middle m k ⊎ Gives back m k → Gives (front ++ (merged ++ back)) m k
      side (inl y) = back_gives front (merged ++ back) m k (front_gives merged back m k ((run.same m k).1 (inl y)))
      side (inr y) = back_gives front (merged ++ back) m k (back_gives merged back m k y)

  all_is : IsCanonicalOf (EitherGives (front ++ (middle ++ back)) spans) (front ++ (merged ++ back))
  all_is = record { canonical = all_canonical; same = (λ m k. (all_given m k, given_all m k)) }

-- ---- the line

-- a list consists of the spans before a range, those that overlap or touch it, and the rest
parts : (a b : ℕ) (line : List Span) → line ≡ ending_before a line ++ (starting_by b (ending_from a line) ++ starting_after b (ending_from a line))
parts a b line =
    split_list (λ s. nat_lt s.past a) line ∙ ap (λ x. ending_before a line ++ x) (split_list (λ s. nat_le s.start b) (ending_from a line))

-- what a canonical list and spans give is what the list holds together with the spans
either_together : (line spans : List Span) (m : ℕ) (k : Mark) → IsCanonical line → EitherGives line spans m k → Together line spans m k
either_together line spans m k h (inl g) = inl (given_held line m k h g)
either_together line spans m k h (inr g) = inr g

together_either : (line spans : List Span) (m : ℕ) (k : Mark) → Together line spans m k → EitherGives line spans m k
together_either line spans m k (inl g) = inl (held_given line m k g)
together_either line spans m k (inr g) = inr g

either_is : (line spans added : List Span) → IsCanonical line → IsCanonicalOf (EitherGives line spans) added → IsCanonicalOf (Together line spans) added
either_is line spans added h r = record {
  canonical = r.canonical;
  same = (λ m k. ((λ g. either_together line spans m k h ((r.same m k).0 g)), λ g. (r.same m k).1 (together_either line spans m k g)));
}

pub added_is : (line spans merged : List Span) (n a b : ℕ) (first last : Span) → IsCanonical line → IsCanonical spans → length spans ≡ n + 1 → (slice_index_or spans 0 first).start ≡ a → (slice_index_or spans n last).past ≡ b → IsCanonicalOf (EitherGives (starting_by b (ending_from a line)) spans) merged → IsCanonicalOf (Together line spans) (ending_before a line ++ (merged ++ starting_after b (ending_from a line)))
added_is line spans merged n a b first last h c l from to run =
    let front = ending_before a line in
    let middle = starting_by b (ending_from a line) in
    let back = starting_after b (ending_from a line) in
    let whole = parts a b line in
    let known = subst IsCanonical whole h in
    let rest_known = subst IsCanonical (split_list (λ s. nat_le s.start b) (ending_from a line)) (back_is_canonical front (ending_from a line) (subst IsCanonical (split_list (λ s. nat_lt s.past a) line) h)) in
    let all = all_is front middle back spans merged a b known (ending_minutes a line)
    (λ m k. starting_minutes b (ending_from a line) m k (back_is_canonical front (ending_from a line) (subst IsCanonical (split_list (λ s. nat_lt s.past a) line) h)))
    (λ m k g. (subst (λ (x : ℕ). x ≤ m) from (first_bound spans m k first c g), subst (λ (x : ℕ). m < x) to (last_bound spans n m k last c l g)))
    run in
    either_is line spans _ h (subst (λ (x : List Span). IsCanonicalOf (EitherGives x spans) (front ++ (merged ++ back))) (sym whole) all)

-- the part of a line around the spans gives none of their minutes
pub part_apart : (line spans : List Span) (a b : ℕ) → IsCanonical line → AreNotHeld line spans → ShareNone (starting_by b (ending_from a line)) spans
part_apart line spans a b h new m j k x y =
    let given = rest_part (λ s. nat_lt s.past a) line m j (front_part (λ s. nat_le s.start b) (ending_from a line) m j x) in
    let held = given_held line m j h given in
    let lacking = new m k y in
    none_held (mark_at line m) j held lacking where
      none_held : (o : Option Mark) (k : Mark) → o ≡ Some k → o ≡ None → ⊥
      none_held o k e f = cc

pub part_canonical : (line : List Span) (a b : ℕ) → IsCanonical line → IsCanonical (starting_by b (ending_from a line))
part_canonical line a b h =
    front_is_canonical (starting_by b (ending_from a line)) (starting_after b (ending_from a line)) (subst IsCanonical (split_list (λ s. nat_le s.start b) (ending_from a line)) (back_is_canonical (ending_before a line) (ending_from a line) (subst IsCanonical (split_list (λ s. nat_lt s.past a) line) h)))

-- adding no spans changes nothing
pub none_added : (line : List Span) → IsCanonical line → IsCanonicalOf (Together line []) line
none_added line h = either_is line [] line h (record { canonical = h; same = (λ m k. ((λ g. inl g), λ g. only m k g)) }) where
  only : (m : ℕ) (k : Mark) → EitherGives line [] m k → Gives line m k
  only m k (inl g) = g
  only m k (inr g) = absurd g

-- the list in which the merged spans replace those that were merged
pub spans_added : (line spans merged new : List Span) (first last : Span) → IsCanonical line → IsCanonical spans → slice_get spans 0 ≡ Some first → slice_get spans (length spans - 1) ≡ Some last
    → IsCanonicalOf (EitherGives (starting_by last.past (ending_from first.start line)) spans) merged
    → new ≡ ending_before first.start line ++ (merged ++ starting_after last.past (ending_from first.start line)) → IsCanonicalOf (Together line spans) new
spans_added line spans merged new first last h c from to run e =
    let some = slice_get_within spans 0 first from in
    let own = get_or_from_slice_get spans 0 first first from in
    let end = get_or_from_slice_get spans (length spans - 1) last last to in
    subst (IsCanonicalOf (Together line spans)) (sym e)
    (added_is line spans merged (length spans - 1) first.start last.past first last h c (omega (arith, some)) (ap (λ (s : Span). s.start) own) (ap (λ (s : Span). s.past) end) run)

-- an iterator over a vector yields its items
pub vec_items_yielded : (merged items : List Span) (s t u : IntoIter Span Global) → into_iter_items s ≡ merged → into_iter_len s ≡ length merged → Yields into_iter_steps s items t → into_iter_steps t None u → items ≡ merged
vec_items_yielded merged items s t u e l y n = sym (map-id items) ∙ items_from_drains items (t, y, λ _. (u, n)) (YieldsList-from_vec merged e l)

pub no_first_get : (xs : List Span) → slice_get xs 0 ≡ None → xs ≡ []
no_first_get [] e = refl
no_first_get (s ∷ ss) e = cc

-- the places found are those of the spans that are merged
pub part_is : (line one two : List Span) (i j a b : ℕ) → one ≡ line → two ≡ line → slice_range one i j ≡ starting_by b (ending_from a one) → take (j - i) (drop i two) ≡ starting_by b (ending_from a line)
part_is line one two i j a b e f h =
    ap (λ (x : List Span). slice_range x i j) (f ∙ sym e) ∙ h ∙ ap (λ x. starting_by b (ending_from a x)) e

-- what a canonical list gives is what it holds
pub held_same : (line spans new : List Span) → IsCanonicalOf (Together line spans) new → SamePairs (Holds new) (Together line spans)
held_same line spans new r m k = ((λ g. (r.same m k).0 (held_given new m k g)), λ g. given_held new m k r.canonical ((r.same m k).1 g))
