-- Merging spans gives their canonical list or their first contradiction; there is only one canonical list.
use Rattle.std.proofs.Common.{◌≡◌, ◌≢◌, ℕ, zero, suc, ◌<◌, ◌≤◌, ◌⊎◌, inl, inr, ◌↔◌, ◌&&◌, ◌||◌, ◌==◌, not, nat_lt, Bool, true, false, cond, List, [], ◌∷◌, Result, Ok, Err, refl, sym, ap, ◌∙◌, subst, arith}
use Rattle.std.proofs.lemmas.Bool.Decides.{nat_tests}
use Rattle.std.proofs.Common.{length, slice_index_or}
use Rattle.std.specs.List.{Contains, All, AllByRecursion, filter}
use Rattle.std.specs.List.Sorted.{IsPermutation, IsNonDecreasingBy}
use Rattle.std.proofs.lemmas.List.Sorted.{Contains-permutation, IsPermutation-sym, All-permutation}
use Rattle.std.proofs.lemmas.List.Elements.{filter_passes, recursion_from_All}
use Rattle.tacho_time.specs.declared.span.Span.{Span}
use Rattle.tacho_time.specs.declared.span.Mark.{Mark}
use Rattle.tacho_time.specs.declared.span.Activity.{Activity}
use Rattle.tacho_time.specs.declared.span.Activity.TheVariants.{Rest, Available, Work, Drive}
use Rattle.tacho_time.specs.Spans.{Covers, Gives, GiveSame, IsCanonical, IsCanonicalOf, Conflicts, IsFirstConflict, StartsFrom}
use Rattle.std.proofs.Common.{MatchResult}
use Rattle.tacho_time.specs.declared.canonical.SpanFault.{SpanFault}
use Rattle.tacho_time.specs.declared.canonical.SpanFault.TheVariants.{Contradiction, Memory}
use Rattle.tacho_time.specs.Merge.{IsMergeFault, IsFirstFault, activity_code, same_bool, same_mark, with_front, is_apart, extend_to, merged_from, merge_spans, IsMerged, is_full}

-- ---- marks

same_activity : (a b : Activity) → (activity_code a == activity_code b) ≡ true → a ≡ b
same_activity Rest Rest h = refl
same_activity Rest Available h = cc
same_activity Rest Work h = cc
same_activity Rest Drive h = cc
same_activity Available Rest h = cc
same_activity Available Available h = refl
same_activity Available Work h = cc
same_activity Available Drive h = cc
same_activity Work Rest h = cc
same_activity Work Available h = cc
same_activity Work Work h = refl
same_activity Work Drive h = cc
same_activity Drive Rest h = cc
same_activity Drive Available h = cc
same_activity Drive Work h = cc
same_activity Drive Drive h = refl

activity_self : (a : Activity) → (activity_code a == activity_code a) ≡ true
activity_self Rest = refl
activity_self Available = refl
activity_self Work = refl
activity_self Drive = refl

bool_same : (a b : Bool) → same_bool a b ≡ true → a ≡ b
bool_same true b h = sym h
bool_same false true h = cc
bool_same false false h = refl

bool_self : (a : Bool) → same_bool a a ≡ true
bool_self true = refl
bool_self false = refl

pub both_true : (a b : Bool) → a && b ≡ true → (a ≡ true) × (b ≡ true)
both_true true b h = (refl, h)
both_true false b h = cc

true_both : (a b : Bool) → a ≡ true → b ≡ true → a && b ≡ true
true_both true b h k = k
true_both false b h k = cc

pub marks_equal : (a b : Mark) → same_mark a b ≡ true → a ≡ b
marks_equal a b h =
    let parts = both_true _ _ h in
    let e = same_activity a.activity b.activity parts.0 in
    let f = bool_same a.crew b.crew parts.1 in
    let step : a ≡ record { activity = b.activity; crew = a.crew } = ap (λ (x : Activity). record { activity = x; crew = a.crew }) e in
    let next : record { activity = b.activity; crew = a.crew } ≡ b = ap (λ (x : Bool). record { activity = b.activity; crew = x }) f in
    step ∙ next

pub marks_differ : (a b : Mark) → same_mark a b ≡ false → a ≢ b
marks_differ a b h e =
    let self : same_mark b b ≡ true = true_both _ _ (activity_self b.activity) (bool_self b.crew) in
    let other : same_mark b b ≡ false = subst (λ (x : Mark). same_mark x b ≡ false) e h in
    let no : true ≡ false = sym self ∙ other in cc

le_self : (n : ℕ) → n ≤ n
le_self n = omega arith

-- ---- what lists give

-- no minute before the first start is given a mark
pub later : (n : ℕ) (xs : List Span) (m : ℕ) (k : Mark) → StartsFrom n xs → Gives xs m k → n ≤ m
later n [] m k h g = absurd g
later n (s ∷ ss) m k h (inl c) = omega (arith, h.0, c.0.0)
later n (s ∷ ss) m k h (inr g) = let l = later s.start ss m k h.2 g in omega (arith, h.0, l)

pub starts_lower : (n k : ℕ) (xs : List Span) → n ≤ k → StartsFrom k xs → StartsFrom n xs
starts_lower n k [] l h = tt
starts_lower n k (s ∷ ss) l h = (omega (arith, h.0, l), h.1, h.2)

pub same_trans : (xs ys zs : List Span) → GiveSame xs ys → GiveSame ys zs → GiveSame xs zs
same_trans xs ys zs f g m k = (λ x. (g m k).0 ((f m k).0 x), λ z. (f m k).1 ((g m k).1 z))

same_sym : (xs ys : List Span) → GiveSame xs ys → GiveSame ys xs
same_sym xs ys f m k = ((f m k).1, (f m k).0)

pub same_following : (s : Span) (xs ys : List Span) → GiveSame xs ys → GiveSame (s ∷ xs) (s ∷ ys)
same_following s xs ys f m k = (go (f m k).0, go (f m k).1) where
  go : {P Q R : Type 0} → (P → Q) → R ⊎ P → R ⊎ Q
  go h (inl r) = inl r
  go h (inr p) = inr (h p)

same_conflicts : (xs ys : List Span) (m : ℕ) → GiveSame xs ys → Conflicts (Gives xs) m → Conflicts (Gives ys) m
same_conflicts xs ys m f c = (c.0, c.1, (f m c.0).0 c.2, (f m c.1).0 c.3, c.4)

same_first : (xs ys : List Span) (m : ℕ) → GiveSame xs ys → IsFirstConflict (Gives xs) m → IsFirstConflict (Gives ys) m
same_first xs ys m f c = (same_conflicts xs ys m f c.0, λ n l d. c.1 n l (same_conflicts ys xs n (same_sym xs ys f) d))

-- ---- two spans in order

and_false : (b : Bool) → b && false ≡ false
and_false true = refl
and_false false = refl

or_false : (b c : Bool) → b || c ≡ true → c ≡ false → b ≡ true
or_false true c h e = refl
or_false false c h e = sym e ∙ h

apart_nums : (a b : ℕ) (t : Bool) → nat_lt a b || ((a == b) && not t) ≡ true → (a ≤ b) × (a ≡ b → t ≡ false)
apart_nums a b true h =
    let l : nat_lt a b ≡ true = or_false _ _ h (and_false (a == b)) in
    let lt : a < b = grind (arith, nat_tests) in
    (omega (arith, lt), λ e. absurd (omega (arith, lt, e)))
apart_nums a b false h = (grind (arith, nat_tests), λ e. refl)

joined_nums : (a b : ℕ) (t : Bool) → nat_lt a b || ((a == b) && not t) ≡ false → (b ≤ a) × (a ≡ b → t ≡ true)
joined_nums a b true h = (grind (arith, nat_tests), λ e. refl)
joined_nums a b false h = (grind (arith, nat_tests), λ e. grind (arith, nat_tests))

apart_true : (last s : Span) → is_apart last s ≡ true → (last.past ≤ s.start) × (last.past ≡ s.start → same_mark s.mark last.mark ≡ false)
apart_true last s h = apart_nums last.past s.start (same_mark s.mark last.mark) h

apart_false : (last s : Span) → is_apart last s ≡ false → (s.start ≤ last.past) × (last.past ≡ s.start → same_mark s.mark last.mark ≡ true)
apart_false last s h = joined_nums last.past s.start (same_mark s.mark last.mark) h

-- ---- the runs

-- the first run has the start and the mark of the span
abbrev BeginsAs : Span → List Span → Type 0
BeginsAs last [] = ⊥
BeginsAs last (t ∷ ts) = (t.start ≡ last.start) × (t.mark ≡ last.mark)

abbrev Runs : Span → List Span → Result (List Span) ℕ → Type 0
Runs last ss (Ok out) = IsCanonical out × GiveSame out (last ∷ ss) × BeginsAs last out
Runs last ss (Err m) = IsFirstConflict (Gives (last ∷ ss)) m

-- a span that doesn't join the next one becomes a run before the runs of the rest
front_runs : (last s : Span) (ss : List Span) (r : Result (List Span) ℕ) → last.start < last.past → StartsFrom last.start (s ∷ ss) → last.past ≤ s.start → (last.past ≡ s.start → s.mark ≢ last.mark) → Runs s ss r → Runs last (s ∷ ss) (with_front (last ∷ []) r)
front_runs last s ss (Ok []) full from l ne h = absurd h.2
front_runs last s ss (Ok (t ∷ ts)) full from l ne h =
    ((full, (omega (arith, l, h.2.0), λ e d. ne (e ∙ h.2.0) (sym h.2.1 ∙ sym d)), h.0), same_following last (t ∷ ts) (s ∷ ss) h.1, (refl, refl))
front_runs last s ss (Err m) full from l ne h =
    ((h.0.0, h.0.1, inr h.0.2, inr h.0.3, h.0.4), λ n lt c. least n lt c.0 c.1 c.2 c.3 c.4) where
      own : (n : ℕ) (k : Mark) → Covers last n → Gives (s ∷ ss) n k → ⊥
      own n k c g = let from_s = later s.start (s ∷ ss) n k (le_self s.start, from.1, from.2) g in absurd (omega (arith, from_s, c.1, l))

      least : (n : ℕ) → n < m → (a b : Mark) → Gives (last ∷ s ∷ ss) n a → Gives (last ∷ s ∷ ss) n b → (a ≢ b) → ⊥
      least n lt a b (inl x) (inl y) d = d (sym x.1 ∙ y.1)
      least n lt a b (inl x) (inr y) d = own n b x.0 y
      least n lt a b (inr x) (inl y) d = own n a y.0 x
      least n lt a b (inr x) (inr y) d = h.1 n lt (a, b, x, y, d)

-- if the next span starts inside a run with another mark, its start is the first minute with two marks
conflict_runs : (last s : Span) (ss : List Span) → last.start < last.past → StartsFrom last.start (s ∷ ss) → s.start < last.past → s.mark ≢ last.mark → IsFirstConflict (Gives (last ∷ s ∷ ss)) s.start
conflict_runs last s ss full from l ne =
    ((s.mark, last.mark, inr (inl ((le_self s.start, from.1), refl)), inl ((from.0, l), refl), ne), λ n lt c. least n lt c.0 c.1 c.2 c.3 c.4) where
      none : (n : ℕ) (k : Mark) → n < s.start → Gives (s ∷ ss) n k → ⊥
      none n k lt g = let from_s = later s.start (s ∷ ss) n k (le_self s.start, from.1, from.2) g in absurd (omega (arith, from_s, lt))

      least : (n : ℕ) → n < s.start → (a b : Mark) → Gives (last ∷ s ∷ ss) n a → Gives (last ∷ s ∷ ss) n b → (a ≢ b) → ⊥
      least n lt a b (inl x) (inl y) d = d (sym x.1 ∙ y.1)
      least n lt a b (inl x) (inr y) d = none n b lt y
      least n lt a b (inr x) y d = none n a lt x

pub lt_or_le : (m a : ℕ) → (m < a) ⊎ (a ≤ m)
lt_or_le m a = go (nat_lt m a) refl where
  go : (t : Bool) → nat_lt m a ≡ t → (m < a) ⊎ (a ≤ m)
  go true h = inl (grind (arith, nat_tests))
  go false h = inr (grind (arith, nat_tests))

-- the later of two ends is at least each of them
later_end : (a b : ℕ) → (a ≤ cond (nat_lt a b) b a) × (b ≤ cond (nat_lt a b) b a)
later_end a b = (grind (arith, nat_tests), grind (arith, nat_tests))

before_end : (a b m : ℕ) → m < cond (nat_lt a b) b a → a ≤ m → m < b
before_end a b m h l = grind (arith, nat_tests)

-- extending a run to the end of the next span gives the same as the two of them
stretch_gives : (last s : Span) (ss : List Span) → last.start ≤ s.start → s.start < s.past → s.start ≤ last.past → s.mark ≡ last.mark → GiveSame (extend_to last s ∷ ss) (last ∷ s ∷ ss)
stretch_gives last s ss from full l same m k = (there, back) where
  ends : (last.past ≤ (extend_to last s).past) × (s.past ≤ (extend_to last s).past)
  ends = later_end last.past s.past

  pick : (m < last.past) ⊎ (last.past ≤ m) → (Covers (extend_to last s) m × (last.mark ≡ k)) → Gives (last ∷ s ∷ ss) m k
  pick (inl h) c = inl ((c.0.0, h), c.1)
  pick (inr h) c = inr (inl ((omega (arith, l, h), before_end last.past s.past m c.0.1 h), same ∙ c.1))

  there : Gives (extend_to last s ∷ ss) m k → Gives (last ∷ s ∷ ss) m k
  there (inl c) = pick (lt_or_le m last.past) c
  there (inr g) = inr (inr g)

  back : Gives (last ∷ s ∷ ss) m k → Gives (extend_to last s ∷ ss) m k
  back (inl c) = inl ((c.0.0, omega (arith, c.0.1, ends.0)), c.1)
  back (inr (inl c)) = inl ((omega (arith, from, c.0.0), omega (arith, c.0.1, ends.1)), sym same ∙ c.1)
  back (inr (inr g)) = inr g

stretch_runs : (last s : Span) (ss : List Span) (r : Result (List Span) ℕ) → GiveSame (extend_to last s ∷ ss) (last ∷ s ∷ ss) → Runs (extend_to last s) ss r → Runs last (s ∷ ss) r
stretch_runs last s ss (Ok []) same h = absurd h.2
stretch_runs last s ss (Ok (t ∷ ts)) same h = (h.0, same_trans (t ∷ ts) (extend_to last s ∷ ss) (last ∷ s ∷ ss) h.1 same, h.2)
stretch_runs last s ss (Err m) same h = same_first (extend_to last s ∷ ss) (last ∷ s ∷ ss) m same h

-- the next span starts at or before the run's end
joined_runs : (last s : Span) (ss : List Span) → last.start < last.past → StartsFrom last.start (s ∷ ss) → (last.start < (extend_to last s).past → Runs (extend_to last s) ss (merged_from (extend_to last s) ss)) → (t : Bool) → same_mark s.mark last.mark ≡ t → (s.start ≤ last.past) × (last.past ≡ s.start → same_mark s.mark last.mark ≡ true) → Runs last (s ∷ ss) (cond (not t) (Err s.start) (merged_from (extend_to last s) ss))
joined_runs last s ss full from more true e h =
    let same = stretch_gives last s ss from.0 from.1 h.0 (marks_equal _ _ e) in
    let ends = later_end last.past s.past in
    stretch_runs last s ss _ same (more (omega (arith, full, ends.0)))
joined_runs last s ss full from more false e h =
    let touch : last.past ≡ s.start → ⊥ = λ d. let no : true ≡ false = sym (h.1 d) ∙ e in cc in
    let lt : s.start < last.past = omega (arith, h.0, touch) in
    conflict_runs last s ss full from lt (marks_differ _ _ e)

split_runs : (last s : Span) (ss : List Span) → last.start < last.past → StartsFrom last.start (s ∷ ss) → Runs s ss (merged_from s ss) → (last.start < (extend_to last s).past → Runs (extend_to last s) ss (merged_from (extend_to last s) ss)) → Runs last (s ∷ ss) (merged_from last (s ∷ ss))
split_runs last s ss full from apart more = split (is_apart last s) refl where
  split : (b : Bool) → is_apart last s ≡ b → Runs last (s ∷ ss) (cond b (with_front (last ∷ []) (merged_from s ss)) (cond (not (same_mark s.mark last.mark)) (Err s.start) (merged_from (extend_to last s) ss)))
  split true e =
      let h = apart_true last s e in
      front_runs last s ss (merged_from s ss) full from h.0 (λ d. marks_differ _ _ (h.1 d)) apart
  split false e = joined_runs last s ss full from more (same_mark s.mark last.mark) refl (apart_false last s e)

-- merging from a span on gives runs that give the same as the spans, or the first minute with two marks
pub runs_of : (last : Span) (ss : List Span) → last.start < last.past → StartsFrom last.start ss → Runs last ss (merged_from last ss)
runs_of last [] full from = ((full, tt, tt), λ m k. (λ g. g, λ g. g), (refl, refl))
runs_of last (s ∷ ss) full from =
    split_runs last s ss full from (runs_of s ss from.1 from.2)
    (λ h. runs_of (extend_to last s) ss h (starts_lower last.start s.start ss from.0 from.2))

-- merging spans in order gives their canonical list, or the first minute with two marks
pub merged_means : (spans : List Span) → StartsFrom 0 spans → IsMerged spans (merge_spans spans)
merged_means [] h = (tt, λ m k. (λ g. g, λ g. g))
merged_means (s ∷ ss) h = go (merged_from s ss) (runs_of s ss h.1 h.2) where
  go : (r : Result (List Span) ℕ) → Runs s ss r → IsMerged (s ∷ ss) r
  go (Ok out) h = (h.0, h.1)
  go (Err m) h = h

-- likewise for the result of a function
pub merge_means : (spans : List Span) (r : Result (List Span) ℕ) → IsMerged spans r → (runs : List Span) → r ≡ Ok runs → IsCanonical runs × GiveSame runs spans
merge_means spans r h runs e = subst (IsMerged spans) e h

pub merge_fault : (spans : List Span) (r : Result (List Span) ℕ) → IsMerged spans r → (m : ℕ) → r ≡ Err m → IsFirstConflict (Gives spans) m
merge_fault spans r h m e = subst (IsMerged spans) e h

-- ---- one canonical list

-- the first span gives its mark to its first minute
pub first_given : (s : Span) (ss : List Span) → s.start < s.past → Gives (s ∷ ss) s.start s.mark
first_given s ss h = inl ((le_self s.start, h), refl)

pub canonical_starts : (s : Span) (ss : List Span) → IsCanonical (s ∷ ss) → StartsFrom s.past ss
canonical_starts s [] h = tt
canonical_starts s (t ∷ ts) h = (h.1.0, h.2.0, starts_lower t.start t.past ts (omega (arith, h.2.0)) (canonical_starts t ts h.2))

-- ---- what lists give, in whatever order

giver : (xs : List Span) (m : ℕ) (k : Mark) → Gives xs m k → (s : Span) × Contains xs s × Covers s m × (s.mark ≡ k)
giver [] m k g = absurd g
giver (s ∷ ss) m k (inl c) = (s, (zero, omega arith, refl), c.0, c.1)
giver (s ∷ ss) m k (inr g) = let r = giver ss m k g in (r.0, (suc r.1.0, omega (arith, r.1.1), r.1.2), r.2, r.3)

given_at : (xs : List Span) (i : ℕ) (s : Span) (m : ℕ) (k : Mark) → i < length xs → slice_index_or xs i s ≡ s → Covers s m → s.mark ≡ k → Gives xs m k
given_at [] i s m k h e c f = absurd (omega arith)
given_at (t ∷ ts) zero s m k h e c f = inl (subst (λ (x : Span). Covers x m × (x.mark ≡ k)) (sym e) (c, f))
given_at (t ∷ ts) (suc i) s m k h e c f = inr (given_at ts i s m k (omega (arith, h)) e c f)

moved : (xs ys : List Span) → IsPermutation xs ys → (m : ℕ) (k : Mark) → Gives xs m k → Gives ys m k
moved xs ys p m k g =
    let r = giver xs m k g in
    let at = Contains-permutation xs ys r.0 p r.1 in
    given_at ys at.0 r.0 m k at.1 at.2 r.2 r.3

pub moved_same : (xs ys : List Span) → IsPermutation xs ys → GiveSame ys xs
moved_same xs ys p m k = (moved ys xs (IsPermutation-sym xs ys p) m k, moved xs ys p m k)

empty_gives : (s : Span) (m : ℕ) → is_full s ≡ false → Covers s m → ⊥
empty_gives s m h c = let l : s.past ≤ s.start = grind (arith, nat_tests) in absurd (omega (arith, l, c.0, c.1))

-- empty spans give nothing, so the list without them gives the same
pub full_same : (xs : List Span) → GiveSame (filter is_full xs) xs
full_same [] m k = (λ g. g, λ g. g)
full_same (s ∷ ss) m k = go (is_full s) refl (full_same ss m k) where
  go : (b : Bool) → is_full s ≡ b → (Gives (filter is_full ss) m k ↔ Gives ss m k) → Gives (cond b (s ∷ filter is_full ss) (filter is_full ss)) m k ↔ Gives (s ∷ ss) m k
  go true e rest = (there, back) where
    there : (Covers s m × (s.mark ≡ k)) ⊎ Gives (filter is_full ss) m k → Gives (s ∷ ss) m k
    there (inl c) = inl c
    there (inr g) = inr (rest.0 g)

    back : Gives (s ∷ ss) m k → (Covers s m × (s.mark ≡ k)) ⊎ Gives (filter is_full ss) m k
    back (inl c) = inl c
    back (inr g) = inr (rest.1 g)
  go false e rest = ((λ g. inr (rest.0 g)), back) where
    back : Gives (s ∷ ss) m k → Gives (filter is_full ss) m k
    back (inl c) = absurd (empty_gives s m e c.0)
    back (inr g) = rest.1 g

-- nonempty spans, sorted by their starts, are in order
starts_rising : (n : ℕ) (xs : List Span) → AllByRecursion (λ s. is_full s ≡ true) xs → ((i j : ℕ) (d : Span) → i ≤ j → j < length xs → (slice_index_or xs i d).start ≤ (slice_index_or xs j d).start) → ((d : Span) → 0 < length xs → n ≤ (slice_index_or xs 0 d).start) → StartsFrom n xs
starts_rising n [] full up low = tt
starts_rising n (s ∷ ss) full up low = (
  low s (omega arith),
  (let e = full.0 in grind (arith, nat_tests)),
  starts_rising s.start ss full.1 (λ i j d l h. up (suc i) (suc j) d (omega (arith, l)) (omega (arith, h))) (λ d h. up 0 1 d (omega arith) (omega (arith, h))),
)

pub starts_from : (xs : List Span) → All (λ s. is_full s ≡ true) xs → IsNonDecreasingBy (λ s. s.start) xs → StartsFrom 0 xs
starts_from xs full up = starts_rising 0 xs (recursion_from_All _ xs full) up (λ d h. omega arith)

pub sorted_full : (xs ys : List Span) → IsPermutation (filter is_full xs) ys → IsNonDecreasingBy (λ s. s.start) ys → StartsFrom 0 ys
sorted_full xs ys p up = starts_from ys (All-permutation (λ s. is_full s ≡ true) (filter is_full xs) ys p (filter_passes is_full xs)) up

pub sorted_same : (xs ys : List Span) → IsPermutation (filter is_full xs) ys → GiveSame ys xs
sorted_same xs ys p = same_trans ys (filter is_full xs) xs (moved_same (filter is_full xs) ys p) (full_same xs)

-- ---- what the code answers

pub merge_result : {V : Type 0} (items : V → List Span) (spans : List Span) (r : Result V SpanFault) → IsMerged spans (merge_spans spans) → MatchResult r (λ runs. merge_spans spans ≡ Ok (items runs)) (λ fault. IsMergeFault fault (merge_spans spans)) → MatchResult r (λ runs. IsCanonical (items runs) × GiveSame (items runs) spans) (IsFirstFault (Gives spans))
merge_result items spans (Ok v) h e = merge_means spans (merge_spans spans) h (items v) e
merge_result items spans (Err (Contradiction m)) h e = merge_fault spans (merge_spans spans) h m e
merge_result items spans (Err Memory) h e = tt

pub moved_result : {V : Type 0} (items : V → List Span) (spans others : List Span) (r : Result V SpanFault) → GiveSame others spans → MatchResult r (λ runs. IsCanonical (items runs) × GiveSame (items runs) others) (IsFirstFault (Gives others)) → MatchResult r (λ runs. IsCanonicalOf (Gives spans) (items runs)) (IsFirstFault (Gives spans))
moved_result items spans others (Ok v) same h = record { canonical = h.0; same = same_trans (items v) others spans h.1 same }
moved_result items spans others (Err (Contradiction m)) same h = same_first others spans m same h
moved_result items spans others (Err Memory) same h = tt

-- ---- one canonical list

after_start : (s : Span) (ss : List Span) (k : Mark) → IsCanonical (s ∷ ss) → Gives (s ∷ ss) s.start k → s.mark ≡ k
after_start s ss k h (inl c) = c.1
after_start s ss k h (inr g) = let l = later s.past ss s.start k (canonical_starts s ss h) g in absurd (omega (arith, l, h.0))

-- no span of a canonical list gives the first span's mark to the minute at which it ends
pub ends_there : (s : Span) (ss : List Span) → IsCanonical (s ∷ ss) → Gives (s ∷ ss) s.past s.mark → ⊥
ends_there s ss h (inl c) = absurd (omega (arith, c.0.1))
ends_there s [] h (inr g) = g
ends_there s (t ∷ ts) h (inr g) =
    let l = later t.start (t ∷ ts) s.past s.mark (le_self t.start, h.2.0, starts_lower t.start t.past ts (omega (arith, h.2.0)) (canonical_starts t ts h.2)) g in
    let touch : s.past ≡ t.start = omega (arith, l, h.1.0) in
    h.1.1 touch (sym (after_start t ts s.mark h.2 (subst (λ (n : ℕ). Gives (t ∷ ts) n s.mark) touch g)))

starts_le : (s t : Span) (ss ts : List Span) → IsCanonical (s ∷ ss) → IsCanonical (t ∷ ts) → GiveSame (s ∷ ss) (t ∷ ts) → t.start ≤ s.start
starts_le s t ss ts h g same =
    later t.start (t ∷ ts) s.start s.mark (le_self t.start, g.0, starts_lower t.start t.past ts (omega (arith, g.0)) (canonical_starts t ts g)) ((same s.start s.mark).0 (first_given s ss h.0))

pasts_le : (s t : Span) (ss ts : List Span) → IsCanonical (s ∷ ss) → GiveSame (s ∷ ss) (t ∷ ts) → s.start ≡ t.start → t.mark ≡ s.mark → t.past ≤ s.past
pasts_le s t ss ts h same from mark = go (lt_or_le s.past t.past) where
  go : (s.past < t.past) ⊎ (t.past ≤ s.past) → t.past ≤ s.past
  go (inl l) = absurd (ends_there s ss h ((same s.past s.mark).1 (inl ((omega (arith, from, h.0), l), mark))))
  go (inr l) = l

same_span : (s t : Span) → s.start ≡ t.start → s.past ≡ t.past → s.mark ≡ t.mark → s ≡ t
same_span s t a b c =
    let one : s ≡ record { start = t.start; past = s.past; mark = s.mark } = ap (λ (x : ℕ). record { start = x; past = s.past; mark = s.mark }) a in
    let two : record { start = t.start; past = s.past; mark = s.mark } ≡ record { start = t.start; past = t.past; mark = s.mark } = ap (λ (x : ℕ). record { start = t.start; past = x; mark = s.mark }) b in
    let three : record { start = t.start; past = t.past; mark = s.mark } ≡ t = ap (λ (x : Mark). record { start = t.start; past = t.past; mark = x }) c in
    one ∙ two ∙ three

tails : (s t : Span) (ss ts : List Span) → IsCanonical (s ∷ ss) → s.past ≡ t.past → GiveSame (s ∷ ss) (t ∷ ts) → (m : ℕ) (k : Mark) → Gives ss m k → Gives ts m k
tails s t ss ts h e same m k g = go ((same m k).0 (inr g)) where
  go : Gives (t ∷ ts) m k → Gives ts m k
  go (inl c) = let l = later s.past ss m k (canonical_starts s ss h) g in absurd (omega (arith, l, c.0.1, e))
  go (inr x) = x

pub one_list : (xs ys : List Span) → IsCanonical xs → IsCanonical ys → GiveSame xs ys → xs ≡ ys
one_list [] [] h g same = refl
one_list [] (t ∷ ts) h g same = absurd ((same t.start t.mark).1 (first_given t ts g.0))
one_list (s ∷ ss) [] h g same = absurd ((same s.start s.mark).0 (first_given s ss h.0))
one_list (s ∷ ss) (t ∷ ts) h g same =
    let back = same_sym (s ∷ ss) (t ∷ ts) same in
    let a = starts_le s t ss ts h g same in
    let b = starts_le t s ts ss g h back in
    let from : s.start ≡ t.start = omega (arith, a, b) in
    let mark : t.mark ≡ s.mark = after_start t ts s.mark g (subst (λ (n : ℕ). Gives (t ∷ ts) n s.mark) from ((same s.start s.mark).0 (first_given s ss h.0))) in
    let c = pasts_le s t ss ts h same from mark in
    let d = pasts_le t s ts ss g back (sym from) (sym mark) in
    let past : s.past ≡ t.past = omega (arith, c, d) in
    let rest = one_list ss ts h.2 g.2 (λ m k. (tails s t ss ts h past same m k, tails t s ts ss g (sym past) back m k)) in
    ap (λ (x : Span). x ∷ ss) (same_span s t from past (sym mark)) ∙ ap (λ xs. t ∷ xs) rest
