-- Spans that are sorted by their starts are disjoint exactly if they rise; disjoint spans keep what other spans give exactly if both have
-- the same canonical list.
use Rattle.std.proofs.Common.{◌≡◌, ◌∙◌, ℕ, suc, ◌<◌, ◌≤◌, ◌==◌, ◌&&◌, ◌⊎◌, inl, inr, ◌↔◌, Bool, true, false, List, [], ◌∷◌, length, Option, None, Some, refl, sym, ap, subst, arith, ap₂}
use Rattle.std.specs.Bool.{Decides, beq}
use lib.Pointwise.{pointwise}
use Rattle.std.specs.Cmp.{booleans_Decides}
use Rattle.std.proofs.lemmas.Bool.Decides.{Decides-and, Decides-eqb}
use Rattle.std.proofs.lemmas.Slice.Eq.{slice_eq-Decides}
use Rattle.std.specs.Prelude.{Vec, IsTrue}
use Rattle.std.specs.declared.alloc.Global.{Global}
use Rattle.std.specs.List.{slice_index_or}
use Rattle.std.specs.List.Sorted.{IsPermutation, IsNonDecreasingBy}
use Rattle.std.proofs.lemmas.List.Sorted.{IsPermutation-sym}
use Rattle.tacho_time.specs.declared.span.Span.{Span}
use Rattle.tacho_time.specs.declared.span.Mark.{Mark}
use Rattle.tacho_time.specs.Spans.{Gives, GiveSame, SamePairs, IsCanonicalOf, Conflicts}
use Rattle.tacho_time.specs.declared.span.Activity.{Activity}
use Rattle.tacho_time.proofs.CanonicalLemmas.{lt_or_le, one_list}
use Rattle.tacho_line.specs.Join.{ShareNone}
use Rattle.tacho_state.specs.Disjoint.{AreDisjoint, GiveExactly}
use Rattle.tacho_state.proofs.DisjointLemmas.{disjoint_agrees}
use Rattle.tacho_state.proofs.OrderLemmas.{disjoint_moved}
use Rattle.tacho_check.specs.Keeping.{AreSame, Rise, IsListOf}

-- ---- rising spans

-- rising spans give no minute before the first start
rise_later : (n : ℕ) (xs : List Span) (m : ℕ) (k : Mark) → Rise n xs → Gives xs m k → n ≤ m
rise_later n [] m k h g = absurd g
rise_later n (s ∷ ss) m k h (inl c) = omega (arith, h.0, c.0.0)
rise_later n (s ∷ ss) m k h (inr g) = let l = rise_later s.past ss m k h.2 g in omega (arith, h.0, h.1, l)

-- rising spans are disjoint
rise_disjoint : (n : ℕ) (xs : List Span) → Rise n xs → AreDisjoint xs
rise_disjoint n [] h = tt
rise_disjoint n (s ∷ ss) h = (h.1, apart, rise_disjoint s.past ss h.2) where
  apart : ShareNone (s ∷ []) ss
  apart m j k (inl c) y = let l = rise_later s.past ss m k h.2 y in absurd (omega (arith, l, c.0.1))
  apart m j k (inr c) y = absurd c

-- the span after the first of sorted disjoint spans starts where the first ends, or later
next_start : (s : Span) (ss : List Span) → s.start < s.past → ShareNone (s ∷ []) ss → AreDisjoint ss
    → IsNonDecreasingBy (λ x. x.start) (s ∷ ss)
    → (d : Span) → 0 < length ss → s.past ≤ (slice_index_or ss 0 d).start
next_start s [] full share apart up d some = absurd (omega (arith, some))
next_start s (t ∷ ts) full share apart up d some = go (lt_or_le t.start s.past) where
  rose : s.start ≤ t.start
  rose = up 0 1 d (omega arith) (omega arith)

  own : t.start ≤ t.start
  own = omega arith

  go : (t.start < s.past) ⊎ (s.past ≤ t.start) → s.past ≤ t.start
  go (inl early) = absurd (share t.start s.mark t.mark (inl ((rose, early), refl)) (inl ((own, apart.0), refl)))
  go (inr late) = late

-- sorted disjoint spans rise
disjoint_rise : (n : ℕ) (xs : List Span) → AreDisjoint xs → IsNonDecreasingBy (λ s. s.start) xs
    → ((d : Span) → 0 < length xs → n ≤ (slice_index_or xs 0 d).start) → Rise n xs
disjoint_rise n [] h up low = tt
disjoint_rise n (s ∷ ss) h up low = (
  low s (omega arith),
  h.0,
  disjoint_rise s.past ss h.2
      (λ i j d l k. up (suc i) (suc j) d (omega (arith, l)) (omega (arith, k)))
      (next_start s ss h.0 h.1 h.2 up),
)

-- the test of sorted spans decides whether the spans are disjoint
pub decides_disjoint : (spans sorted : List Span) → IsPermutation spans sorted → IsNonDecreasingBy (λ s. s.start) sorted
    → (b : Bool) → (IsTrue b ↔ Rise 0 sorted) → (IsTrue b ↔ AreDisjoint spans)
decides_disjoint spans sorted moved up b h = (
  (λ is. disjoint_moved sorted spans (IsPermutation-sym spans sorted moved) (rise_disjoint 0 sorted (h.0 is))),
  λ apart. h.1 (disjoint_rise 0 sorted (disjoint_moved spans sorted moved apart) up (λ d some. omega arith)),
)

-- ---- equal lists

-- spans are compared field by field; so the test of lists that compares their spans decides whether they are the same
pub lists_decided : (same : Activity → Activity → Bool) → ((a : Activity) → same a a ≡ true) → ((a b : Activity) → same a b ≡ true → a ≡ b)
    → (xs ys : List Span) (r : Bool)
    → r ≡ pointwise (λ (s t : Span). (s.start == t.start) && ((s.past == t.past) && (same s.mark.activity t.mark.activity
    && beq s.mark.crew t.mark.crew))) xs ys → Decides r (xs ≡ ys)
lists_decided same self one = slice_eq-Decides spans where
  spans : (s t : Span) → Decides ((s.start == t.start) && ((s.past == t.past) && (same s.mark.activity t.mark.activity
      && beq s.mark.crew t.mark.crew))) (s ≡ t)
  spans s t =
      let act : Decides (same s.mark.activity t.mark.activity) (s.mark.activity ≡ t.mark.activity) =
      (one s.mark.activity t.mark.activity, λ e. subst (λ a. same s.mark.activity a ≡ true) e (self s.mark.activity)) in
      let all = Decides-and _ _ (Decides-eqb s.start t.start) (Decides-and _ _ (Decides-eqb s.past t.past)
      (Decides-and _ _ act (booleans_Decides s.mark.crew t.mark.crew))) in (
        (λ is.
            let e = all.0 is in
            ap₂ (λ (from past : ℕ). record { start = from; past = past; mark = s.mark }) e.0 e.1.0
            ∙ ap₂ (λ (a : Activity) (c : Bool). record { start = t.start; past = t.past; mark = record { activity = a; crew = c } })
            e.1.1.0 e.1.1.1),
        (λ e. all.1 (
          ap (λ (x : Span). x.start) e,
          (ap (λ (x : Span). x.past) e, (ap (λ (x : Span). x.mark.activity) e, ap (λ (x : Span). x.mark.crew) e)),
        )),
      )

-- ---- what disjoint spans give

-- two lists give the same exactly if their canonical lists are the same
same_given : (xs ys own others : List Span) → IsCanonicalOf (Gives xs) own → IsCanonicalOf (Gives ys) others
    → ((own ≡ others) ↔ GiveSame xs ys)
same_given xs ys own others p q = (there, back) where
  there : own ≡ others → GiveSame xs ys
  there same m k =
      let step : (Gives own m k → Gives others m k) × (Gives others m k → Gives own m k) =
      subst (λ (zs : List Span). (Gives own m k → Gives zs m k) × (Gives zs m k → Gives own m k)) same ((λ g. g), (λ g. g)) in
      (λ g. (q.same m k).0 (step.0 ((p.same m k).1 g)), λ g. (p.same m k).0 (step.1 ((q.same m k).1 g)))

  back : GiveSame xs ys → own ≡ others
  back h = one_list own others p.canonical q.canonical
      (λ m k. (λ g. (q.same m k).1 ((h m k).0 ((p.same m k).0 g)), λ g. (p.same m k).1 ((h m k).1 ((q.same m k).0 g))))

-- a minute with two marks of one of them has two in the other
same_conflict : (xs ys : List Span) (m : ℕ) → GiveSame xs ys → Conflicts (Gives ys) m → Conflicts (Gives xs) m
same_conflict xs ys m h c = (c.0, c.1, (h m c.0).1 c.2, (h m c.1).1 c.3, c.4)

-- disjoint spans give what other spans give exactly if both have a canonical list, which is the same
pub decides_same : (ws given : List Span) (own others : Option (Vec Span Global)) → AreDisjoint ws → IsListOf ws own
    → IsListOf given others → (b : Bool) → (IsTrue b ↔ AreSame own others) → (IsTrue b ↔ GiveSame ws given)
decides_same ws given (Some a) (Some b) apart p q r h =
    let both = same_given ws given a.items b.items p q in (λ is. both.0 (h.0 is), λ same. h.1 (both.1 same))
decides_same ws given (Some a) None apart p q r h =
    (λ is. absurd (h.0 is), λ same. absurd (disjoint_agrees ws q.0 apart (same_conflict ws given q.0 same q.1.0)))
decides_same ws given None b apart p q r h = absurd (disjoint_agrees ws p.0 apart p.1.0)

-- ---- spans that keep what others give

-- disjoint spans that give the same keep it
pub decides_kept : (xs : List Span) (P : ℕ → Mark → Type 0) (kept : Bool) → AreDisjoint xs → (IsTrue kept ↔ SamePairs (Gives xs) P)
    → (IsTrue kept ↔ GiveExactly xs P)
decides_kept xs P kept apart h = (λ is. record { disjoint = apart; same = h.0 is }, λ keeps. h.1 keeps.same)

-- spans that aren't disjoint keep nothing
pub decides_unkept : (xs : List Span) (P : ℕ → Mark → Type 0) (b : Bool) → b ≡ false → (IsTrue b ↔ AreDisjoint xs)
    → (IsTrue false ↔ GiveExactly xs P)
decides_unkept xs P b off h = ((λ is. let e : false ≡ true = is in cc), λ keeps. sym off ∙ h.1 keeps.disjoint)
