-- What the gains against a line say about the spans from which the line was made.
use Rattle.std.proofs.Common.{◌≡◌, ◌≢◌, ℕ, ◌+◌, ◌<◌, ◌⊎◌, inl, inr, ◌==◌, nat_le, false, cond, List, [], ◌∷◌, ◌++◌, length, Some, None, refl, sym, ap, ◌∙◌, arith}
use Rattle.std.proofs.lemmas.Bool.{eq-eqb}
use Rattle.std.proofs.lemmas.Bool.Decides.{nat_tests}
use Rattle.tacho_time.specs.declared.span.Span.{Span}
use Rattle.tacho_time.specs.declared.span.Mark.{Mark}
use Rattle.tacho_time.specs.Spans.{Gives, IsCanonical, IsCanonicalOf, Conflicts, IsFirstConflict}
use Rattle.tacho_line.specs.declared.line.LineFault.{LineFault}
use Rattle.tacho_line.specs.declared.line.LineFault.TheVariants.{EmptySpan, Contradiction as LineContradiction, Memory as LineMemory}
use Rattle.tacho_line.specs.Line.{Together, empty_from, first_empty, AreGains, IsGainFault}
use Rattle.tacho_line.proofs.LineLemmas.{held_given, given_held}
use Rattle.tacho_line.proofs.MergeLemmas.{append_gives, front_gives, back_gives}
use Rattle.tacho_state.specs.declared.fault.StoreFault.{StoreFault}
use Rattle.tacho_state.specs.declared.fault.StoreFault.TheVariants.{Contradiction, Memory}
use Rattle.tacho_state.specs.Least.{bound, least_conflict, is_within}
use Rattle.tacho_state.specs.Disjoint.{GiveExactly, near, AreInRange}
use Rattle.tacho_state.proofs.DisjointLemmas.{disjoint_canonical}
use Rattle.tacho_state.proofs.NearLemmas.{given_near, near_given}
use Rattle.tacho_state.proofs.GainLemmas.{none_new, some_new, clash_new}
use Rattle.tacho_state.proofs.LeastLemmas.{least_is, none_is, within_is, not_within}
use Rattle.tacho_shelf.specs.Shelf.{IsLeast}

-- canonical spans aren't empty
none_empty_from : (place : ℕ) (spans : List Span) → IsCanonical spans → empty_from place spans ≡ None
none_empty_from place [] h = refl
none_empty_from place (s ∷ spans) h =
    let full : s.start < s.past = h.0 in
    let test : nat_le s.past s.start ≡ false = grind (arith, nat_tests) in
    ap (λ b. cond b (Some place) (empty_from (place + 1) spans)) test ∙ none_empty_from (place + 1) spans h.2

pub none_empty : (spans : List Span) → IsCanonical spans → first_empty spans ≡ None
none_empty spans h = none_empty_from 0 spans h

-- if no span is empty, an empty span isn't the reason why there are no gains
pub no_empty_span : (line spans : List Span) (fault : LineFault) → first_empty spans ≡ None → IsGainFault line spans fault
    → (place : ℕ) → fault ≢ EmptySpan place
no_empty_span line spans (EmptySpan at) h f place e = cc
no_empty_span line spans (LineContradiction m) h f place e = cc
no_empty_span line spans LineMemory h f place e = cc

-- a minute that is given is before `bound`
below_bound : (xs : List Span) (m : ℕ) (k : Mark) → Gives xs m k → m < bound xs
below_bound [] m k g = absurd g
below_bound (s ∷ ss) m k (inl c) = omega (arith, c.0.1)
below_bound (s ∷ ss) m k (inr g) = let l = below_bound ss m k g in omega (arith, l)

-- spans `held`, the line that they give, and other spans
module _ (held line spans : List Span) (known : IsCanonicalOf (Gives held) line) where
  -- ---- two marks

  -- the line and the others together give what both lists give
  to_both : (m : ℕ) (k : Mark) → Together line spans m k → Gives (held ++ spans) m k
  to_both m k (inl h) = front_gives held spans m k ((known.same m k).0 (held_given line m k h))
  to_both m k (inr g) = back_gives held spans m k g

  from_both : (m : ℕ) (k : Mark) → Gives (held ++ spans) m k → Together line spans m k
  from_both m k g = go (append_gives held spans m k g) where
    go : Gives held m k ⊎ Gives spans m k → Together line spans m k
    go (inl x) = inl (given_held line m k known.canonical ((known.same m k).1 x))
    go (inr y) = inr y

  -- so both have the same minutes with two marks
  conflict_from : (m : ℕ) → Conflicts (Gives (held ++ spans)) m → Conflicts (Together line spans) m
  conflict_from m c = (c.0, c.1, from_both m c.0 c.2, from_both m c.1 c.3, c.4)

  -- and the same first such minute
  least_of_both : (m : ℕ) → IsFirstConflict (Together line spans) m → least_conflict (held ++ spans) ≡ Some m
  least_of_both m f =
      let c = f.0 in
      least_is (held ++ spans) m
      ((c.0, c.1, to_both m c.0 c.2, to_both m c.1 c.3, c.4), λ j lt d. f.1 j lt (conflict_from j d))

  -- if there are gains, no minute has two marks
  pub both_agreed : (gains : List Span) → AreGains line spans gains → (m : ℕ) → ¬ (Conflicts (Gives (held ++ spans)) m)
  both_agreed gains g m c = g.agreed m (conflict_from m c)

  pub no_least : (gains : List Span) → AreGains line spans gains → least_conflict (held ++ spans) ≡ None
  no_least gains g = none_is (held ++ spans) (both_agreed gains g)

  -- the fault reports the first such minute
  pub least_by_fault : (fault : LineFault) (told : StoreFault) → IsGainFault line spans fault → first_empty spans ≡ None
      → ((m : ℕ) → fault ≡ LineContradiction m → told ≡ Contradiction m) → (fault ≡ LineMemory → told ≡ Memory)
      → IsLeast (least_conflict (held ++ spans)) told
  least_by_fault (EmptySpan at) told f none c m = cc
  least_by_fault (LineContradiction minute) told f none c m = inr (minute, c minute refl, least_of_both minute f.1)
  least_by_fault LineMemory told f none c m = inl (m refl)

  -- ---- whether `held` gives all that `spans` give

  -- all minutes are before this one
  past : ℕ
  past = bound line + bound spans

  keeps : GiveExactly line (Gives held)
  keeps = record { disjoint = disjoint_canonical line known.canonical; same = known.same }

  -- all minutes of `spans` are in the range from 0 to before it
  all_in_range : AreInRange 0 past spans
  unfolding past
  all_in_range m k g = let l = below_bound spans m k g in (omega arith, omega (arith, l))

  -- all minutes of the line are too
  all_near : IsCanonicalOf (Gives (near 0 past line)) line
  unfolding past
  all_near = record {
    canonical = known.canonical;
    same = (λ m k. (
      λ g. let l = below_bound line m k g in given_near 0 past line m k (omega arith, omega (arith, l)) g,
      near_given 0 past line m k,
    ));
  }

  -- `held` gives all that `spans` give iff there are no gains
  pub within_by_gains : (gains : List Span) (n : ℕ) → n ≡ length gains → AreGains line spans gains → is_within spans held ≡ (n == 0)
  within_by_gains [] n e g =
      within_is spans held (none_new 0 past line line spans (Gives held) keeps all_near g) ∙ sym (eq-eqb n 0 e)
  within_by_gains (x ∷ gains) n e g =
      let more : (n == 0) ≡ false = grind (arith, nat_tests) in
      not_within spans held (some_new 0 past line line spans gains x (Gives held) keeps all_in_range all_near g) ∙ sym more

  -- if they contradict, it doesn't
  pub not_within_by_conflict : (m : ℕ) → IsFirstConflict (Together line spans) m → is_within spans held ≡ false
  not_within_by_conflict m f = not_within spans held (clash_new 0 past line line spans (Gives held) m keeps all_near f)
