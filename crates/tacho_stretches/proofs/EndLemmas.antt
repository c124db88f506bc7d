-- The end of what spans hold.
use Rattle.std.proofs.Common.{◌≡◌, ℕ, ◌+◌, ◌-◌, ◌<◌, ◌≤◌, ◌⊎◌, inl, inr, List, [], ◌∷◌, Bool, true, false, nat_lt, refl, sym, subst, ◌∙◌, arith}
use Rattle.tacho_time.specs.declared.span.Span.{Span}
use Rattle.tacho_time.specs.Spans.{IsCanonical}
use Rattle.tacho_time.proofs.CanonicalLemmas.{canonical_starts, later}
use Rattle.tacho_line.proofs.LineLemmas.{first_holds, rest_holds, held_given}
use Rattle.tacho_line.specs.Walk.{later_of}
use Rattle.std.proofs.lemmas.Bool.Decides.{nat_tests}
use Rattle.std.proofs.Common.{cond}
use Rattle.tacho_stretches.specs.Start.{IsHeld, IsEndOfHeld}

-- the loop's invariant before the remaining spans: the end so far is the base, or the past of an earlier span
pub record IsEndSoFar (spans : List Span) (base : ℕ) (left : List Span) (end : ℕ) : Type 0 where
  pub canonical : IsCanonical left
  pub from : base ≤ end
  pub held : (m : ℕ) → IsHeld left m → IsHeld spans m
  pub after : (m : ℕ) → end ≤ m → IsHeld spans m → IsHeld left m
  pub last : (end ≡ base) ⊎ ((m : ℕ) × (end ≡ m + 1) × IsHeld spans m)

pub end_none : (spans : List Span) (base : ℕ) → IsCanonical spans → IsEndSoFar spans base spans base
end_none spans base h = record {
  canonical = h;
  from = omega arith;
  held = λ m is. is;
  after = λ m l is. is;
  last = inl refl;
}

pub end_all : (spans : List Span) (base end : ℕ) → IsEndSoFar spans base [] end → IsEndOfHeld spans base end
end_all spans base end so = record {
  from = so.from;
  after = λ m l is. (let none = so.after m l is in cc);
  last = so.last;
}

-- a held minute after the first span is held by the others
held_split : (s : Span) (ss : List Span) (m : ℕ) → s.past ≤ m → IsHeld (s ∷ ss) m → IsHeld ss m
held_split s ss m l is = (is.0, sym (rest_holds s ss m l) ∙ is.1)

held_rest : (s : Span) (ss : List Span) (m : ℕ) → IsCanonical (s ∷ ss) → IsHeld ss m → IsHeld (s ∷ ss) m
held_rest s ss m h is =
    let l : s.past ≤ m = later s.past ss m is.0 (canonical_starts s ss h) (held_given ss m is.0 is.1) in
    (is.0, rest_holds s ss m l ∙ is.1)

held_last : (s : Span) (ss : List Span) → s.start < s.past → (m : ℕ) × (s.past ≡ m + 1) × IsHeld (s ∷ ss) m
held_last s ss full = (s.past - 1, omega arith, (s.mark, first_holds s ss (s.past - 1) (omega arith) (omega arith)))

pub end_next : (spans : List Span) (base : ℕ) (s : Span) (ss : List Span) (end new : ℕ) → IsEndSoFar spans base (s ∷ ss) end
    → ((new ≡ end) × (s.past ≤ end)) ⊎ ((new ≡ s.past) × (end ≤ s.past)) → IsEndSoFar spans base ss new
end_next spans base s ss end new so which = record {
  canonical = so.canonical.2;
  from = from which;
  held = λ m is. so.held m (held_rest s ss m so.canonical is);
  after = λ m l is. after m l is which;
  last = last which;
} where
  from : ((new ≡ end) × (s.past ≤ end)) ⊎ ((new ≡ s.past) × (end ≤ s.past)) → base ≤ new
  from (inl w) = let f = so.from in omega (arith, w.0, f)
  from (inr w) = let f = so.from in omega (arith, w.0, w.1, f)

  after : (m : ℕ) → new ≤ m → IsHeld spans m → ((new ≡ end) × (s.past ≤ end)) ⊎ ((new ≡ s.past) × (end ≤ s.past)) → IsHeld ss m
  after m l is (inl w) = held_split s ss m (omega (arith, w.0, w.1, l)) (so.after m (omega (arith, w.0, l)) is)
  after m l is (inr w) = held_split s ss m (omega (arith, w.0, l)) (so.after m (omega (arith, w.0, w.1, l)) is)

  last : ((new ≡ end) × (s.past ≤ end)) ⊎ ((new ≡ s.past) × (end ≤ s.past)) → (new ≡ base) ⊎ ((m : ℕ) × (new ≡ m + 1) × IsHeld spans m)
  last (inl w) = subst (λ (e : ℕ). (e ≡ base) ⊎ ((m : ℕ) × (e ≡ m + 1) × IsHeld spans m)) (sym w.0) so.last
  last (inr w) =
      let h = held_last s ss so.canonical.0 in
      inr (h.0, w.0 ∙ h.1, so.held h.0 h.2)

-- the later of two minutes is one of them
pub which_is : (end past new : ℕ) → new ≡ later_of end past → ((new ≡ end) × (past ≤ end)) ⊎ ((new ≡ past) × (end ≤ past))
which_is end past new e = go (nat_lt end past) refl e where
  go : (b : Bool) → nat_lt end past ≡ b → new ≡ cond b past end → ((new ≡ end) × (past ≤ end)) ⊎ ((new ≡ past) × (end ≤ past))
  go true t e = inr (e, grind (arith, nat_tests))
  go false t e = inl (e, grind (arith, nat_tests))
