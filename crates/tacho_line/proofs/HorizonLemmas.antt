-- The horizon that a pass over spans finds.
use Rattle.std.proofs.Common.{◌≡◌, ℕ, ◌<◌, ◌≤◌, ◌⊎◌, inl, inr, nat_lt, nat_le, Bool, true, false, cond, List, [], ◌∷◌, Option, refl, sym, subst, arith}
use Rattle.std.proofs.lemmas.Bool.Decides.{nat_tests}
use Rattle.tacho_time.specs.declared.span.Span.{Span}
use Rattle.tacho_time.specs.declared.span.Mark.{Mark}
use Rattle.tacho_time.specs.Spans.{IsCanonical}
use Rattle.tacho_time.proofs.CanonicalLemmas.{lt_or_le}
use Rattle.tacho_line.specs.declared.horizon.Cause.TheVariants.{Unknown, Crew}
use Rattle.tacho_line.specs.declared.horizon.Horizon.{Horizon}
use Rattle.tacho_line.specs.Line.{mark_at, IsWithin, IsSingle, IsCrew, IsCause, IsHorizon}
use Rattle.tacho_line.specs.Search.{from_minute}
use Rattle.tacho_line.specs.Walk.{horizon_from}
use Rattle.tacho_line.proofs.SearchLemmas.{rest_canonical, EndsAfter, after_ends, next_ends}
use Rattle.tacho_line.proofs.LineLemmas.{first_holds, rest_holds, none_before, canonical_from, after_holds}

-- after a single span that has the base, the horizon of the rest is that of all
walk_on : (base : ℕ) (s : Span) (ss : List Span) (h : Horizon) → s.start < s.past → s.start ≤ base → base < s.past → s.mark.crew ≡ false → IsHorizon ss s.past h → IsHorizon (s ∷ ss) base h
walk_on base s ss h full from to single more = record {
  from = (let l = more.from in omega (arith, l, to));
  single = (λ m w. held m w (lt_or_le m s.past));
  cause = subst (λ (o : Option Mark). IsCause o h.cause) (sym (rest_holds s ss h.minute more.from)) more.cause;
} where
  held : (m : ℕ) → IsWithin base h.minute m → (m < s.past) ⊎ (s.past ≤ m) → IsSingle (mark_at (s ∷ ss) m)
  held m w (inl l) = subst IsSingle (sym (first_holds s ss m (omega (arith, from, w.0)) l)) single
  held m w (inr l) = subst IsSingle (sym (rest_holds s ss m l)) (more.single m (l, w.1))

pub walk : (base : ℕ) (xs : List Span) → IsCanonical xs → EndsAfter base xs → IsHorizon xs base (horizon_from base xs)
walk base [] h e = record { from = omega arith; single = (λ m w. absurd (omega (arith, w.0, w.1))); cause = refl }
walk base (s ∷ ss) h e = go (nat_lt base s.start) refl (s.mark.crew) refl (walk s.past ss h.2 (next_ends s ss h)) where
  go : (b : Bool) → nat_lt base s.start ≡ b → (d : Bool) → s.mark.crew ≡ d → IsHorizon ss s.past (horizon_from s.past ss)
      → IsHorizon (s ∷ ss) base (cond b (record { minute = base; cause = Unknown }) (cond d (record { minute = base; cause = Crew }) (horizon_from s.past ss)))
  go true t d u more = record {
    from = omega arith;
    single = (λ m w. absurd (omega (arith, w.0, w.1)));
    cause = none_before s.start (s ∷ ss) base (canonical_from s ss h) (grind (arith, nat_tests));
  }
  go false t true u more = let l : s.start ≤ base = grind (arith, nat_tests) in record {
    from = omega arith;
    single = (λ m w. absurd (omega (arith, w.0, w.1)));
    cause = subst IsCrew (sym (first_holds s ss base l e)) u;
  }
  go false t false u more = let l : s.start ≤ base = grind (arith, nat_tests) in walk_on base s ss _ h.0 l e u more

pub horizon_is : (base : ℕ) (xs : List Span) (h : Horizon) → IsCanonical xs → h ≡ horizon_from base (from_minute base xs) → IsHorizon xs base h
horizon_is base xs h known e =
    let found = walk base (from_minute base xs) (rest_canonical (λ s. nat_le s.past base) xs known) (after_ends base xs) in
    let own : IsHorizon (from_minute base xs) base h = subst (λ (x : Horizon). IsHorizon (from_minute base xs) base x) (sym e) found in
    record {
      from = own.from;
      single = (λ m w. subst IsSingle (after_holds base xs m w.0) (own.single m w));
      cause = subst (λ (o : Option Mark). IsCause o h.cause) (after_holds base xs h.minute own.from) own.cause;
    }
