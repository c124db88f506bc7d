-- What a driver holds is a map: if disjoint spans keep it, no minute has two marks.
use Rattle.std.proofs.Common.{◌≡◌, ℕ, inl, inr, ◌↔◌, Bool, true, false, cond, List, [], ◌∷◌, Some, refl, ap, ◌∙◌}
use Rattle.tacho_time.specs.declared.span.Span.{Span}
use Rattle.tacho_time.specs.declared.span.Mark.{Mark}
use Rattle.tacho_time.specs.Spans.{Gives}
use Rattle.tacho_line.specs.Line.{covers, mark_at}
use Rattle.tacho_line.proofs.LineLemmas.{held_given, first_holds}
use Rattle.tacho_state.specs.Disjoint.{GiveExactly}
use Rattle.tacho_state.specs.State.{Driver, Held, held_mark, held_spans}
use Rattle.tacho_state.proofs.DisjointLemmas.{disjoint_one}

-- a minute that spans give has a mark
given_mark : (xs : List Span) (m : ℕ) (k : Mark) → Gives xs m k → (j : Mark) × (mark_at xs m ≡ Some j)
given_mark [] m k g = absurd g
given_mark (s ∷ ss) m k (inl c) = (s.mark, first_holds s ss m c.0.0 c.0.1)
given_mark (s ∷ ss) m k (inr g) = go (covers s m) (given_mark ss m k g) where
  go : (t : Bool) → (j : Mark) × (mark_at ss m ≡ Some j) → (j : Mark) × (cond t (Some s.mark) (mark_at ss m) ≡ Some j)
  go true rest = (s.mark, refl)
  go false rest = rest

-- it is the mark with which the driver holds the minute
pub held_map : (d : Driver) (helds : List Span) (m : ℕ) (mark : Mark) → GiveExactly helds (Held d) → Held d m mark ↔ (held_mark d m ≡ Some mark)
held_map d helds m mark h = (there, held_given (held_spans d) m mark) where
  there : Held d m mark → held_mark d m ≡ Some mark
  there g =
      let found = given_mark (held_spans d) m mark g in
      let one = disjoint_one helds m found.0 mark h.disjoint ((h.same m found.0).1 (held_given (held_spans d) m found.0 found.1))
      ((h.same m mark).1 g) in
      found.1 ∙ ap (λ (k : Mark). Some k) one
