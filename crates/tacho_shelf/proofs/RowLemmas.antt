-- Facts about one driver of a shelf.
use Rattle.std.proofs.Common.{◌≡◌, ℕ, List, ◌++◌, Option, Some, None, IfSome, subst, refl, sym, ap, ◌∙◌}
use Rattle.std.proofs.Math.Path.{fun_ext}
use Rattle.tacho_time.specs.declared.span.Span.{Span}
use Rattle.tacho_time.specs.declared.span.Mark.{Mark}
use Rattle.tacho_time.specs.Spans.{Gives, IsCanonicalOf, Conflicts}
use Rattle.tacho_line.specs.Line.{mark_at}
use Rattle.tacho_line.proofs.LineLemmas.{held_given, given_held as given_held_in}
use Rattle.tacho_line.proofs.MergeLemmas.{front_gives}
use Rattle.tacho_state.specs.Disjoint.{GiveExactly}
use Rattle.tacho_state.specs.State.{Download, Entry, Driver, State, driver_of, Held, given_spans, entered_spans, held_spans, held_mark}
use Rattle.tacho_state.proofs.DisjointLemmas.{disjoint_canonical}
use Rattle.tacho_state.proofs.MapLemmas.{held_map}
use Rattle.tacho_shelf.specs.Shelf.{AreKept}

-- ---- what a driver holds

-- a driver's downloads give no minute two marks
pub given_agreed : (downloads : List Download) (entries : List Entry) → AreKept downloads entries → (m : ℕ)
    → ¬ (Conflicts (Gives (given_spans downloads)) m)
given_agreed downloads entries h m c = h.agreed m (c.0, c.1, more c.0 c.2, more c.1 c.3, c.4) where
  more : (k : Mark) → Gives (given_spans downloads) m k → Gives (given_spans downloads ++ entered_spans entries) m k
  more k g = front_gives (given_spans downloads) (entered_spans entries) m k g

-- a line of what a driver holds gives each minute the mark with which it is held
pub line_marks : (d : Driver) (line : List Span) → IsCanonicalOf (Held d) line → mark_at line ≡ held_mark d
line_marks d line h = fun_ext (λ m. go m (mark_at line m) refl (held_mark d m) refl) where
  go : (m : ℕ) (a : Option Mark) → mark_at line m ≡ a → (b : Option Mark) → held_mark d m ≡ b → mark_at line m ≡ held_mark d m
  go m (Some j) e b f =
      let kept : GiveExactly line (Held d) = record { disjoint = disjoint_canonical line h.canonical; same = h.same } in
      e ∙ sym ((held_map d line m j kept).0 ((h.same m j).0 (held_given line m j e)))
  go m None e (Some k) f =
      let held = given_held_in line m k h.canonical ((h.same m k).1 (held_given (held_spans d) m k f)) in cc
  go m None e None f = e ∙ sym f

-- then it does so at one minute
pub same_mark : (line : List Span) (d : Driver) → mark_at line ≡ held_mark d → (m : ℕ) → mark_at line m ≡ held_mark d m
same_mark line d e m = ap (λ (f : ℕ → Option Mark). f m) e

-- what is true of the driver who was found is true of the one with the number
pub true_of_found : (n : ℕ) (s t : State) (d : Driver) (P : Driver → Type 0) → driver_of n s ≡ Some d → s ≡ t → P d
    → IfSome (driver_of n t) P
true_of_found n s t d P e same p = subst (λ (o : Option Driver). IfSome o P) (sym e ∙ ap (driver_of n) same) p
