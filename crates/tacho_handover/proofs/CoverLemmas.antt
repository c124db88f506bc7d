-- What card files give in a period, beside the newer ones.
use Rattle.std.proofs.Common.{◌≡◌, ◌⊎◌, ◌∙◌, ℕ, ◌<◌, Bool, true, false, not, ◌==◌, List, [], ◌∷◌, Option, Some, None, arith, inl, inr, length, refl, subst, sym}
use Rattle.std.proofs.lemmas.Bool.Decides.{nat_tests}
use Rattle.std.specs.Prelude.{MatchBool}
use Rattle.tacho_time.specs.declared.span.Span.{Span}
use Rattle.tacho_time.specs.declared.span.Mark.{Mark}
use Rattle.tacho_time.specs.Merge.{same_mark}
use Rattle.tacho_time.specs.Spans.{Gives, IsCanonical, IsCanonicalOf, SamePairs}
use Rattle.tacho_time.proofs.CanonicalLemmas.{marks_differ, marks_equal}
use Rattle.tacho_line.specs.Line.{AreGains, Holds, HoldsWithin, IsWithin, Together, mark_at}
use Rattle.tacho_handover.specs.Parcel.{AreHeld, GivenBeside, IsBeside}

module _ (line spans given within gains : List Span) (start past : ℕ) (all : SamePairs (Holds given) (Together [] spans))
    (inside : IsCanonicalOf (HoldsWithin given start past) within) (are : AreGains line within gains) where
  -- what spans give in the period
  gives_within : (m : ℕ) (mark : Mark) → IsWithin start past m → Gives spans m mark → Gives within m mark
  gives_within m mark here gives = (inside.same m mark).1 (here, (all m mark).1 (inr gives))

  within_gives : (m : ℕ) (mark : Mark) → Gives within m mark → IsWithin start past m × Gives spans m mark
  within_gives m mark gives = (let (here, holds) = (inside.same m mark).0 gives in (here, by ((all m mark).0 holds)))
    where
      by : Together [] spans m mark → Gives spans m mark
      by (inl none) = cc
      by (inr given) = given

  -- a minute of the period to which spans and the line give something has one mark
  agrees : (m : ℕ) (mark other : Mark) → Gives within m mark → Holds line m other → Holds line m mark
  agrees m mark other gives holds = by (same_mark other mark) refl
    where
      by : (b : Bool) → same_mark other mark ≡ b → Holds line m mark
      by true e = subst (λ (k : Mark). Holds line m k) (marks_equal other mark e) holds
      by false e = absurd (are.agreed m (other, mark, inl holds, inr gives, marks_differ other mark e))

  -- what they give is held, or it is new
  held_or_new : (m : ℕ) (mark : Mark) → Gives within m mark → Holds line m mark ⊎ Gives gains m mark
  held_or_new m mark gives = by (mark_at line m) refl
    where
      by : (o : Option Mark) → mark_at line m ≡ o → Holds line m mark ⊎ Gives gains m mark
      by None e = inr ((are.new.same m mark).1 (gives, e))
      by (Some other) e = inl (agrees m mark other gives e)

  -- so the line with the gains holds what it held and what they give in the period
  pub beside : (after : List Span) → SamePairs (Holds after) (Together line gains) → SamePairs (Holds after) (GivenBeside line start past spans)
  beside after holds m mark = (λ h. to ((holds m mark).0 h), λ h. (holds m mark).1 (from h))
    where
      to : Together line gains m mark → GivenBeside line start past spans m mark
      to (inl held) = inl held
      to (inr gained) = inr (within_gives m mark ((are.new.same m mark).0 gained).0)

      from : GivenBeside line start past spans m mark → Together line gains m mark
      from (inl held) = inl held
      from (inr (here, gives)) = held_or_new m mark (gives_within m mark here gives)

  -- if there are gains, they give something there that the line doesn't hold
  pub some_beside : (g : Span) (more : List Span) → gains ≡ g ∷ more → IsBeside line start past spans
  some_beside g more is =
      let first : Gives gains g.start g.mark = subst (λ (xs : List Span). Gives xs g.start g.mark) (sym is) (inl ((omega arith, full), refl)) in
      let (gives, none) = (are.new.same g.start g.mark).0 first in
      let (here, given) = within_gives g.start g.mark gives in
      (g.start, g.mark, here, given, λ holds. (let wrong : None ≡ Some g.mark = sym none ∙ holds in cc))
    where
      full : g.start < g.past
      full = (subst IsCanonical is are.new.canonical).0

  -- and if there are none, it holds all
  pub all_held : gains ≡ [] → AreHeld line start past spans
  all_held is m mark here gives = by (held_or_new m mark (gives_within m mark here gives))
    where
      by : Holds line m mark ⊎ Gives gains m mark → Holds line m mark
      by (inl holds) = holds
      by (inr gained) = absurd (subst (λ (xs : List Span). Gives xs m mark) is gained)

  -- which of the two, by the number of gains
  pub beside_or_held : (empty : Bool) → empty ≡ (length gains == 0) → MatchBool (not empty) (IsBeside line start past spans) (AreHeld line start past spans)
  beside_or_held empty is = by gains refl
    where
      by : (xs : List Span) → gains ≡ xs → MatchBool (not empty) (IsBeside line start past spans) (AreHeld line start past spans)
      by [] e =
          let yes : empty ≡ true = rw e at is in
          subst (λ (b : Bool). MatchBool (not b) (IsBeside line start past spans) (AreHeld line start past spans)) (sym yes) (all_held e)
      by (g ∷ more) e =
          let no : empty ≡ false = (rw e at is) ∙ (let some : (length (g ∷ more) == 0) ≡ false = grind (arith, nat_tests) in some) in
          subst (λ (b : Bool). MatchBool (not b) (IsBeside line start past spans) (AreHeld line start past spans)) (sym no) (some_beside g more e)
