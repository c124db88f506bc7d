-- The gains of spans against a line are their gains against the line's slice around them.
use Rattle.std.proofs.Common.{◌≡◌, ℕ, ◌≤◌, inl, inr, ◌↔◌, List, [], ◌∷◌, ◌++◌, Option, None, Some, refl, sym, ◌∙◌, arith}
use Rattle.std.proofs.lemmas.List.Elements.{All-head, All-tail}
use Rattle.tacho_time.specs.declared.span.Span.{Span}
use Rattle.tacho_time.specs.declared.span.Mark.{Mark}
use Rattle.tacho_time.specs.Spans.{Gives, IsCanonicalOf, Conflicts, IsFirstConflict}
use Rattle.tacho_line.specs.Line.{mark_at, IsWithin, HoldsWithin, Together, IsNew, AreGains}
use Rattle.tacho_line.specs.Local.{AreWithin}
use Rattle.tacho_line.proofs.LineLemmas.{held_given, given_held}

-- ---- the slice and the whole line have the same marks

-- in the range, the slice has the line's marks
same_mark : (line near : List Span) (start past m : ℕ) → IsCanonicalOf (HoldsWithin line start past) near → IsWithin start past m → mark_at near m ≡ mark_at line m
same_mark line near start past m is within = go (mark_at near m) refl where
  some : (k : Mark) → mark_at line m ≡ Some k → mark_at near m ≡ Some k
  some k e = given_held near m k is.canonical ((is.same m k).1 (within, e))

  none : (o : Option Mark) → mark_at line m ≡ o → mark_at near m ≡ None → None ≡ o
  none None e n = refl
  none (Some k) e n = let held = some k e in cc

  go : (o : Option Mark) → mark_at near m ≡ o → mark_at near m ≡ mark_at line m
  go (Some k) e = e ∙ sym ((is.same m k).0 (held_given near m k e)).1
  go None e = e ∙ none (mark_at line m) refl e ∙ refl

-- spans within a range give no minute outside of it
given_within : (start past : ℕ) (spans : List Span) (m : ℕ) (k : Mark) → AreWithin start past spans → Gives spans m k → IsWithin start past m
given_within start past [] m k h g = absurd g
given_within start past (s ∷ ss) m k h (inl g) = let first = All-head (λ (x : Span). (start ≤ x.start) × (x.past ≤ past)) s ss h in (omega (arith, first.0, g.0.0), omega (arith, first.1, g.0.1))
given_within start past (s ∷ ss) m k h (inr g) = given_within start past ss m k (All-tail (λ (x : Span). (start ≤ x.start) × (x.past ≤ past)) s ss h) g

-- ---- contradictions

-- a line has only one mark for a minute, so if a line and spans have two marks for it, the spans give it one
conflict_given : (line spans : List Span) (m : ℕ) → Conflicts (Together line spans) m → (k : Mark) × Gives spans m k
conflict_given line spans m (a, b, inr g, other, differ) = (a, g)
conflict_given line spans m (a, b, inl h, inr g, differ) = (b, g)
conflict_given line spans m (a, b, inl h, inl k, differ) = let same : a ≡ b = cc in absurd (differ same)

-- if two lines have the same mark for a minute, they give it the same together with spans
moved : (line other spans : List Span) (m : ℕ) (k : Mark) → mark_at line m ≡ mark_at other m → Together line spans m k → Together other spans m k
moved line other spans m k e (inl h) = inl (sym e ∙ h)
moved line other spans m k e (inr g) = inr g

-- so a minute has two marks in both cases or in neither
conflict_moved : (line other spans : List Span) (m : ℕ) → mark_at line m ≡ mark_at other m → Conflicts (Together line spans) m → Conflicts (Together other spans) m
conflict_moved line other spans m e c = (c.0, c.1, moved line other spans m c.0 e c.2, moved line other spans m c.1 e c.3, c.4)

-- likewise for the slice and the whole line
near_conflict : (line near spans : List Span) (start past m : ℕ) → IsCanonicalOf (HoldsWithin line start past) near → AreWithin start past spans → Conflicts (Together near spans) m ↔ Conflicts (Together line spans) m
near_conflict line near spans start past m is h = (
  λ c. conflict_moved near line spans m (at (conflict_given near spans m c)) c,
  λ c. conflict_moved line near spans m (sym (at (conflict_given line spans m c))) c,
) where
  at : (k : Mark) × Gives spans m k → mark_at near m ≡ mark_at line m
  at g = same_mark line near start past m is (given_within start past spans m g.0 h g.1)

-- the least minute with two marks is the same
pub near_contradiction : (line near spans : List Span) (start past m : ℕ) → IsCanonicalOf (HoldsWithin line start past) near → AreWithin start past spans → IsFirstConflict (Together near spans) m ↔ IsFirstConflict (Together line spans) m
near_contradiction line near spans start past m is h =
    let both = λ (n : ℕ). near_conflict line near spans start past n is h in (
      λ c. ((both m).0 c.0, λ n l d. c.1 n l ((both n).1 d)),
      λ c. ((both m).1 c.0, λ n l d. c.1 n l ((both n).0 d)),
    )

-- ---- gains

-- the same is new against the slice and against the whole line
near_new : (line near spans : List Span) (start past m : ℕ) (k : Mark) → IsCanonicalOf (HoldsWithin line start past) near → AreWithin start past spans → IsNew near spans m k ↔ IsNew line spans m k
near_new line near spans start past m k is h = (
  λ n. (n.0, sym (at n.0) ∙ n.1),
  λ n. (n.0, at n.0 ∙ n.1),
) where
  at : Gives spans m k → mark_at near m ≡ mark_at line m
  at g = same_mark line near start past m is (given_within start past spans m k h g)

-- the gains are the same
pub near_gains : (line near spans gains : List Span) (start past : ℕ) → IsCanonicalOf (HoldsWithin line start past) near → AreWithin start past spans → AreGains near spans gains ↔ AreGains line spans gains
near_gains line near spans gains start past is h =
    let conflicts = λ (m : ℕ). near_conflict line near spans start past m is h in
    let news = λ (m : ℕ) (k : Mark). near_new line near spans start past m k is h in (
      λ g. record {
        full = g.full;
        agreed = λ m c. g.agreed m ((conflicts m).1 c);
        new = record { canonical = g.new.canonical; same = λ m k. (λ x. (news m k).0 ((g.new.same m k).0 x), λ x. (g.new.same m k).1 ((news m k).1 x)) };
      },
      λ g. record {
        full = g.full;
        agreed = λ m c. g.agreed m ((conflicts m).0 c);
        new = record { canonical = g.new.canonical; same = λ m k. (λ x. (news m k).1 ((g.new.same m k).0 x), λ x. (g.new.same m k).1 ((news m k).0 x)) };
      },
    )

-- ---- a list removed from between others

-- what the lists on both sides give is also given with the list between them
sides : (before list after : List Span) (m : ℕ) (k : Mark) → Gives (before ++ after) m k → Gives (before ++ (list ++ after)) m k
sides [] [] after m k g = g
sides [] (s ∷ ss) after m k g = inr (sides [] ss after m k g)
sides (b ∷ bs) list after m k (inl g) = inl g
sides (b ∷ bs) list after m k (inr g) = inr (sides bs list after m k g)

-- what is given, but not by the list between them, is given by the lists on both sides
outside : (before list after : List Span) (m : ℕ) (k : Mark) → ¬ (Gives list m k) → Gives (before ++ (list ++ after)) m k → Gives (before ++ after) m k
outside [] [] after m k apart g = g
outside [] (s ∷ ss) after m k apart (inl g) = absurd (apart (inl g))
outside [] (s ∷ ss) after m k apart (inr g) = outside [] ss after m k (λ x. apart (inr x)) g
outside (b ∷ bs) list after m k apart (inl g) = inl g
outside (b ∷ bs) list after m k apart (inr g) = inr (outside bs list after m k apart g)

-- a minute that a list doesn't give is given the same without that list
pub taken_out : (before list after : List Span) (m : ℕ) (k : Mark) → ¬ (Gives list m k) → Gives (before ++ (list ++ after)) m k ↔ Gives (before ++ after) m k
taken_out before list after m k apart = (outside before list after m k apart, sides before list after m k)
