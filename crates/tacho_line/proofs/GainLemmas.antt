-- What spans give that a line doesn't hold.
use Rattle.std.proofs.Common.{◌≡◌, ◌≢◌, ℕ, ◌+◌, ◌<◌, ◌≤◌, ◌⊎◌, inl, inr, nat_lt, nat_le, Bool, true, false, cond, List, [], ◌∷◌, ◌++◌, Option, Some, None, map, refl, sym, ap, ◌∙◌, subst, arith, unwrap_or}
use Rattle.std.proofs.lemmas.Iterator.Adapters.{position_from-zero}
use Rattle.std.specs.List.{position, position_from}
use Rattle.tacho_time.specs.declared.span.Span.{Span}
use Rattle.tacho_time.specs.declared.span.Mark.{Mark}
use Rattle.tacho_time.specs.declared.canonical.SpanFault.{SpanFault}
use Rattle.tacho_time.specs.declared.canonical.SpanFault.TheVariants.{Contradiction as Clash, Memory as NoMemory}
use Rattle.tacho_time.specs.Spans.{Gives, IsCanonical, IsCanonicalOf, Conflicts, IsFirstConflict}
use Rattle.tacho_time.specs.Merge.{same_mark, IsFirstFault}
use Rattle.tacho_time.proofs.CanonicalLemmas.{later, canonical_starts, marks_equal, marks_differ}
use Rattle.tacho_line.specs.declared.gap.Gap.{Gap}
use Rattle.tacho_line.specs.declared.line.LineFault.{LineFault}
use Rattle.tacho_line.specs.declared.line.LineFault.TheVariants.{Contradiction, Memory}
use Rattle.tacho_line.specs.Line.{mark_at, Together, IsWithin, InGaps, AreGapsApart, AreGaps, is_empty, empty_from, first_empty, AreGains, IsGainFault}
use Rattle.tacho_line.specs.Search.{from_minute, overlap}
use Rattle.tacho_line.specs.Walk.{gap_between, gaps_from, later_of, cut_to}
use Rattle.tacho_line.specs.Gains.{conflict_in, first_or, conflict_of, span_between, new_from, lacking_of, IsConflictOf}
use Rattle.tacho_line.proofs.LineLemmas.{canonical_from, held_given, given_held, overlap_holds}
use Rattle.tacho_line.proofs.RangeLemmas.{Meet, overlap_meet, overlap_canonical, gaps_are, cuts_give, gives_cuts, later_facts, later_least, later_below}
use Rattle.tacho_line.proofs.MergeLemmas.{append_gives, front_gives, back_gives, canonical_join, parts_before, parts_apart, front_part, rest_part}

-- ---- the first empty span

position_empty : (place : ℕ) (xs : List Span) → position_from is_empty place xs ≡ empty_from place xs
position_empty place [] = refl
position_empty place (s ∷ ss) = ap (λ o. cond (is_empty s) (Some place) o) (position_empty (place + 1) ss)

pub position_is : (xs : List Span) → position is_empty xs ≡ first_empty xs
position_is xs = position_from-zero is_empty xs ∙ position_empty 0 xs

-- ---- what is new of one run

-- gaps as spans with a mark
abbrev marked : Mark → List Gap → List Span
marked mark [] = []
marked mark (g ∷ gaps) = record { start = g.start; past = g.past; mark = mark } ∷ marked mark gaps

marked_append : (mark : Mark) (xs ys : List Gap) → marked mark (xs ++ ys) ≡ marked mark xs ++ marked mark ys
marked_append mark [] ys = refl
marked_append mark (g ∷ gaps) ys = ap (λ (x : List Span). record { start = g.start; past = g.past; mark = mark } ∷ x) (marked_append mark gaps ys)

marked_between : (mark : Mark) (a b : ℕ) → span_between mark a b ≡ marked mark (gap_between a b)
marked_between mark a b = go (nat_lt a b) where
  go : (t : Bool) → cond t (record { start = a; past = b; mark = mark } ∷ []) [] ≡ marked mark (cond t (record { start = a; past = b } ∷ []) [])
  go true = refl
  go false = refl

new_marked : (mark : Mark) (m past : ℕ) (xs : List Span) → new_from mark m past xs ≡ marked mark (gaps_from m past xs)
new_marked mark m past [] = marked_between mark m past
new_marked mark m past (s ∷ ss) =
    ap (λ (x : List Span). x ++ new_from mark s.past past ss) (marked_between mark m s.start)
    ∙ ap (λ (x : List Span). marked mark (gap_between m s.start) ++ x) (new_marked mark s.past past ss)
    ∙ sym (marked_append mark (gap_between m s.start) (gaps_from s.past past ss))

marked_gives : (mark : Mark) (gaps : List Gap) (m : ℕ) (k : Mark) → Gives (marked mark gaps) m k → InGaps gaps m × (mark ≡ k)
marked_gives mark [] m k g = absurd g
marked_gives mark (x ∷ gaps) m k (inl c) = (inl c.0, c.1)
marked_gives mark (x ∷ gaps) m k (inr g) = let more = marked_gives mark gaps m k g in (inr more.0, more.1)

gaps_marked : (mark : Mark) (gaps : List Gap) (m : ℕ) (k : Mark) → InGaps gaps m → mark ≡ k → Gives (marked mark gaps) m k
gaps_marked mark [] m k g e = absurd g
gaps_marked mark (x ∷ gaps) m k (inl c) e = inl (c, e)
gaps_marked mark (x ∷ gaps) m k (inr g) e = inr (gaps_marked mark gaps m k g e)

marked_canonical : (mark : Mark) (gaps : List Gap) → AreGapsApart gaps → IsCanonical (marked mark gaps)
marked_canonical mark [] h = tt
marked_canonical mark (x ∷ []) h = (h.0, tt, tt)
marked_canonical mark (x ∷ y ∷ gaps) h = (h.0, (omega (arith, h.1), λ e d. absurd (omega (arith, h.1, e))), marked_canonical mark (y ∷ gaps) h.2)

-- what is new of a run
abbrev new_of : List Span → Span → List Span
new_of held r = new_from r.mark r.start r.past (overlap held r.start r.past)

run_gaps : (held : List Span) (r : Span) → IsCanonical held → AreGaps held r.start r.past (gaps_from r.start r.past (overlap held r.start r.past))
run_gaps held r h = gaps_are held r.start r.past (gaps_from r.start r.past (overlap held r.start r.past)) h refl

run_canonical : (held : List Span) (r : Span) → IsCanonical held → IsCanonical (new_of held r)
run_canonical held r h =
    subst IsCanonical (sym (new_marked r.mark r.start r.past (overlap held r.start r.past))) (marked_canonical r.mark _ (run_gaps held r h).apart)

run_gives : (held : List Span) (r : Span) (m : ℕ) (k : Mark) → IsCanonical held → Gives (new_of held r) m k → Gives (r ∷ []) m k × (mark_at held m ≡ None)
run_gives held r m k h g =
    let d = marked_gives r.mark (gaps_from r.start r.past (overlap held r.start r.past)) m k (subst (λ (x : List Span). Gives x m k) (new_marked r.mark r.start r.past (overlap held r.start r.past)) g) in
    let lack = ((run_gaps held r h).lacking m).0 d.0 in
    (inl (lack.0, d.1), lack.1)

gives_run : (held : List Span) (r : Span) (m : ℕ) (k : Mark) → IsCanonical held → Gives (r ∷ []) m k → mark_at held m ≡ None → Gives (new_of held r) m k
gives_run held r m k h (inl c) e =
    subst (λ (x : List Span). Gives x m k) (sym (new_marked r.mark r.start r.past (overlap held r.start r.past)))
    (gaps_marked r.mark _ m k (((run_gaps held r h).lacking m).1 (c.0, e)) c.1)
gives_run held r m k h (inr c) e = absurd c

-- ---- what is new of several runs

pub lacking_gives : (held runs : List Span) (m : ℕ) (k : Mark) → IsCanonical held → Gives (lacking_of held runs) m k → Gives runs m k × (mark_at held m ≡ None)
lacking_gives held [] m k h g = absurd g
lacking_gives held (r ∷ runs) m k h g = go (append_gives (new_of held r) (lacking_of held runs) m k g) (lacking_gives held runs m k h) where
  front : Gives (r ∷ []) m k → Gives (r ∷ runs) m k
  front (inl c) = inl c
  front (inr c) = absurd c

  go : Gives (new_of held r) m k ⊎ Gives (lacking_of held runs) m k → (Gives (lacking_of held runs) m k → Gives runs m k × (mark_at held m ≡ None)) → Gives (r ∷ runs) m k × (mark_at held m ≡ None)
  go (inl x) more = let d = run_gives held r m k h x in (front d.0, d.1)
  go (inr x) more = let d = more x in (inr d.0, d.1)

pub gives_lacking : (held runs : List Span) (m : ℕ) (k : Mark) → IsCanonical held → Gives runs m k → mark_at held m ≡ None → Gives (lacking_of held runs) m k
gives_lacking held [] m k h g e = absurd g
gives_lacking held (r ∷ runs) m k h (inl c) e = front_gives (new_of held r) (lacking_of held runs) m k (gives_run held r m k h (inl c) e)
gives_lacking held (r ∷ runs) m k h (inr g) e = back_gives (new_of held r) (lacking_of held runs) m k (gives_lacking held runs m k h g e)

lacking_canonical : (held runs : List Span) → IsCanonical held → IsCanonical runs → IsCanonical (lacking_of held runs)
lacking_canonical held [] h c = tt
lacking_canonical held (r ∷ runs) h c =
    canonical_join (new_of held r) (lacking_of held runs) (run_canonical held r h) (lacking_canonical held runs h c.2)
    (λ m n j k x y. parts_before (r ∷ []) runs c m n j k (run_gives held r m j h x).0 (lacking_gives held runs n k h y).0)
    (λ m k x y. parts_apart (r ∷ []) runs c m k (run_gives held r m k h x).0 (lacking_gives held runs (m + 1) k h y).0)

-- ---- the first minute with a property

-- the first minute with the property, or none has it
abbrev First : (ℕ → Type 0) → Option ℕ → Type 0
First P (Some m) = P m × ((n : ℕ) → n < m → P n → ⊥)
First P None = (n : ℕ) → P n → ⊥

first_same : (P Q : ℕ → Type 0) (o : Option ℕ) → ((n : ℕ) → P n → Q n) → ((n : ℕ) → Q n → P n) → First P o → First Q o
first_same P Q (Some m) f g h = (f m h.0, λ n l q. h.1 n l (g n q))
first_same P Q None f g h = λ n q. h n (g n q)

-- ---- minutes at which a line and runs have two marks

abbrev Clashes : List Span → List Span → ℕ → Type 0
Clashes xs ys m = (j : Mark) × (k : Mark) × Gives xs m j × Gives ys m k × (j ≢ k)

-- a minute of a line has only one mark
two_marks : (o : Option Mark) (a b : Mark) → o ≡ Some a → o ≡ Some b → a ≡ b
two_marks o a b e f = cc

-- the first span that overlaps a run has another mark
other_mark : (r s : Span) (ss : List Span) → r.start < r.past → IsCanonical (s ∷ ss) → r.start < s.past → s.start < r.past → s.mark ≢ r.mark → First (Clashes (s ∷ ss) (r ∷ [])) (Some (later_of s.start r.start))
other_mark r s ss full h a b d =
    let l = later_facts s.start r.start in (
      (s.mark, r.mark, inl ((l.0, later_below s.start r.start s.past h.0 a), refl), inl ((l.1, later_below s.start r.start r.past b full), refl), d),
      λ n lt c. early n lt c.0 c.1 c.2 c.3,
    ) where
      from_run : (n : ℕ) (k : Mark) → Gives (r ∷ []) n k → r.start ≤ n
      from_run n k (inl c) = c.0.0
      from_run n k (inr c) = absurd c

      early : (n : ℕ) → n < later_of s.start r.start → (j k : Mark) → Gives (s ∷ ss) n j → Gives (r ∷ []) n k → ⊥
      early n lt j k x y =
          let least = later_least s.start r.start n (later s.start (s ∷ ss) n j (canonical_from s ss h) x) (from_run n k y) in absurd (omega (arith, least, lt))

-- the first span that overlaps a run has the same mark, so it doesn't clash
same_clashes : (r s : Span) (ss : List Span) (n : ℕ) → s.mark ≡ r.mark → Clashes (s ∷ ss) (r ∷ []) n → Clashes ss (r ∷ []) n
same_clashes r s ss n e c = go c.0 c.1 c.2 c.3 c.4 where
  go : (j k : Mark) → Gives (s ∷ ss) n j → Gives (r ∷ []) n k → j ≢ k → Clashes ss (r ∷ []) n
  go j k (inl x) (inl y) d = absurd (d (sym x.1 ∙ e ∙ y.1))
  go j k (inl x) (inr y) d = absurd y
  go j k (inr x) y d = (j, k, x, y, d)

run_conflict : (r : Span) (xs : List Span) → r.start < r.past → IsCanonical xs → Meet r.start r.past xs → First (Clashes xs (r ∷ [])) (conflict_in r xs)
run_conflict r [] full h e = λ n c. c.2
run_conflict r (s ∷ ss) full h e = go (same_mark s.mark r.mark) refl (run_conflict r ss full h.2 e.2) where
  go : (b : Bool) → same_mark s.mark r.mark ≡ b → First (Clashes ss (r ∷ [])) (conflict_in r ss) → First (Clashes (s ∷ ss) (r ∷ [])) (cond b (conflict_in r ss) (Some (later_of s.start r.start)))
  go true t more =
      first_same (Clashes ss (r ∷ [])) (Clashes (s ∷ ss) (r ∷ [])) (conflict_in r ss)
      (λ n c. (c.0, c.1, inr c.2, c.3, c.4))
      (λ n c. same_clashes r s ss n (marks_equal s.mark r.mark t) c) more
  go false t more = other_mark r s ss full h e.0 e.1 (marks_differ s.mark r.mark t)

part_given : (line : List Span) (start past m : ℕ) (k : Mark) → Gives (overlap line start past) m k → Gives line m k
part_given line start past m k g = rest_part (λ s. nat_le s.past start) line m k (front_part (λ s. nat_lt s.start past) (from_minute start line) m k g)

given_part : (line : List Span) (start past m : ℕ) (k : Mark) → IsCanonical line → IsWithin start past m → Gives line m k → Gives (overlap line start past) m k
given_part line start past m k h w g = held_given (overlap line start past) m k (overlap_holds line start past m h w ∙ given_held line m k h g)

-- the minutes that one run gives
of_run : (r : Span) (m : ℕ) (k : Mark) → Gives (r ∷ []) m k → IsWithin r.start r.past m
of_run r m k (inl c) = c.0
of_run r m k (inr c) = absurd c

run_clash : (line : List Span) (r : Span) → r.start < r.past → IsCanonical line → First (Clashes line (r ∷ [])) (conflict_in r (overlap line r.start r.past))
run_clash line r full h =
    let part = overlap line r.start r.past in
    first_same (Clashes part (r ∷ [])) (Clashes line (r ∷ [])) (conflict_in r part)
    (λ n c. (c.0, c.1, part_given line r.start r.past n c.0 c.2, c.3, c.4))
    (λ n c. (c.0, c.1, given_part line r.start r.past n c.0 h (of_run r n c.1 c.3) c.2, c.3, c.4))
    (run_conflict r part full (overlap_canonical line r.start r.past h) (overlap_meet line r.start r.past h))

one_run : (r : Span) (runs : List Span) (m : ℕ) (k : Mark) → Gives (r ∷ []) m k → Gives (r ∷ runs) m k
one_run r runs m k (inl c) = inl c
one_run r runs m k (inr c) = absurd c

-- a clash with runs is one with the first run or with a later one
some_run : (line runs : List Span) (r : Span) (n : ℕ) → Clashes line (r ∷ runs) n → Clashes line (r ∷ []) n ⊎ Clashes line runs n
some_run line runs r n c = go c.1 c.3 c.4 where
  go : (k : Mark) → Gives (r ∷ runs) n k → c.0 ≢ k → Clashes line (r ∷ []) n ⊎ Clashes line runs n
  go k (inl x) d = inl (c.0, k, c.2, inl x, d)
  go k (inr x) d = inr (c.0, k, c.2, x, d)

more_runs : (line runs : List Span) (r : Span) (o rest : Option ℕ) → IsCanonical (r ∷ runs) → First (Clashes line (r ∷ [])) o → First (Clashes line runs) rest → First (Clashes line (r ∷ runs)) (first_or o rest)
more_runs line runs r (Some m) rest h f g =
    ((f.0.0, f.0.1, f.0.2, one_run r runs m f.0.1 f.0.3, f.0.4), λ n l c. early n l (some_run line runs r n c)) where
      early : (n : ℕ) → n < m → Clashes line (r ∷ []) n ⊎ Clashes line runs n → ⊥
      early n l (inl c) = f.1 n l c
      early n l (inr c) =
          let from = later r.past runs n c.1 (canonical_starts r runs h) c.3 in
          let to = of_run r m f.0.1 f.0.3 in
          absurd (omega (arith, from, to.1, l))
more_runs line runs r None rest h f g =
    first_same (Clashes line runs) (Clashes line (r ∷ runs)) rest
    (λ n c. (c.0, c.1, c.2, inr c.3, c.4))
    (λ n c. later_run n (some_run line runs r n c)) g where
      later_run : (n : ℕ) → Clashes line (r ∷ []) n ⊎ Clashes line runs n → Clashes line runs n
      later_run n (inl c) = absurd (f n c)
      later_run n (inr c) = c

first_clash : (line runs : List Span) → IsCanonical line → IsCanonical runs → First (Clashes line runs) (conflict_of line runs)
first_clash line [] h c = λ n d. d.3
first_clash line (r ∷ runs) h c =
    more_runs line runs r (conflict_in r (overlap line r.start r.past)) (conflict_of line runs) c (run_clash line r c.0 h) (first_clash line runs h c.2)

-- ---- a line and spans together

clash_together : (line runs spans : List Span) (m : ℕ) → IsCanonical line → ((k : Mark) → Gives runs m k → Gives spans m k) → Clashes line runs m → Conflicts (Together line spans) m
clash_together line runs spans m h same c = (c.0, c.1, inl (given_held line m c.0 h c.2), inr (same c.1 c.3), c.4)

-- if the spans don't have two marks for a minute, a second mark for it comes from the line
together_clash : (line runs spans : List Span) (m : ℕ) → ((k : Mark) → Gives spans m k → Gives runs m k) → (Conflicts (Gives spans) m → ⊥) → Conflicts (Together line spans) m → Clashes line runs m
together_clash line runs spans m same alone c = go c.0 c.1 c.2 c.3 c.4 where
  go : (a b : Mark) → Together line spans m a → Together line spans m b → a ≢ b → Clashes line runs m
  go a b (inl x) (inl y) d = absurd (d (two_marks (mark_at line m) a b x y))
  go a b (inl x) (inr y) d = (a, b, held_given line m a x, same b y, d)
  go a b (inr x) (inl y) d = (b, a, held_given line m b y, same a x, λ e. d (sym e))
  go a b (inr x) (inr y) d = absurd (alone (a, b, x, y, d))

-- a set that has a canonical list has no minute with two marks
no_conflict : (P : ℕ → Mark → Type 0) (runs : List Span) (m : ℕ) → IsCanonicalOf P runs → Conflicts P m → ⊥
no_conflict P runs m r c =
    c.4 (two_marks (mark_at runs m) c.0 c.1 (given_held runs m c.0 r.canonical ((r.same m c.0).1 c.2)) (given_held runs m c.1 r.canonical ((r.same m c.1).1 c.3)))

-- the first minute with two marks of a line and spans, if the spans alone have none
agreed_first : (line spans runs : List Span) → IsCanonical line → IsCanonicalOf (Gives spans) runs → First (Conflicts (Together line spans)) (conflict_of line runs)
agreed_first line spans runs h r =
    first_same (Clashes line runs) (Conflicts (Together line spans)) (conflict_of line runs)
    (λ n. clash_together line runs spans n h (λ k. (r.same n k).0))
    (λ n. together_clash line runs spans n (λ k. (r.same n k).1) (no_conflict (Gives spans) runs n r))
    (first_clash line runs h r.canonical)

pub agreed_fault : (line spans runs : List Span) (m : ℕ) → IsCanonical line → IsCanonicalOf (Gives spans) runs → first_empty spans ≡ None → conflict_of line runs ≡ Some m → IsGainFault line spans (Contradiction m)
agreed_fault line spans runs m h r full e = (full, subst (First (Conflicts (Together line spans))) e (agreed_first line spans runs h r))

pub gains_are : (line spans runs gains : List Span) → IsCanonical line → IsCanonicalOf (Gives spans) runs → first_empty spans ≡ None → conflict_of line runs ≡ None → gains ≡ lacking_of line runs → AreGains line spans gains
gains_are line spans runs gains h r full e f = subst (AreGains line spans) (sym f) (record {
  full = full;
  agreed = subst (First (Conflicts (Together line spans))) e (agreed_first line spans runs h r);
  new = record {
    canonical = lacking_canonical line runs h r.canonical;
    same = (λ m k. (
      (λ g. let d = lacking_gives line runs m k h g in ((r.same m k).0 d.0, d.1)),
      (λ d. gives_lacking line runs m k h ((r.same m k).1 d.0) d.1),
    ));
  };
})

-- ---- spans that contradict each other

-- what the spans give before their first minute with two marks
module _ (line spans : List Span) (least : ℕ) (h : IsCanonical line) (c : IsFirstConflict (Gives spans) least) where
  abbrev early : List Span
  early = map (cut_to 0 least) spans

  early_given : (n : ℕ) (k : Mark) → n < least → Gives spans n k → Gives early n k
  early_given n k l g = gives_cuts 0 least spans n k (omega arith, l) g

  given_early : (n : ℕ) (k : Mark) → Gives early n k → (n < least) × Gives spans n k
  given_early n k g = let d = cuts_give 0 least spans n k g in (d.0.1, d.1)

  -- before this minute they have no two marks
  early_agree : (n : ℕ) → Conflicts (Gives early) n → ⊥
  early_agree n d =
      let a = given_early n d.0 d.2 in
      let b = given_early n d.1 d.3 in
      c.1 n a.0 (d.0, d.1, a.1, b.1, d.4)

  earlier_conflict : (runs : List Span) → IsCanonicalOf (Gives early) runs → (o : Option ℕ) → First (Clashes line runs) o → IsFirstConflict (Together line spans) (unwrap_or o least)
  earlier_conflict runs r (Some m) f =
      (clash_together line runs spans m h (λ k g. (given_early m k ((r.same m k).0 g)).1) f.0, λ n l d. f.1 n l (none_before_least n (before_least n l) d)) where
        before_least : (n : ℕ) → n < m → n < least
        before_least n l = let d = given_early m f.0.1 ((r.same m f.0.1).0 f.0.3) in omega (arith, d.0, l)

        none_before_least : (n : ℕ) → n < least → Conflicts (Together line spans) n → Clashes line runs n
        none_before_least n l d = together_clash line runs spans n (λ k g. (r.same n k).1 (early_given n k l g)) (c.1 n l) d
  earlier_conflict runs r None f =
      ((c.0.0, c.0.1, inr c.0.2, inr c.0.3, c.0.4), λ n l d. f n (together_clash line runs spans n (λ k g. (r.same n k).1 (early_given n k l g)) (c.1 n l) d))

  pub least_is : (runs : List Span) → IsCanonicalOf (Gives early) runs → IsFirstConflict (Together line spans) (unwrap_or (conflict_of line runs) least)
  least_is runs r = earlier_conflict runs r (conflict_of line runs) (first_clash line runs h r.canonical)

  pub early_fault : (fault : SpanFault) (found : LineFault) → (fault ≡ NoMemory → found ≡ Memory) → IsFirstFault (Gives early) fault → IsConflictOf (Together line spans) found
  early_fault (Clash m) found memory d = absurd (early_agree m d.0)
  early_fault NoMemory found memory d = inl (memory refl)

pub fault_is : (line spans : List Span) (fault : LineFault) → first_empty spans ≡ None → IsConflictOf (Together line spans) fault → IsGainFault line spans fault
fault_is line spans fault full (inl e) = subst (IsGainFault line spans) (sym e) tt
fault_is line spans fault full (inr c) = subst (IsGainFault line spans) (sym c.1) (full, c.2)
