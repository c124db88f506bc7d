-- The hours that fill in a form contradict nothing that a driver holds.
use Rattle.std.proofs.Common.{◌≡◌, ◌≢◌, ◌<◌, ◌≤◌, ◌++◌, ◌⊎◌, ◌∷◌, ℕ, Bool, true, false, cond, List, [], Option, Some, None, arith, inl, inr, refl, subst, sym}
use Rattle.tacho_time.specs.declared.span.Span.{Span}
use Rattle.tacho_time.specs.declared.span.Mark.{Mark}
use Rattle.tacho_time.specs.Spans.{Conflicts, Gives}
use Rattle.tacho_line.specs.declared.gap.Gap.{Gap}
use Rattle.tacho_line.specs.Line.{AreGaps, AreGapsApart, BeginsAfter, InGaps, covers, mark_at}
use Rattle.tacho_line.proofs.LineLemmas.{first_holds}
use Rattle.tacho_state.specs.Batch.{Hours, batch_of, entry_of}
use Rattle.tacho_state.specs.Disjoint.{AreDisjoint}
use Rattle.tacho_state.specs.Least.{least_conflict}
use Rattle.tacho_state.specs.State.{Driver, Held, entered_spans, entry_span, held_spans}
use Rattle.tacho_state.proofs.DisjointLemmas.{disjoint_agrees}
use Rattle.tacho_state.proofs.LeastLemmas.{none_is}
use Rattle.tacho_sheet.specs.Form.{AreCut, AreRows, Fills}
use Rattle.tacho_sheet.proofs.FilledLemmas.{cut_full, rows_within}

-- ---- the order of rows

-- the rows aren't empty; each starts where the one before it ends, or later
abbrev AreAfter : ℕ → List Gap → Type 0
AreAfter before [] = Unit {0}
AreAfter before (r ∷ rows) = (before ≤ r.start) × (r.start < r.past) × AreAfter r.past rows

cut_after : (before start past : ℕ) (rows back : List Gap) → before ≤ start → AreCut start past rows → AreAfter past back
    → AreAfter before (rows ++ back)
cut_after before start past [] back after h t = absurd h
cut_after before start past (r ∷ []) back after h t =
    let from = h.0 in
    let to = h.1 in
    let full = h.2 in
    (omega arith, omega arith, subst (λ (p : ℕ). AreAfter p back) (sym to) t)
cut_after before start past (r ∷ next ∷ rows) back after h t =
    let from = h.0 in
    let to = h.1 in
    (omega arith, omega arith, cut_after r.past r.past past (next ∷ rows) back (omega arith) h.2 t)

-- the first gap begins at `before` or later
abbrev BeginsFrom : ℕ → List Gap → Type 0
BeginsFrom before [] = Unit {0}
BeginsFrom before (g ∷ gaps) = before ≤ g.start

begins : (g : Gap) (gaps : List Gap) → BeginsAfter g gaps → BeginsFrom g.past gaps
begins g [] h = tt
begins g (next ∷ gaps) h = omega arith

rows_after : (before : ℕ) (gaps rows : List Gap) → AreGapsApart gaps → BeginsFrom before gaps → AreRows gaps rows → AreAfter before rows
rows_after before [] rows a b h = subst (λ (l : List Gap). AreAfter before l) (sym h) tt
rows_after before (g ∷ gaps) rows a b h =
    subst (λ (l : List Gap). AreAfter before l) (sym h.2)
    (cut_after before g.start g.past h.0 h.1 b h.3 (rows_after g.past gaps h.1 a.2 (begins g gaps a.1) h.4))

from_zero : (gaps : List Gap) → BeginsFrom 0 gaps
from_zero [] = tt
from_zero (g ∷ gaps) = omega arith

-- no row has a minute before the first
not_before : (before : ℕ) (rows : List Gap) (m : ℕ) → AreAfter before rows → InGaps rows m → before ≤ m
not_before before [] m h x = absurd x
not_before before (r ∷ rows) m h (inl w) =
    let low = h.0 in
    let from = w.0 in
    omega arith
not_before before (r ∷ rows) m h (inr x) =
    let deep = not_before r.past rows m h.2 x in
    let low = h.0 in
    let full = h.1 in
    omega arith

-- ---- what the hours give

-- a minute of the hours is one of the rows
filled_within : (rows : List Gap) (hours : List Hours) (m : ℕ) (k : Mark) → Fills rows hours → Gives (entered_spans (batch_of hours)) m k
    → InGaps rows m
filled_within [] [] m k f g = absurd g
filled_within [] (h ∷ hours) m k f g = absurd f
filled_within (r ∷ rows) [] m k f g = absurd f
filled_within (r ∷ rows) (h ∷ hours) m k f (inl c) =
    let start = f.0 in
    let past = f.1 in
    let low = c.0.0 in
    let high = c.0.1 in
    inl (omega arith, omega arith)
filled_within (r ∷ rows) (h ∷ hours) m k f (inr g) = inr (filled_within rows hours m k f.4 g)

-- no minute is in two of them
filled_disjoint : (before : ℕ) (rows : List Gap) (hours : List Hours) → AreAfter before rows → Fills rows hours
    → AreDisjoint (entered_spans (batch_of hours))
filled_disjoint before [] [] a f = tt
filled_disjoint before [] (h ∷ hours) a f = absurd f
filled_disjoint before (r ∷ rows) [] a f = absurd f
filled_disjoint before (r ∷ rows) (h ∷ hours) a f =
    let start = f.0 in
    let past = f.1 in
    let full = a.1 in
    (omega arith, apart, filled_disjoint r.past rows hours a.2 f.4) where
      apart : (m : ℕ) (j k : Mark) → Gives (entry_span (entry_of h) ∷ []) m j → Gives (entered_spans (batch_of hours)) m k → ⊥
      apart m j k (inl c) g =
          let later = not_before r.past rows m a.2 (filled_within rows hours m k f.4 g) in
          let past = f.1 in
          let high = c.0.1 in
          absurd (omega arith)
      apart m j k (inr c) g = absurd c

-- ---- beside what is held

either : (xs ys : List Span) (m : ℕ) (k : Mark) → Gives (xs ++ ys) m k → Gives xs m k ⊎ Gives ys m k
either [] ys m k g = inr g
either (x ∷ xs) ys m k (inl c) = inl (inl c)
either (x ∷ xs) ys m k (inr g) = go (either xs ys m k g) where
  go : Gives xs m k ⊎ Gives ys m k → Gives (x ∷ xs) m k ⊎ Gives ys m k
  go (inl h) = inl (inr h)
  go (inr h) = inr h

-- a minute with a mark isn't lacking
given_marked : (xs : List Span) (m : ℕ) (k : Mark) → Gives xs m k → mark_at xs m ≡ None → ⊥
given_marked [] m k g e = absurd g
given_marked (x ∷ xs) m k (inl c) e = (let held = first_holds x xs m c.0.0 c.0.1 in absurd (cc))
given_marked (x ∷ xs) m k (inr g) e = go (covers x m) (given_marked xs m k g) e where
  go : (b : Bool) → (mark_at xs m ≡ None → ⊥) → cond b (Some x.mark) (mark_at xs m) ≡ None → ⊥
  go true deep h = absurd (cc h)
  go false deep h = deep h

pub accepted : (d : Driver) (base end : ℕ) (gaps rows : List Gap) (hours : List Hours) → ((m : ℕ) → ¬ (Conflicts (Held d) m))
    → AreGaps (held_spans d) base end gaps → AreRows gaps rows → Fills rows hours
    → least_conflict (held_spans d ++ entered_spans (batch_of hours)) ≡ None
accepted d base end gaps rows hours one g r f = none_is (held_spans d ++ entered) agree where
  entered : List Span
  entered = entered_spans (batch_of hours)

  apart : (m : ℕ) (j k : Mark) → Gives (held_spans d) m j → Gives entered m k → ⊥
  apart m j k x y =
      let lacks = ((g.lacking m).0 (rows_within gaps rows m r (filled_within rows hours m k f y))).1 in
      given_marked (held_spans d) m j x lacks

  disjoint : AreDisjoint entered
  disjoint = filled_disjoint 0 rows hours (rows_after 0 gaps rows g.apart (from_zero gaps) r) f

  both : (m : ℕ) (j k : Mark) → Gives (held_spans d) m j ⊎ Gives entered m j → Gives (held_spans d) m k ⊎ Gives entered m k → (j ≢ k) → ⊥
  both m j k (inl x) (inl y) ne = one m (j, k, x, y, ne)
  both m j k (inl x) (inr y) ne = apart m j k x y
  both m j k (inr x) (inl y) ne = apart m k j y x
  both m j k (inr x) (inr y) ne = disjoint_agrees entered m disjoint (j, k, x, y, ne)

  agree : (m : ℕ) → Conflicts (Gives (held_spans d ++ entered)) m → ⊥
  agree m c = both m c.0 c.1 (either (held_spans d) entered m c.0 c.2) (either (held_spans d) entered m c.1 c.3) c.4
