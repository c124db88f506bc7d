-- The rows of a form, the hours that fill them in, and what a driver holds once they are entered.
use Rattle.std.proofs.Common.{◌≡◌, ◌∙◌, ◌<◌, ◌≤◌, ◌+◌, ◌++◌, ◌⊎◌, ◌↔◌, ◌∷◌, ℕ, Bool, true, false, cond, List, [], Option, Some, None, Result, Ok, Err, append_assoc, ap, arith, inl, inr, length, nat_lt, refl, subst, sym}
use native.Mathlib.Decide.{dec_lt}
use Rattle.tacho_time.specs.declared.span.Span.{Span}
use Rattle.tacho_line.specs.declared.gap.Gap.{Gap}
use Rattle.tacho_line.specs.Line.{AreGaps, InGaps, IsWithin, covers, mark_at}
use Rattle.tacho_line.proofs.LineLemmas.{first_holds}
use Rattle.tacho_state.specs.Batch.{Hours, batch_of, entry_of}
use Rattle.tacho_state.specs.declared.fault.StoreFault.{StoreFault}
use Rattle.tacho_state.specs.declared.fault.StoreFault.TheVariants.{Full}
use Rattle.tacho_state.specs.Least.{least_conflict}
use Rattle.tacho_state.specs.State.{Driver, Entry, entered_spans, entry_span, given_spans, held_spans, with_batch}
use Rattle.tacho_state.specs.Steps.{enter_own, entered_by, most_records}
use Rattle.tacho_state.proofs.GainLemmas.{entered_append}
use Rattle.tacho_sheet.specs.Form.{AreCut, AreRows, Fills}

-- ---- the minutes of rows

in_front : (xs ys : List Gap) (m : ℕ) → InGaps xs m → InGaps (xs ++ ys) m
in_front [] ys m h = absurd h
in_front (g ∷ xs) ys m (inl w) = inl w
in_front (g ∷ xs) ys m (inr h) = inr (in_front xs ys m h)

in_back : (xs ys : List Gap) (m : ℕ) → InGaps ys m → InGaps (xs ++ ys) m
in_back [] ys m h = h
in_back (g ∷ xs) ys m h = inr (in_back xs ys m h)

in_either : (xs ys : List Gap) (m : ℕ) → InGaps (xs ++ ys) m → InGaps xs m ⊎ InGaps ys m
in_either [] ys m h = inr h
in_either (g ∷ xs) ys m (inl w) = inl (inl w)
in_either (g ∷ xs) ys m (inr h) = go (in_either xs ys m h) where
  go : InGaps xs m ⊎ InGaps ys m → InGaps (g ∷ xs) m ⊎ InGaps ys m
  go (inl x) = inl (inr x)
  go (inr y) = inr y

-- a range that is cut into rows isn't empty
pub cut_full : (start past : ℕ) (rows : List Gap) → AreCut start past rows → start < past
cut_full start past [] h = absurd h
cut_full start past (r ∷ []) h = h.2
cut_full start past (r ∷ next ∷ rows) h =
    let deep = cut_full r.past past (next ∷ rows) h.2 in
    let end = h.1 in
    omega arith

-- its rows have each of its minutes
cut_covers : (start past : ℕ) (rows : List Gap) (m : ℕ) → AreCut start past rows → start ≤ m → m < past → InGaps rows m
cut_covers start past [] m h low high = absurd h
cut_covers start past (r ∷ []) m h low high = let first = h.0 in let last = h.1 in inl (omega arith, omega arith)
cut_covers start past (r ∷ next ∷ rows) m h low high =
    let first = h.0 in
    elim (dec_lt m r.past) [
      | yes below ↦ inl (omega arith, below)
      | no above ↦ inr (cut_covers r.past past (next ∷ rows) m h.2 (omega arith) high)
    ]

-- its rows have no other minute
cut_within : (start past : ℕ) (rows : List Gap) (m : ℕ) → AreCut start past rows → InGaps rows m → IsWithin start past m
cut_within start past [] m h x = absurd x
cut_within start past (r ∷ []) m h (inl w) =
    let first = h.0 in
    let last = h.1 in
    let low = w.0 in
    let high = w.1 in
    (omega arith, omega arith)
cut_within start past (r ∷ []) m h (inr x) = absurd x
cut_within start past (r ∷ next ∷ rows) m h (inl w) =
    let first = h.0 in
    let full = cut_full r.past past (next ∷ rows) h.2 in
    let low = w.0 in
    let high = w.1 in
    (omega arith, omega arith)
cut_within start past (r ∷ next ∷ rows) m h (inr x) =
    let end = h.1 in
    let deep = cut_within r.past past (next ∷ rows) m h.2 x in
    let low = deep.0 in
    (omega arith, deep.1)

-- the rows of gaps have each minute of the gaps
pub rows_cover : (gaps rows : List Gap) (m : ℕ) → AreRows gaps rows → InGaps gaps m → InGaps rows m
rows_cover [] rows m h x = absurd x
rows_cover (g ∷ gaps) rows m h (inl w) =
    subst (λ (l : List Gap). InGaps l m) (sym h.2) (in_front h.0 h.1 m (cut_covers g.start g.past h.0 m h.3 w.0 w.1))
rows_cover (g ∷ gaps) rows m h (inr x) = subst (λ (l : List Gap). InGaps l m) (sym h.2) (in_back h.0 h.1 m (rows_cover gaps h.1 m h.4 x))

-- the rows of gaps have no other minute
pub rows_within : (gaps rows : List Gap) (m : ℕ) → AreRows gaps rows → InGaps rows m → InGaps gaps m
rows_within [] rows m h x = subst (λ (l : List Gap). InGaps l m) h x
rows_within (g ∷ gaps) rows m h x =
    go (in_either h.0 h.1 m (subst (λ (l : List Gap). InGaps l m) h.2 x)) (λ y. rows_within gaps h.1 m h.4 y) where
      go : InGaps h.0 m ⊎ InGaps h.1 m → (InGaps h.1 m → InGaps gaps m) → InGaps (g ∷ gaps) m
      go (inl y) deep = inl (cut_within g.start g.past h.0 m h.3 y)
      go (inr y) deep = inr (deep y)

pub rows_same : (gaps rows : List Gap) → AreRows gaps rows → (m : ℕ) → InGaps gaps m ↔ InGaps rows m
rows_same gaps rows h m = (λ x. rows_cover gaps rows m h x, λ x. rows_within gaps rows m h x)

-- ---- what the hours of a filled-in form hold

-- if joined lists don't hold a minute, neither list does
none_front : (xs ys : List Span) (m : ℕ) → mark_at (xs ++ ys) m ≡ None → mark_at xs m ≡ None
none_front [] ys m h = refl
none_front (s ∷ xs) ys m h = go (covers s m) (none_front xs ys m) h where
  go : (b : Bool) → (mark_at (xs ++ ys) m ≡ None → mark_at xs m ≡ None) → cond b (Some s.mark) (mark_at (xs ++ ys) m) ≡ None
      → cond b (Some s.mark) (mark_at xs m) ≡ None
  go true deep e = absurd (cc e)
  go false deep e = deep e

none_back : (xs ys : List Span) (m : ℕ) → mark_at (xs ++ ys) m ≡ None → mark_at ys m ≡ None
none_back [] ys m h = h
none_back (s ∷ xs) ys m h = go (covers s m) (none_back xs ys m) h where
  go : (b : Bool) → (mark_at (xs ++ ys) m ≡ None → mark_at ys m ≡ None) → cond b (Some s.mark) (mark_at (xs ++ ys) m) ≡ None
      → mark_at ys m ≡ None
  go true deep e = absurd (cc e)
  go false deep e = deep e

-- each minute of a filled-in row is held
filled_hold : (rows : List Gap) (hours : List Hours) (m : ℕ) → Fills rows hours → mark_at (entered_spans (batch_of hours)) m ≡ None
    → InGaps rows m → ⊥
filled_hold [] hours m f e x = absurd x
filled_hold (r ∷ rows) [] m f e x = absurd f
filled_hold (r ∷ rows) (h ∷ hours) m f e (inl w) =
    let start = f.0 in
    let past = f.1 in
    let low = w.0 in
    let high = w.1 in
    let held = first_holds (entry_span (entry_of h)) (entered_spans (batch_of hours)) m (omega arith) (omega arith) in
    absurd (cc (sym held ∙ e))
filled_hold (r ∷ rows) (h ∷ hours) m f e (inr x) =
    filled_hold rows hours m f.4 (none_back (entry_span (entry_of h) ∷ []) (entered_spans (batch_of hours)) m e) x

-- ---- what a driver holds after a batch

-- the driver in an answer, or `other` if the answer is a fault
abbrev driver_told : Driver → Result (ℕ × Driver) StoreFault → Driver
driver_told other (Ok told) = told.1
driver_told other (Err fault) = other

-- an accepted batch gives the driver with the batch
entered_is : (batch : List Entry) (d after : Driver) (first : ℕ) (found : Option ℕ) → entered_by batch d found ≡ Ok (first, after)
    → after ≡ with_batch batch d
entered_is batch d after first (Some m) e = absurd (cc e)
entered_is batch d after first None e = go (nat_lt most_records (length d.entries + length batch)) e where
  Told : Type 0
  Told = Result (ℕ × Driver) StoreFault

  go : (b : Bool) → cond {A = Told} b (Err Full) (Ok (1 + length d.entries, with_batch batch d)) ≡ Ok (first, after)
      → after ≡ with_batch batch d
  go true h = absurd (cc h)
  go false h = sym (ap (driver_told d) h)

-- the driver then holds what they held before, and what the batch gives
held_after : (batch : List Entry) (d : Driver) → held_spans (with_batch batch d) ≡ held_spans d ++ entered_spans batch
held_after batch d =
    ap (λ (l : List Span). given_spans d.downloads ++ l) (entered_append d.entries batch)
    ∙ sym (append_assoc (given_spans d.downloads) (entered_spans d.entries) (entered_spans batch))

-- hours that fill in each row leave no gap
pub filled_leaves_none : (d after : Driver) (base end first : ℕ) (gaps rows : List Gap) (hours : List Hours)
    → AreGaps (held_spans d) base end gaps → AreRows gaps rows → Fills rows hours → enter_own (batch_of hours) d ≡ Ok (first, after)
    → AreGaps (held_spans after) base end []
filled_leaves_none d after base end first gaps rows hours g r f e = record {
  apart = tt;
  lacking = λ m. (λ x. absurd x, λ w. none m w.0 w.1);
} where
  batch : List Entry
  batch = batch_of hours

  same : held_spans after ≡ held_spans d ++ entered_spans batch
  same = ap held_spans (entered_is batch d after first (least_conflict (held_spans d ++ entered_spans batch)) e) ∙ held_after batch d

  none : (m : ℕ) → IsWithin base end m → mark_at (held_spans after) m ≡ None → ⊥
  none m w lacks =
      let both : mark_at (held_spans d ++ entered_spans batch) m ≡ None = ap (λ (l : List Span). mark_at l m) (sym same) ∙ lacks in
      let lacked = (g.lacking m).1 (w, none_front (held_spans d) (entered_spans batch) m both) in
      filled_hold rows hours m f (none_back (held_spans d) (entered_spans batch) m both) (rows_cover gaps rows m r lacked)
