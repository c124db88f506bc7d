-- A driver's downloads and entries still satisfy `AreKept` after a card file, a batch or a withdrawal.
use Rattle.std.proofs.Common.{◌≡◌, ℕ, zero, suc, ◌+◌, ◌-◌, ◌<◌, ◌≤◌, ◌⊎◌, inl, inr, ◌==◌, nat_le, Bool, true, false, cond, List, [], ◌∷◌, ◌++◌, length, get_or, slice_get, slice_set, Some, None, All, refl, sym, ap, ◌∙◌, subst, arith}
use Rattle.std.proofs.lemmas.Bool.{eq-eqb}
use Rattle.std.proofs.lemmas.Bool.Decides.{nat_tests}
use Rattle.std.proofs.lemmas.Option.{slice_get_read, slice_get_within}
use Rattle.std.proofs.lemmas.List.{length-append, length-set}
use Rattle.std.proofs.lemmas.List.Elements.{All-head, All-tail}
use Rattle.tacho_time.specs.declared.span.Span.{Span}
use Rattle.tacho_time.specs.declared.span.Mark.{Mark}
use Rattle.tacho_time.specs.Spans.{Gives, Conflicts}
use Rattle.tacho_line.specs.Line.{empty_from, first_empty}
use Rattle.tacho_line.proofs.MergeLemmas.{append_gives, front_gives, back_gives}
use Rattle.tacho_state.specs.Batch.{Hours, IsEntryLine, batch_of}
use Rattle.tacho_state.specs.Limits.{next_number}
use Rattle.tacho_state.specs.State.{Download, Entry, Driver, given_spans, entered_spans, held_spans, entry_from, marked_from}
use Rattle.tacho_state.specs.Steps.{most_records}
use Rattle.tacho_state.proofs.GainLemmas.{batch_held, download_held}
use Rattle.tacho_state.proofs.WithdrawLemmas.{left_given}
use Rattle.tacho_shelf.specs.Shelf.{AreKept, IsEntered}
use Rattle.tacho_shelf.proofs.PlaceLemmas.{entry_numbered}

-- ---- a batch

-- no line of a batch is empty
none_empty_from : (place : ℕ) (lines : List Hours) → All IsEntryLine lines → empty_from place (entered_spans (batch_of lines)) ≡ None
none_empty_from place [] h = refl
none_empty_from place (l ∷ lines) h =
    let full : l.start < l.past = (All-head IsEntryLine l lines h).full in
    let test : nat_le l.past l.start ≡ false = grind (arith, nat_tests) in
    ap (λ b. cond b (Some place) (empty_from (place + 1) (entered_spans (batch_of lines)))) test
    ∙ none_empty_from (place + 1) lines (All-tail IsEntryLine l lines h)

pub none_empty_line : (lines : List Hours) → All IsEntryLine lines → first_empty (entered_spans (batch_of lines)) ≡ None
none_empty_line lines h = none_empty_from 0 lines h

-- ---- what is kept

-- records that give nothing but what some spans give, which give no minute two marks
kept_under : (downloads : List Download) (es : List Entry) (spans : List Span) → ((m : ℕ) → ¬ (Conflicts (Gives spans) m))
    → ((m : ℕ) (k : Mark) → Gives (given_spans downloads ++ entered_spans es) m k → Gives spans m k)
    → length downloads ≤ most_records → length es ≤ most_records → AreKept downloads es
kept_under downloads es spans none back few_downloads few = record {
  agreed = (λ m c. none m (c.0, c.1, back m c.0 c.2, back m c.1 c.3, c.4));
  few_downloads = few_downloads;
  few = few;
}

-- what one of two lists gives, both give
joined : (xs ys : List Span) (m : ℕ) (k : Mark) → Gives xs m k ⊎ Gives ys m k → Gives (xs ++ ys) m k
joined xs ys m k (inl g) = front_gives xs ys m k g
joined xs ys m k (inr g) = back_gives xs ys m k g

-- if numbers are left for so many records, they may be had
pub room_left : (given count first : ℕ) → next_number given count ≡ Some first → given + count ≤ most_records
room_left given count first e = go (nat_le (given + count) 1000000) refl e where
  go : (b : Bool) → nat_le (given + count) 1000000 ≡ b → cond b (Some (given + 1)) None ≡ Some first → given + count ≤ most_records
  go true t f = grind (arith, nat_tests)
  go false t f = cc

-- a download whose spans contradict nothing held, if there is room
pub kept_download : (d : Driver) (part : ℕ) (file : List ℕ) (spans : List Span) → AreKept d.downloads d.entries
    → length d.downloads + 1 ≤ most_records → ((m : ℕ) → ¬ (Conflicts (Gives (held_spans d ++ spans)) m))
    → AreKept (d.downloads ++ record { part = part; file = file; spans = spans } ∷ []) d.entries
kept_download d part file spans kept room none =
    let all = length-append d.downloads (record { part = part; file = file; spans = spans } ∷ []) in
    kept_under (d.downloads ++ record { part = part; file = file; spans = spans } ∷ []) d.entries (held_spans d ++ spans) none
    (λ m k g. joined (held_spans d) spans m k ((download_held part file spans d m k).1 g)) (omega (arith, all, room)) kept.few

-- likewise a batch
pub kept_batch : (batch : List Entry) (d : Driver) → AreKept d.downloads d.entries → length d.entries + length batch ≤ most_records
    → ((m : ℕ) → ¬ (Conflicts (Gives (held_spans d ++ entered_spans batch)) m)) → AreKept d.downloads (d.entries ++ batch)
kept_batch batch d kept room none =
    let all = length-append d.entries batch in
    kept_under d.downloads (d.entries ++ batch) (held_spans d ++ entered_spans batch) none
    (λ m k g. joined (held_spans d) (entered_spans batch) m k ((batch_held batch d m k).1 g)) kept.few_downloads (omega (arith, all, room))

-- ---- an entry that is withdrawn

-- the entry with a number is at the place before it
pub place_of_number : (number : ℕ) (es : List Entry) (e : Entry) → entry_from 1 number es ≡ Some e
    → (1 ≤ number) × (slice_get es (number - 1) ≡ Some e)
place_of_number zero es e h = let none = sym (entry_numbered 0 es) ∙ h in cc
place_of_number (suc k) es e h = (omega arith, ap (slice_get es) (omega arith) ∙ sym (entry_numbered (suc k) es) ∙ h)

-- withdrawing the entry with this number is setting it at its place
marked_at : (i number k : ℕ) (es : List Entry) (x : Entry) → number ≡ i + k → slice_get es k ≡ Some x
    → slice_set es k (record x { withdrawn = true }) ≡ marked_from i number es
marked_at i number k [] x f g = cc
marked_at i number zero (e ∷ es) x f g =
    let t : (i == number) ≡ true = eq-eqb i number (omega (arith, f)) in
    let same : x ≡ e = cc in
    ap (λ (y : Entry). record y { withdrawn = true } ∷ es) same
    ∙ sym (ap (λ b. cond b (record e { withdrawn = true } ∷ es) (e ∷ marked_from (i + 1) number es)) t)
marked_at i number (suc k) (e ∷ es) x f g =
    let t : (i == number) ≡ false = grind (arith, nat_tests) in
    ap (λ (ys : List Entry). e ∷ ys) (marked_at (i + 1) number k es x (omega (arith, f)) g)
    ∙ sym (ap (λ b. cond b (record e { withdrawn = true } ∷ es) (e ∷ marked_from (i + 1) number es)) t)

-- likewise for the entry as it was read at that place
pub marked_there : (number : ℕ) (es : List Entry) (x y : Entry) → IsEntered es number → x ≡ get_or es (number - 1) x
    → y ≡ record x { withdrawn = true } → slice_set es (number - 1) y ≡ marked_from 1 number es
marked_there number es x y h read e =
    let there = place_of_number number es h.0 h.1 in
    let within = slice_get_within es (number - 1) h.0 there.1 in
    let at = slice_get_read es (length es) (number - 1) x refl within read in
    let low = there.0 in
    ap (slice_set es (number - 1)) e ∙ marked_at 1 number (number - 1) es x (omega (arith, low)) at

-- then nothing is given that wasn't given before
pub kept_left : (downloads : List Download) (es : List Entry) (number : ℕ) (x y : Entry) → AreKept downloads es
    → slice_set es (number - 1) y ≡ marked_from 1 number es → AreKept downloads (slice_set es (number - 1) y)
kept_left downloads es number x y kept is =
    let same = length-set es (number - 1) y in
    let few = kept.few in
    kept_under downloads (slice_set es (number - 1) y) (given_spans downloads ++ entered_spans es) kept.agreed
    (λ m k g. joined (given_spans downloads) (entered_spans es) m k
    (before m k (append_gives (given_spans downloads) (entered_spans (slice_set es (number - 1) y)) m k g)))
    kept.few_downloads (omega (arith, same, few)) where
      before : (m : ℕ) (k : Mark) → Gives (given_spans downloads) m k ⊎ Gives (entered_spans (slice_set es (number - 1) y)) m k
          → Gives (given_spans downloads) m k ⊎ Gives (entered_spans es) m k
      before m k (inl g) = inl g
      before m k (inr g) = inr (left_given 1 number x es m k (subst (λ (xs : List Entry). Gives (entered_spans xs) m k) is g))
