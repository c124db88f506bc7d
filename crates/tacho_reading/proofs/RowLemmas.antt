-- Rows of a driver, and the spans that they represent.
use Rattle.std.proofs.Common.{◌≡◌, ◌≢◌, ℕ, ◌==◌, ◌&&◌, Bool, true, false, cond, List, [], ◌∷◌, ◌++◌, map, filter, refl, sym, ap, ◌∙◌}
use Rattle.std.specs.List.{All, slice_index_or}
use Rattle.std.proofs.lemmas.List.{append-nil}
use Rattle.std.proofs.lemmas.List.Elements.{All-append, All-map}
use Rattle.tacho_time.specs.declared.span.Span.{Span}
use Rattle.tacho_time.specs.declared.span.Mark.{Mark}
use Rattle.tacho_state.specs.Disjoint as disjoint
use Rattle.tacho_state.proofs.EqualLemmas.{eq_not, eq_self}
use Rattle.tacho_state.proofs.NumberLemmas.{mark_back, mark_low}
use Rattle.tacho_tables.specs.Rows.{SpanRow}
use Rattle.tacho_tables.specs.Tables.{is_row_near, span_of}
use Rattle.tacho_reading.specs.Standing.{row_span, span_row, spans_of, stored_span}
use Rattle.tacho_state.specs.Numbers.{IsMark}

-- ---- marks

-- the row of a span gives that span
pub span_back : (n : ℕ) (s : Span) → row_span (span_row n s) ≡ s
span_back n s = ap (λ (k : Mark). record { start = s.start; past = s.past; mark = k }) (mark_back s.mark.activity s.mark.crew)

-- ---- rows and spans

-- the spans of joined lists of rows
spans_append : (n : ℕ) (xs ys : List SpanRow) → spans_of n (xs ++ ys) ≡ spans_of n xs ++ spans_of n ys
spans_append n [] ys = refl
spans_append n (r ∷ xs) ys = go (r.driver == n) (spans_append n xs ys) where
  go : (b : Bool) → spans_of n (xs ++ ys) ≡ spans_of n xs ++ spans_of n ys
      → cond b (row_span r ∷ spans_of n (xs ++ ys)) (spans_of n (xs ++ ys)) ≡ cond b (row_span r ∷ spans_of n xs)
      (spans_of n xs) ++ spans_of n ys
  go true e = ap (λ (x : List Span). row_span r ∷ x) e
  go false e = e

-- the spans of rows that were made from a driver's spans
spans_rows : (n : ℕ) (spans : List Span) → spans_of n (map (span_row n) spans) ≡ spans
spans_rows n [] = refl
spans_rows n (s ∷ ss) =
    ap (λ b. cond b (row_span (span_row n s) ∷ spans_of n (map (span_row n) ss)) (spans_of n (map (span_row n) ss))) (eq_self n)
    ∙ ap (λ (x : Span). x ∷ spans_of n (map (span_row n) ss)) (span_back n s)
    ∙ ap (λ (x : List Span). s ∷ x) (spans_rows n ss)

-- another driver has none of these spans
spans_other : (j n : ℕ) (spans : List Span) → j ≢ n → spans_of j (map (span_row n) spans) ≡ []
spans_other j n [] d = refl
spans_other j n (s ∷ ss) d =
    ap (λ b. cond b (row_span (span_row n s) ∷ spans_of j (map (span_row n) ss)) (spans_of j (map (span_row n) ss)))
    (eq_not n j (λ e. d (sym e)))
    ∙ spans_other j n ss d

-- rows added for a driver are that driver's
pub added_own : (n : ℕ) (rows : List SpanRow) (spans : List Span) → spans_of n (rows ++ map (span_row n) spans) ≡ spans_of n rows ++ spans
added_own n rows spans = spans_append n rows (map (span_row n) spans) ∙ ap (λ (x : List Span). spans_of n rows ++ x) (spans_rows n spans)

-- rows added for a driver aren't another driver's
pub added_other : (j n : ℕ) (rows : List SpanRow) (spans : List Span) → j ≢ n
    → spans_of j (rows ++ map (span_row n) spans) ≡ spans_of j rows
added_other j n rows spans d = spans_append j rows (map (span_row n) spans)
    ∙ ap (λ (x : List Span). spans_of j rows ++ x) (spans_other j n spans d) ∙ append-nil (spans_of j rows)

-- rows of spans that are added have the numbers of marks
pub added_marks : (n : ℕ) (rows : List SpanRow) (spans : List Span) → All (λ r. IsMark r.mark) rows
    → All (λ r. IsMark r.mark) (rows ++ map (span_row n) spans)
added_marks n rows spans h = All-append (λ r. IsMark r.mark) rows (map (span_row n) spans) h
    (All-map (λ r. IsMark r.mark) (span_row n) spans (λ i s w. mark_low (slice_index_or spans i s).mark.activity (slice_index_or spans i s).mark.crew))

-- ---- rows near a range

-- a driver's rows near a range represent the driver's spans near it
pub near_spans : (n a b : ℕ) (rows : List SpanRow)
    → map stored_span (map span_of (filter (is_row_near n a b) rows)) ≡ disjoint.near a b (spans_of n rows)
near_spans n a b [] = refl
near_spans n a b (r ∷ rows) = go (r.driver == n) (near_spans n a b rows) where
  own : (v : Bool) → map stored_span (map span_of (filter (is_row_near n a b) rows)) ≡ disjoint.near a b (spans_of n rows)
      → map stored_span (map span_of (cond v (r ∷ filter (is_row_near n a b) rows) (filter (is_row_near n a b) rows))) ≡ cond v
      (row_span r ∷ disjoint.near a b (spans_of n rows)) (disjoint.near a b (spans_of n rows))
  own true e = ap (λ (x : List Span). row_span r ∷ x) e
  own false e = e

  go : (o : Bool) → map stored_span (map span_of (filter (is_row_near n a b) rows)) ≡ disjoint.near a b (spans_of n rows)
      → map stored_span (map span_of (cond (o && disjoint.is_near a b (row_span r)) (r ∷ filter (is_row_near n a b) rows)
      (filter (is_row_near n a b) rows))) ≡ disjoint.near a b (cond o (row_span r ∷ spans_of n rows) (spans_of n rows))
  go true e = own (disjoint.is_near a b (row_span r)) e
  go false e = e
