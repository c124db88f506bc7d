-- The line of all of a driver's held rows is what the driver holds.
use Rattle.std.proofs.Common.{◌≡◌, ◌∙◌, ◌⊎◌, inl, inr, ℕ, ◌==◌, ◌↔◌, Bool, true, false, cond, List, [], ◌∷◌, map, filter, Option, Some, None, Result, Ok, Err, IfOk, IfErr, IsErr, IsErrAnd, refl, sym, ap, subst}
use Rattle.std.specs.List.Sorted.{IsPermutation}
use Rattle.std.proofs.lemmas.List.Sorted.{IsPermutation-sym, IsPermutation-map}
use Rattle.sqlite.specs.Tree.{Trees}
use Rattle.tacho_time.specs.declared.span.Span.{Span}
use Rattle.tacho_time.specs.declared.span.Mark.{Mark}
use Rattle.tacho_time.specs.Spans.{Gives, IsCanonicalOf}
use Rattle.tacho_line.specs.Line.{mark_at}
use Rattle.tacho_line.proofs.LineLemmas.{line_map}
use Rattle.tacho_state.specs.State.{Driver, State, held_mark, driver_of}
use Rattle.tacho_state.specs.Steps.{line_reading, reading_of}
use Rattle.tacho_state.specs.Acts.{Answers, IsAnswered}
use Rattle.tacho_state.specs.declared.fault.StoreFault.{StoreFault}
use Rattle.tacho_state.specs.declared.fault.StoreFault.TheVariants.{Memory, Store}
use Rattle.tacho_state.proofs.MapLemmas.{held_map}
use Rattle.tacho_tables.specs.declared.rows.StoredSpan.{StoredSpan}
use Rattle.tacho_tables.specs.Rows.{SpanRow}
use Rattle.tacho_tables.specs.Tables.{Tables, HasTables, is_of, span_of}
use Rattle.tacho_reading.specs.Standing.{Represents, spans_of, stored_span, row_span}
use Rattle.tacho_reading.proofs.NearRowLemmas.{permuted_gives, held_kept}

-- the rows of a driver represent the driver's spans
own_spans : (n : ℕ) (rows : List SpanRow) → map stored_span (map span_of (filter (is_of n) rows)) ≡ spans_of n rows
own_spans n [] = refl
own_spans n (r ∷ rows) = go (r.driver == n) (own_spans n rows) where
  go : (o : Bool) → map stored_span (map span_of (filter (is_of n) rows)) ≡ spans_of n rows
      → map stored_span (map span_of (cond o (r ∷ filter (is_of n) rows) (filter (is_of n) rows))) ≡ cond o (row_span r ∷ spans_of n rows)
      (spans_of n rows)
  go true e = ap (λ (x : List Span). row_span r ∷ x) e
  go false e = e

-- two options with the same values are equal
pub same_option : {X : Type 0} (a b : Option X) → ((x : X) → (a ≡ Some x) ↔ (b ≡ Some x)) → a ≡ b
same_option None None same = refl
same_option None (Some x) same = (same x).1 refl
same_option (Some x) b same = sym ((same x).0 refl)

-- the line gives each minute the mark with which the driver holds it
line_is : (d : Driver) (helds line : List Span) → IsCanonicalOf (Gives helds) line
    → ((m : ℕ) (k : Mark) → Gives helds m k ↔ (held_mark d m ≡ Some k)) → (m : ℕ) → mark_at line m ≡ held_mark d m
line_is d helds line of held m = same_option (mark_at line m) (held_mark d m) (λ k.
    let map = line_map line m k of.canonical in
    let given = of.same m k in
    let kept = held m k in
    (λ e. kept.0 (given.0 (map.0 e)), λ e. map.1 (given.1 (kept.1 e))))

-- so the line of all the driver's rows, in any order, is the driver's timeline
pub line_told : (db : Trees) (n : ℕ) (s : State) (d : Driver) (found : List StoredSpan) (line : List Span) → Represents db s
    → driver_of n s ≡ Some d
    → ((a : Tables) → HasTables db a → IsPermutation (map span_of (filter (is_of n) a.held)) found)
    → IsCanonicalOf (Gives (map stored_span found)) line → line_reading n s ≡ Ok (mark_at line)
unfolding Represents
line_told db n s d found line (t, stand, of) is read canonical =
    let keeps = held_kept t s n d of is in
    let rows : IsPermutation (spans_of n t.held) (map stored_span found) =
    subst (λ (x : List Span). IsPermutation x (map stored_span found)) (own_spans n t.held)
    (IsPermutation-map stored_span _ found (read t stand)) in
    let each = line_is d (map stored_span found) line canonical (λ m k.
    let held = held_map d (spans_of n t.held) m k keeps in
    let kept = keeps.same m k in
    (λ g. held.0 (kept.0 (permuted_gives _ _ m k (IsPermutation-sym _ _ rows) g)), λ e. permuted_gives _ _ m k rows (kept.1 (held.1 e))))
    in ap (reading_of (λ (d : Driver). Ok (held_mark d))) is ∙ ap Ok (sym (λ i m. each m i))

-- a call that gave up meets every step's answer
pub gave_up : {A B : Type 0} (view : A → B) (f : StoreFault) (told : Result B StoreFault) → (f ≡ Memory) ⊎ (f ≡ Store)
    → Answers view (Err f) told
gave_up view f told (inl e) = subst (λ g. Answers view (Err g) told) (sym e) tt
gave_up view f told (inr e) = subst (λ g. Answers view (Err g) told) (sym e) tt

-- a caller that passes such a fault on gave up too
pub gave_up_as : {A B : Type 0} (view : A → B) (f : StoreFault) (r : Result A StoreFault) (told : Result B StoreFault)
    → (f ≡ Memory) ⊎ (f ≡ Store) → IsErr r × IsErrAnd r (λ found. found ≡ f) → Answers view r told
gave_up_as view f (Ok x) told up e = let wrong = e.0 in cc
gave_up_as view f (Err found) told up e = subst (λ g. Answers view (Err g) told) (sym e.1) (gave_up view f told up)

pub not_answered : {A : Type 0} (f : StoreFault) (r : Result A StoreFault) → (f ≡ Memory) ⊎ (f ≡ Store)
    → IsErr r × IsErrAnd r (λ found. found ≡ f) → ¬ IsAnswered r
not_answered f (Ok x) up e is = let wrong = e.0 in cc
not_answered {A = A} f (Err found) (inl up) e is = subst (λ g. IsAnswered {A = A} (Err g)) (e.1 ∙ up) is
not_answered {A = A} f (Err found) (inr up) e is = subst (λ g. IsAnswered {A = A} (Err g)) (e.1 ∙ up) is

-- what was to be told is answered, or the call gave up
pub told_or_gave_up : {A B : Type 0} (view : A → B) (r : Result A StoreFault) (told : Result B StoreFault) → IfOk r (λ x. told ≡ Ok (view x))
    → IfErr r (λ f. (f ≡ Memory) ⊎ (f ≡ Store)) → Answers view r told
told_or_gave_up view (Ok x) told is up = is
told_or_gave_up view (Err f) told is up = gave_up view f told up
