-- Stored rows that have no line: some row isn't fit, or the rows contradict each other.
use Rattle.std.proofs.Common.{◌≡◌, inl, inr, ℕ, List, [], ◌∷◌, ◌++◌, map, Result, Err, sym, ap, ◌∙◌, subst}
use Rattle.std.specs.List.{All}
use Rattle.std.proofs.lemmas.List.{map-append}
use Rattle.std.proofs.lemmas.List.Elements.{All-nil, All-cons, All-head, All-tail}
use Rattle.tacho_time.specs.OrMemory.{OrMemory}
use Rattle.tacho_time.specs.declared.canonical.SpanFault.{SpanFault}
use Rattle.tacho_time.specs.declared.canonical.SpanFault.TheVariants.{Contradiction}
use Rattle.tacho_time.specs.declared.span.Span.{Span}
use Rattle.tacho_time.specs.Merge.{IsFirstFault}
use Rattle.tacho_time.specs.Spans.{Gives, IsFirstConflict}
use Rattle.tacho_state.specs.declared.fault.StoreFault.{StoreFault}
use Rattle.tacho_state.specs.declared.fault.StoreFault.TheVariants.{Memory, Store}
use Rattle.tacho_tables.specs.declared.rows.StoredSpan.{StoredSpan}
use Rattle.tacho_reading.specs.Standing.{IsFit, HaveNoLine, stored_span}

-- a fault other than out of memory is a contradiction
conflict_of : (spans : List Span) (fault : SpanFault) (answer : StoreFault) → IsFirstFault (Gives spans) fault
    → OrMemory Memory answer ((answer ≡ Store) × ((minute : ℕ) × (fault ≡ Contradiction minute))) → answer ≡ Store
    → (minute : ℕ) × IsFirstConflict (Gives spans) minute
conflict_of spans fault answer first (inl memory) store = absurd (let wrong : Memory ≡ Store = sym memory ∙ store in cc)
conflict_of spans fault answer first (inr why) store =
    (why.1.0, subst (IsFirstFault (Gives spans)) why.1.1 first)

-- so rows with such a fault have no line
pub faulty_rows : {V : Type 0} (rows : List StoredSpan) (spans : List Span) (fault : SpanFault) (answer : StoreFault)
    → spans ≡ map stored_span rows → IsFirstFault (Gives spans) fault
    → OrMemory Memory answer ((answer ≡ Store) × ((minute : ℕ) × (fault ≡ Contradiction minute)))
    → ◌≡◌ {A = Result V StoreFault} (Err answer) (Err Store) → HaveNoLine rows
faulty_rows rows spans fault answer same first why is =
    inr (subst (λ (x : List Span). (minute : ℕ) × IsFirstConflict (Gives x) minute) same
    (conflict_of spans fault answer first why (let store = is in cc)))

-- ---- rows of two tables

-- if rows followed by others are fit, the first ones are
front_fits : (xs ys : List StoredSpan) → All IsFit (xs ++ ys) → All IsFit xs
front_fits [] ys h = All-nil IsFit
front_fits (x ∷ xs) ys h =
    All-cons IsFit x xs (All-head IsFit x (xs ++ ys) h) (front_fits xs ys (All-tail IsFit x (xs ++ ys) h))

-- if rows that follow others are fit, these rows are
back_fits : (xs ys : List StoredSpan) → All IsFit (xs ++ ys) → All IsFit ys
back_fits [] ys h = h
back_fits (x ∷ xs) ys h = back_fits xs ys (All-tail IsFit x (xs ++ ys) h)

-- rows that aren't all fit are faulty, together with any others
pub front_faulty : (xs ys : List StoredSpan) → ¬ All IsFit xs → HaveNoLine (xs ++ ys)
front_faulty xs ys h = inl (λ all. h (front_fits xs ys all))

pub back_faulty : (xs ys : List StoredSpan) → ¬ All IsFit ys → HaveNoLine (xs ++ ys)
back_faulty xs ys h = inl (λ all. h (back_fits xs ys all))

-- the spans of the rows of both tables
pub spans_of_both : (xs ys : List StoredSpan) (us vs : List Span) → us ≡ map stored_span xs → vs ≡ map stored_span ys
    → us ++ vs ≡ map stored_span (xs ++ ys)
spans_of_both xs ys us vs first second =
    ap (λ (x : List Span). x ++ vs) first ∙ ap (λ (x : List Span). map stored_span xs ++ x) second
    ∙ sym (map-append stored_span xs ys)
