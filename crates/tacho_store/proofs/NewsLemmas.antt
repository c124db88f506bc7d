-- What canonical spans add to a line.
use Rattle.std.proofs.Common.{◌≡◌, ℕ, ◌+◌, ◌==◌, ◌⊎◌, inl, inr, nat_le, true, false, cond, List, [], ◌∷◌, length, Some, None, Result, Ok, Err, IsErr, IsErrAnd, MatchResult, refl, sym, ap, ◌∙◌, subst, arith}
use Rattle.std.proofs.lemmas.Bool.Decides.{nat_tests}
use Rattle.tacho_time.specs.declared.span.Span.{Span}
use Rattle.tacho_time.specs.Spans.{IsCanonical}
use Rattle.tacho_line.specs.declared.line.LineFault.{LineFault}
use Rattle.tacho_line.specs.declared.line.LineFault.TheVariants as line_fault
use Rattle.tacho_line.specs.Line.{empty_from, first_empty, AreGains, IsGainFault}
use Rattle.tacho_state.specs.declared.fault.StoreFault.{StoreFault}
use Rattle.tacho_state.specs.declared.fault.StoreFault.TheVariants.{Contradiction, Memory}
use Rattle.tacho_state.specs.Disjoint.{HasNews}
use Rattle.tacho_store.specs.News.{AreNews, IsContradicted, IsNewsRefused}

-- no canonical span is empty
pub none_empty : (place : ℕ) (spans : List Span) → IsCanonical spans → empty_from place spans ≡ None
none_empty place [] h = refl
none_empty place (s ∷ spans) h =
    let start = s.start in
    let past = s.past in
    let some = h.0 in
    let full : nat_le past start ≡ false = grind (arith, nat_tests) in
    ap (λ b. cond b (Some place) (empty_from (place + 1) spans)) full ∙ none_empty (place + 1) spans h.2

-- so if spans that aren't empty have no gains, memory ran out, or they contradict the line
pub fault_is : (line spans : List Span) (fault : LineFault) (found : StoreFault) → first_empty spans ≡ None
    → ((m : ℕ) → fault ≡ line_fault.Contradiction m → found ≡ Contradiction m) → (fault ≡ line_fault.Memory → found ≡ Memory)
    → IsGainFault line spans fault
    → (found ≡ Memory) ⊎ IsContradicted line spans found
fault_is line spans (line_fault.Contradiction m) found full conflict memory g = inr (m, conflict m refl, g.1)
fault_is line spans (line_fault.EmptySpan place) found full conflict memory g = let none = full in cc
fault_is line spans line_fault.Memory found full conflict memory g = inl (memory refl)

-- new spans that contradict what the driver holds are refused
refused : (card_line line spans : List Span) (fault : StoreFault) → HasNews card_line spans
    → (fault ≡ Memory) ⊎ IsContradicted line spans fault → IsNewsRefused card_line line spans fault
refused card_line line spans fault new (inl e) = inl e
refused card_line line spans fault new (inr c) = inr (inr (c.0, c.1, new, c.2))

-- a result that passes on their fault is refused as well
pub handed_on : {V : Type 0} (P : V → Type 0) (card_line line spans : List Span) (fault : StoreFault) (result : Result V StoreFault)
    → HasNews card_line spans → (fault ≡ Memory) ⊎ IsContradicted line spans fault
    → IsErr result × IsErrAnd result (λ found. found ≡ fault) → MatchResult result P (IsNewsRefused card_line line spans)
handed_on P card_line line spans fault (Ok v) new h e = let wrong = e.0 in cc
handed_on P card_line line spans fault (Err f) new h e = subst (IsNewsRefused card_line line spans) (sym e.1)
    (refused card_line line spans fault new h)

-- a list of spans whose count isn't zero has a first span
pub some_first : (spans : List Span) (count : ℕ) → count ≡ length spans → (count == 0) ≡ false
    → (first : Span) × (others : List Span) × (spans ≡ first ∷ others)
some_first [] count e h = let zero_count : (count == 0) ≡ true = grind (arith, nat_tests) in cc
some_first (s ∷ ss) count e h = (s, ss, refl)

-- what new spans add
pub are_news : (card_line line spans card_gains gains : List Span) → (first : Span) × (others : List Span) × (card_gains ≡ first ∷ others)
    → AreGains card_line spans card_gains → AreGains line spans gains
    → AreNews card_line line spans card_gains gains
are_news card_line line spans card_gains gains some card held = (some.0, some.1, some.2, card, held)

-- these spans are new
pub is_new : (card_line spans card_gains : List Span) → (first : Span) × (others : List Span) × (card_gains ≡ first ∷ others)
    → AreGains card_line spans card_gains → HasNews card_line spans
is_new card_line spans card_gains some card = inl (some.0, some.1, subst (AreGains card_line spans) some.2 card)
