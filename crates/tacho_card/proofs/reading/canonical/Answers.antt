use Rattle.std.proofs.Common.{◌≡◌, inl, inr, List, Result, Ok, Err, MatchResult, refl, sym, subst}
use Rattle.std.specs.Result.{IsErr, IsErrAnd}
use Rattle.tacho_time.specs.declared.span.Span.{Span}
use Rattle.tacho_time.specs.declared.canonical.SpanFault.{SpanFault}
use Rattle.tacho_time.specs.declared.canonical.SpanFault.TheVariants.{Contradiction, Memory as NoMemory}
use Rattle.tacho_time.specs.Spans.{Gives, IsCanonicalOf}
use Rattle.tacho_time.specs.Merge.{IsFirstFault}
use Rattle.tacho_card.specs.declared.fault.CardFault.{CardFault}
use Rattle.tacho_card.specs.Reading.{fault_of_spans}
use Rattle.tacho_card.proofs.GivesLemmas.{IsConflictOf}
use Rattle.tacho_card.proofs.reading.canonical.Goals as goal

-- a fault of spans, turned into one of a card
conflict_of : (spans : List Span) (fault : SpanFault) → IsFirstFault (Gives spans) fault
    → IsConflictOf spans (fault_of_spans fault)
conflict_of spans (Contradiction m) h = inr (m, refl, h)
conflict_of spans NoMemory h = inl refl

-- a property of a fault is one of the result that passes it on
handed_on : {V : Type 0} (items : V → List Span) (spans : List Span) (r : Result V CardFault) (fault : CardFault)
    → IsErr r × IsErrAnd r (λ found. found ≡ fault) → IsConflictOf spans fault
    → MatchResult r (λ runs. IsCanonicalOf (Gives spans) (items runs)) (IsConflictOf spans)
handed_on items spans (Ok v) fault e h = let wrong = e.0 in cc
handed_on items spans (Err f) fault e h = subst (IsConflictOf spans) (sym e.1) h

pub returns-in_err-canonical_spans : goal.returns-in_err-canonical_spans
returns-in_err-canonical_spans c =
    let fault = c.in_err-canonical_spans.field-0.0 in
    handed_on (λ runs. runs.items) c.args.spans.now c.from_residual.result (fault_of_spans fault) c.from_residual.ensures
    (conflict_of c.args.spans.now fault c.in_err-canonical_spans.ensures)
