-- A file has exactly one reading by each part.
use Rattle.std.proofs.Common.{◌≡◌, ℕ, ◌⊎◌, inl, inr, List, [], ◌∷◌, ◌++◌, Option, Result, Ok, Err, refl, sym, ◌∙◌, subst, append_assoc, append-nil}
use Rattle.tacho_time.specs.declared.span.Span.{Span}
use Rattle.tacho_time.specs.Spans.{Gives, IsCanonicalOf, IsFirstConflict}
use Rattle.tacho_time.proofs.ExistenceLemmas.{list_or_conflict}
use Rattle.tacho_card.specs.declared.fault.CardFault.{CardFault}
use Rattle.tacho_card.specs.declared.fault.CardFault.TheVariants.{SelfContradiction}
use Rattle.tacho_card.specs.declared.file.Part.{Part}
use Rattle.tacho_card.specs.DriverActivity.{DriverActivity}
use Rattle.tacho_card.specs.Reading.{IsReading, IsReadingFault}
use Rattle.tacho_card.specs.RawSpans.{prepend_spans, activity_spans}
use Rattle.tacho_card.specs.CardFile.{FileBlock, chosen_activity, those_there, ReadsChosen, ReadsFile}
use Rattle.tacho_card.proofs.RawLemmas.{only_fault}
use Rattle.tacho_card.proofs.GivesLemmas.{IsRaw, raw_none, raw_more, activity_fault, chain_with, fault_after, raw_reading}
use Rattle.tacho_card.proofs.ReadingLaw.{one_of_data}

-- ---- there is a reading

-- the data have a reading
abbrev HaveReading : List DriverActivity → Type 0
HaveReading activities = (reading : Result (List Span) CardFault) × IsReading activities reading

-- a fault of data other than out of memory is their reading
own_fault : (activities : List DriverActivity) (m : ℕ) → IsReadingFault activities (SelfContradiction m) → IsReading activities (Err (SelfContradiction m))
own_fault activities m (inl e) = cc
own_fault activities m (inr h) = h

-- data whose spans are known have a reading
raw_has : (activities : List DriverActivity) (raw : List Span) → IsRaw activities raw → HaveReading activities
raw_has activities raw h = go (list_or_conflict raw) where
  go : ((runs : List Span) × IsCanonicalOf (Gives raw) runs) ⊎ ((m : ℕ) × IsFirstConflict (Gives raw) m) → HaveReading activities
  go (inl c) = (Ok c.0, raw_reading (λ xs. xs) activities raw (Ok c.0) h c.1)
  go (inr c) = (Err (SelfContradiction c.0), own_fault activities c.0 (raw_reading (λ xs. xs) activities raw (Err (SelfContradiction c.0)) h (inr (c.0, refl, c.1))))

-- data whose spans are known, followed by further data, have a reading
has_from : (front rest : List DriverActivity) (raw : List Span) → IsRaw front raw → HaveReading (front ++ rest)
has_from front [] raw h = subst HaveReading (sym (append-nil front)) (raw_has front raw h)
has_from front (activity ∷ rest) raw h = go (prepend_spans raw (activity_spans activity)) refl (λ new e. has_from (front ++ activity ∷ []) rest new (raw_more front activity raw new h e)) where
  go : (r : Result (List Span) CardFault) → prepend_spans raw (activity_spans activity) ≡ r →
      ((new : List Span) → prepend_spans raw (activity_spans activity) ≡ Ok new → HaveReading ((front ++ activity ∷ []) ++ rest)) →
      HaveReading (front ++ activity ∷ rest)
  go (Ok new) e more = subst HaveReading (append_assoc front (activity ∷ []) rest) (more new e)
  go (Err f) e more = (Err f, inl (fault_after front (activity ∷ rest) h.0 ∙ chain_with activity rest f (activity_fault activity f (only_fault raw (activity_spans activity) f e))))

-- chosen data have a reading
chosen_has : (chosen : Result (List (Option DriverActivity)) CardFault) → (reading : Result (List Span) CardFault) × ReadsChosen chosen reading
chosen_has (Ok chosen) = has_from [] (those_there chosen) [] raw_none
chosen_has (Err fault) = (Err fault, refl)

-- a file has a reading by each part
pub some_reading : (part : Part) (blocks : List FileBlock) → (reading : Result (List Span) CardFault) × ReadsFile part blocks reading
some_reading part blocks = chosen_has (chosen_activity part blocks)

-- ---- there is at most one reading

-- chosen data have at most one reading
chosen_one : (chosen : Result (List (Option DriverActivity)) CardFault) (a b : Result (List Span) CardFault) → ReadsChosen chosen a → ReadsChosen chosen b → a ≡ b
chosen_one (Ok chosen) a b h k = one_of_data (those_there chosen) a b h k
chosen_one (Err fault) a b h k = h ∙ sym k

-- a file has at most one reading by each part
pub one_reading : (part : Part) (blocks : List FileBlock) (a b : Result (List Span) CardFault) → ReadsFile part blocks a → ReadsFile part blocks b → a ≡ b
one_reading part blocks a b h k = chosen_one (chosen_activity part blocks) a b h k
