-- Stored card files, read one after the other.
use Rattle.std.proofs.Common.{◌≡◌, ◌≢◌, ◌∙◌, inl, inr, ℕ, List, [], ◌∷◌, ◌++◌, append-nil, append_assoc, Result, Ok, Err, Option, None, Some, IfOk, refl, sym, ap, subst}
use Rattle.tacho_time.specs.declared.span.Span.{Span}
use Rattle.tacho_card.specs.declared.fault.CardFault.{CardFault}
use Rattle.tacho_card.specs.declared.file.Part.{Part}
use Rattle.tacho_card.specs.declared.file.Part.TheVariants.{Both, First, Second}
use Rattle.tacho_state.specs.declared.fault.StoreFault.{StoreFault}
use Rattle.tacho_state.specs.declared.fault.StoreFault.TheVariants.{Card, Memory}
use Rattle.tacho_time.specs.OrMemory.{OrMemory}
use Rattle.tacho_state.specs.Steps.{Content}
use Rattle.tacho_state.specs.declared.content.CardContent.{CardContent}
use Rattle.tacho_state.specs.Content.{FileTells}
use Rattle.tacho_state.specs.Numbers.{part_number}
use Rattle.tacho_state.proofs.ContentLemmas.{one_content}
use Rattle.tacho_check.specs.declared.files.FileRow.{FileRow}
use Rattle.std.specs.Prelude.{Vec}
use Rattle.std.specs.declared.alloc.Global.{Global}
use Rattle.tacho_check.specs.Files.{Tells, IsOwnContent, IsContentOf, Reads, IsReadingOf, Give}

-- a file with a fault gives nothing, unless memory ran out
pub refused_is : {E : Type 0} (holder : List ℕ) (part : Part) (file : List ℕ) (fault : StoreFault) (r : Result (Option (Vec Span Global)) E)
    → OrMemory Memory fault ((f : CardFault) × (fault ≡ Card f) × FileTells part file (Err f))
    → IfOk r (λ found. (found ≡ None) × (fault ≢ Memory)) → IfOk r (IsContentOf holder part file)
refused_is holder part file fault (Err e) told h = tt
refused_is holder part file fault (Ok found) (inl memory) h = absurd (h.1 memory)
refused_is holder part file fault (Ok found) (inr told) h = subst (IsContentOf holder part file) (sym h.0) (λ spans k.
    let e = one_content part file (Err told.0) (Ok (record { holder = holder; spans = spans })) told.2 k in cc)

-- of a card's content only the spans of its own holder are given
pub own_is : (holder : List ℕ) (part : Part) (file : List ℕ) (content : CardContent) (found : Option (Vec Span Global))
    → FileTells part file (Ok (record { holder = content.holder; spans = content.spans.items })) → IsOwnContent holder content found
    → IsContentOf holder part file found
own_is holder part file content None told other = λ spans k.
    other (ap holder_in (one_content part file (Ok (record { holder = content.holder; spans = content.spans.items }))
    (Ok (record { holder = holder; spans = spans })) told k))
  where
    holder_in : Result Content CardFault → List ℕ
    holder_in (Ok c) = c.holder
    holder_in (Err fault) = []
own_is holder part file content (Some spans) told own =
    subst (λ (xs : Vec Span Global). FileTells part file (Ok (record { holder = holder; spans = xs.items }))) own.1
    (subst (λ (h : List ℕ). FileTells part file (Ok (record { holder = h; spans = content.spans.items }))) own.0 told)

-- a holder's file gives one list of spans
one_told : (holder : List ℕ) (part : Part) (file : List ℕ) (a b : List Span) → Tells holder part file a → Tells holder part file b → a ≡ b
one_told holder part file a b h k = ap spans_in
    (one_content part file (Ok (record { holder = holder; spans = a })) (Ok (record { holder = holder; spans = b })) h k)
  where
    spans_in : Result Content CardFault → List Span
    spans_in (Ok content) = content.spans
    spans_in (Err fault) = []

-- a part has its own number
pub one_part : (a b : Part) → part_number a ≡ part_number b → a ≡ b
one_part Both Both e = refl
one_part Both First e = cc
one_part Both Second e = cc
one_part First Both e = cc
one_part First First e = refl
one_part First Second e = cc
one_part Second Both e = cc
one_part Second First e = cc
one_part Second Second e = refl

-- what a file gives for the row's part is what the row gives
pub reading_is : (holder : List ℕ) (r : FileRow) (part : Part) (file : List ℕ) → part_number part ≡ r.part → file ≡ r.file.items
    → (found : Option (Vec Span Global))
    → IsContentOf holder part file found → IsReadingOf holder r found
reading_is holder r part file number same None told = λ spans k.
    let one : k.0 ≡ part = one_part k.0 part (k.1 ∙ sym number) in
    told spans (subst (λ (bytes : List ℕ). Tells holder part bytes spans) (sym same)
    (subst (λ (p : Part). Tells holder p r.file.items spans) one k.2))
reading_is holder r part file number same (Some spans) told =
    (part, number, subst (λ (bytes : List ℕ). Tells holder part bytes spans.items) same told)

module _ (holder : List ℕ) where
  -- so a row's file gives one
  one_read : (r : FileRow) (a b : List Span) → Reads holder r a → Reads holder r b → a ≡ b
  one_read r a b h k =
      let same : k.0 ≡ h.0 = one_part k.0 h.0 (k.1 ∙ sym h.1) in
      one_told holder h.0 r.file.items a b h.2 (subst (λ (p : Part). Tells holder p r.file.items b) same k.2)

  -- and rows give one
  pub one_given : (rows : List FileRow) (a b : List Span) → Give holder rows a → Give holder rows b → a ≡ b
  one_given [] a b h k = h ∙ sym k
  one_given (r ∷ rows) a b h k =
      let first = one_read r h.0 k.0 h.2 k.2 in
      let rest = one_given rows h.1 k.1 h.3 k.3 in
      h.4 ∙ ap (λ (x : List Span). x ++ h.1) first ∙ ap (λ (x : List Span). k.0 ++ x) rest ∙ sym k.4

  -- all rows give what was given so far, followed by what the remaining rows give, and nothing else
  pub record GoesOn (rows left : List FileRow) (done : List Span) : Type 0 where
    pub there : (more : List Span) → Give holder left more → Give holder rows (done ++ more)
    pub back : (all : List Span) → Give holder rows all → (more : List Span) × Give holder left more

  -- before the first row
  pub begins : (rows : List FileRow) → GoesOn rows rows []
  begins rows = record { there = λ more h. h; back = λ all h. (all, h) }

  -- after one more row
  pub goes_on : (rows left : List FileRow) (r : FileRow) (done spans : List Span) → GoesOn rows (r ∷ left) done → Reads holder r spans
      → GoesOn rows left (done ++ spans)
  goes_on rows left r done spans h read = record {
    there = λ more k. subst (Give holder rows) (sym (append_assoc done spans more)) (h.there (spans ++ more) (spans, more, read, k, refl));
    back = λ all k. let it = h.back all k in (it.1.1, it.1.3);
  }

  -- a row that isn't read ends it
  pub breaks : (rows left : List FileRow) (r : FileRow) (done : List Span) → GoesOn rows (r ∷ left) done
      → ((spans : List Span) → ¬ (Reads holder r spans))
      → (all : List Span) → ¬ (Give holder rows all)
  breaks rows left r done h none all k = let it = h.back all k in none it.1.0 it.1.2

  -- after the last row
  pub ends : (rows : List FileRow) (done : List Span) → GoesOn rows [] done → Give holder rows done
  ends rows done h = subst (Give holder rows) (append-nil done) (h.there [] refl)
