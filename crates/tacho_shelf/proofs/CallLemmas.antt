-- What a call does to a shelf, from what it does to one of its drivers.
use Rattle.std.proofs.Common.{◌≡◌, ◌≢◌, ℕ, zero, suc, ◌⊎◌, inl, inr, ◌==◌, Bool, true, false, cond, List, [], ◌∷◌, ◌++◌, Option, Some, Result, Ok, Err, length, get_or, slice_get, slice_set, refl, sym, ap, subst, ◌∙◌, rules}
use Rattle.std.proofs.lemmas.Bool.{eq-eqb}
use Rattle.std.proofs.lemmas.Option.{slice_get_read, slice_get_within}
use Rattle.tacho_card.specs.declared.fault.CardFault.{CardFault}
use Rattle.tacho_card.specs.declared.file.Part.{Part}
use Rattle.tacho_state.specs.declared.fault.StoreFault.{StoreFault}
use Rattle.tacho_state.specs.declared.fault.StoreFault.TheVariants.{Store, Memory, Card}
use Rattle.tacho_state.specs.declared.imported.Imported.{Imported}
use Rattle.tacho_state.specs.Distinct.{HasNot}
use Rattle.tacho_state.specs.State.{Driver, State, driver_of, put}
use Rattle.tacho_state.specs.Content.{FileTells}
use Rattle.tacho_state.specs.Numbers.{part_number}
use Rattle.tacho_state.specs.Steps.{Turn, Own, Content, refusal_turn, turn_of, own_turn, import_step}
use Rattle.tacho_state.specs.Acts.{Acts, Answers, state_left_by}
use Rattle.tacho_state.proofs.ContentLemmas.{one_content}
use Rattle.tacho_state.proofs.DistinctLemmas.{has_added, has_put}
use Rattle.tacho_state.proofs.EqualLemmas.{eq_not, eq_true}
use Rattle.tacho_shelf.specs.Among.{IsAmong}
use Rattle.tacho_shelf.specs.Shelf.{AreNumbered, IsIndexOf, IsStepFault, IsCardFault, IsOwnStep}

-- ---- one of the drivers

-- a driver of the list doesn't have a number that the list hasn't
other_number : (n i : ℕ) (s : State) (x : Driver) → HasNot n s → slice_get s i ≡ Some x → x.number ≢ n
other_number n i [] x h e = cc
other_number n zero (y ∷ s) x h e = λ f. h.0 (let same : y ≡ x = cc in ap (λ (d : Driver). d.number) same ∙ f)
other_number n (suc i) (y ∷ s) x h e = other_number n i s x h.1 e

-- setting a driver at the place of the one with the same number is `put`
put_at : (s : State) (i : ℕ) (d x : Driver) → AreNumbered s → slice_get s i ≡ Some x → d.number ≡ x.number → slice_set s i d ≡ put d s
put_at [] i d x h e n = cc
put_at (y ∷ s) zero d x h e n =
    let same : y ≡ x = cc in
    sym (ap (λ b. cond b (d ∷ s) (y ∷ put d s)) (eq-eqb y.number d.number (ap (λ (z : Driver). z.number) same ∙ sym n)))
put_at (y ∷ s) (suc i) d x h e n =
    let other = eq_not y.number d.number (λ f. other_number y.number i s x h.0 e (sym n ∙ sym f)) in
    ap (λ (r : State). y ∷ r) (put_at s i d x h.1 e n) ∙ sym (ap (λ b. cond b (d ∷ s) (y ∷ put d s)) other)

-- setting a driver at their own place changes nothing
set_same : (s : State) (i : ℕ) (x : Driver) → slice_get s i ≡ Some x → slice_set s i x ≡ s
set_same [] i x e = cc
set_same (y ∷ s) zero x e = let same : y ≡ x = cc in ap (λ z. z ∷ s) (sym same)
set_same (y ∷ s) (suc i) x e = ap (λ (t : State). y ∷ t) (set_same s i x e)

-- drivers keep numbers of their own
numbered_put : (d : Driver) (s : State) → AreNumbered s → AreNumbered (put d s)
numbered_put d [] h = tt
numbered_put d (x ∷ s) h = go (x.number == d.number) refl (numbered_put d s h.1) where
  go : (b : Bool) → (x.number == d.number) ≡ b → AreNumbered (put d s) → AreNumbered (cond b (d ∷ s) (x ∷ put d s))
  go true e more = (subst (λ n. HasNot n s) (eq_true x.number d.number e) h.0, h.1)
  go false e more = (has_put x.number d s h.0, more)

-- likewise with one more driver, whose number is new
pub numbered_push : (s : State) (d : Driver) → AreNumbered s → HasNot d.number s → AreNumbered (s ++ d ∷ [])
numbered_push [] d h n = (tt, tt)
numbered_push (x ∷ s) d h n = (has_added x.number s d h.0 (λ e. n.0 (sym e)), numbered_push s d h.1 n.1)

-- ---- what `Keeper` says of a command

abbrev pub ShelfActs : {A B : Type 0} → (A → B) → State → State → Result A StoreFault → (State → Turn B) → Type 0
ShelfActs view old new result step =
    Acts (λ (shelf s : State). shelf ≡ s) (λ (_ : State). Unit {0}) (λ (_ : State). Unit {0}) IsAmong
    (λ (first second : State). second ≡ first) (λ n (first second : State). driver_of n second ≡ driver_of n first) view old new result step

-- a command that answers as its step does, and leaves what the step leaves
pub acts : {A B : Type 0} (view : A → B) (old new : State) (result : Result A StoreFault) (step : State → Turn B)
    → Answers view result (step old).answer → new ≡ state_left_by result old (step old).after → ShelfActs view old new result step
acts view old new result step told after = search rules

-- the answer of a call that gave up, or was refused as the step is
fault_answers : {A B : Type 0} (view : A → B) (fault : StoreFault) (told : Result B StoreFault) → IsStepFault told fault
    → Answers view (Err fault) told
fault_answers view Memory told h = tt
fault_answers view Store told h = tt
fault_answers view fault told (inl e) = cc
fault_answers view fault told (inr e) = e

-- such a call changes nothing
pub gave_up : {A B : Type 0} (view : A → B) (s : State) (fault : StoreFault) (step : State → Turn B)
    → (fault ≡ Memory) ⊎ (step s ≡ refusal_turn fault s) → ShelfActs view s s (Err fault) step
gave_up view s fault step (inl e) = acts view s s (Err fault) step (fault_answers view fault (step s).answer (inl e)) refl
gave_up view s fault step (inr e) =
    acts view s s (Err fault) step (fault_answers view fault (step s).answer (inr (ap (λ (t : Turn _). t.answer) e))) refl

-- a command on the driver at a place, in a shelf of these rows
module _ (rows s : State) (i : ℕ) (x d : Driver) (same : rows ≡ s) (numbered : AreNumbered rows) (at : slice_get s i ≡ Some x)
    (number : d.number ≡ x.number) where
  -- it leaves the drivers with the new one in their place
  is_put : slice_set rows i d ≡ put d s
  is_put = ap (λ (t : State). slice_set t i d) same ∙ put_at s i d x (subst AreNumbered same numbered) at number

  pub still_numbered : AreNumbered (slice_set rows i d)
  still_numbered = subst AreNumbered (sym is_put) (numbered_put d s (subst AreNumbered same numbered))

pub acts_at : {A B : Type 0} (view : A → B) (own : Own B) (step : State → Turn B) (rows s : State) (i : ℕ) (x d : Driver)
    (result : Result A StoreFault) → rows ≡ s → AreNumbered rows → slice_get s i ≡ Some x → step s ≡ turn_of s (own x)
    → IsOwnStep view own x d result → ShelfActs view s (slice_set rows i d) result step
acts_at view own step rows s i x d (Ok done) same numbered at turn is =
    let after = turn ∙ ap (turn_of s) is.told in
    acts view s (slice_set rows i d) (Ok done) step (ap (λ (t : Turn _). t.answer) after)
    (is_put rows s i x d same numbered at is.number ∙ sym (ap (λ (t : Turn _). t.after) after))
acts_at view own step rows s i x d (Err fault) same numbered at turn is =
    acts view s (slice_set rows i d) (Err fault) step (fault_answers view fault (step s).answer (refusal is.told))
    (ap (λ (y : Driver). slice_set rows i y) is.left ∙ ap (λ (t : State). slice_set t i x) same ∙ set_same s i x at) where
      refusal : IsStepFault (own x) fault → IsStepFault (step s).answer fault
      refusal (inl e) = inl e
      refusal (inr e) = inr (ap (λ (t : Turn _). t.answer) (turn ∙ ap (turn_of s) e))

-- the driver whom a search by number found, as they are read at their place
pub read_at : (n i : ℕ) (rows s : State) (x : Driver) → rows ≡ s → IsIndexOf s (driver_of n s) (Some i) → x ≡ get_or rows i x
    → slice_get s i ≡ Some x
read_at n i rows s x same place read =
    slice_get_read s (length s) i x refl place.0 (subst (λ (t : State). x ≡ get_or t i x) same read)

-- likewise the driver at a place where there is one
pub read_there : (i : ℕ) (rows s : State) (d x : Driver) → rows ≡ s → slice_get s i ≡ Some d → x ≡ get_or rows i x → d ≡ x
read_there i rows s d x same at read =
    let there = slice_get_read s (length s) i x refl (slice_get_within s i d at) (subst (λ (t : State). x ≡ get_or t i x) same read) in
    cc (sym at ∙ there)

-- such a command on them
pub acts_on : {A B : Type 0} (view : A → B) (own : Own B) (step : State → Turn B) (n i : ℕ) (rows s : State) (x d : Driver)
    (result : Result A StoreFault) → step s ≡ own_turn own s (driver_of n s) → rows ≡ s → AreNumbered rows
    → IsIndexOf s (driver_of n s) (Some i) → x ≡ get_or rows i x → IsOwnStep view own x d result
    → ShelfActs view s (slice_set rows i d) result step
acts_on view own step n i rows s x d result turn same numbered place read is =
    let at = read_at n i rows s x same place read in
    acts_at view own step rows s i x d result same numbered at (turn ∙ ap (own_turn own s) (sym place.1 ∙ at)) is

pub numbered_on : (n i : ℕ) (rows s : State) (x d : Driver) → rows ≡ s → AreNumbered rows → IsIndexOf s (driver_of n s) (Some i)
    → x ≡ get_or rows i x → d.number ≡ x.number → AreNumbered (slice_set rows i d)
numbered_on n i rows s x d same numbered place read number =
    still_numbered rows s i x d same numbered (read_at n i rows s x same place read) number

-- ---- imports

-- a file with a fault is refused with it, or memory ran out while it was read
pub unreadable : (part : Part) (bytes : List ℕ) (s : State) (fault : StoreFault) (r : Result Imported StoreFault)
    → r ≡ Err fault → IsCardFault part bytes fault
    → (card : CardFault) → FileTells part bytes (Err card) → ((r ≡ Err Memory) ⊎ (r ≡ Err (Card card))) × (s ≡ s)
unreadable part bytes s fault r told (inl is) card tells = (inl (told ∙ ap Err is), refl)
unreadable part bytes s fault r told (inr h) card tells =
    let no_other = one_content part bytes (Err h.0) (Err card) h.2 tells in
    let same : h.0 ≡ card = cc in
    (inr (told ∙ ap Err h.1 ∙ ap (λ f. Err (Card f)) same), refl)

-- a file that was read has no fault
pub has_no_fault : (part : Part) (bytes : List ℕ) (read : Content) → FileTells part bytes (Ok read) → (card : CardFault)
    → FileTells part bytes (Err card) → ⊥
has_no_fault part bytes read tells card no_such =
    let same = one_content part bytes (Ok read) (Err card) tells no_such in
    cc

-- what a file's import does by one content of the file, it does by the other: there is one
pub by_content : (caller : Option ℕ) (part : Part) (bytes : List ℕ) (s : State) (read content : Result Content CardFault)
    (turn : Turn Imported) → FileTells part bytes read → FileTells part bytes content
    → import_step caller (part_number part) bytes read s ≡ turn
    → import_step caller (part_number part) bytes content s ≡ turn
by_content caller part bytes s read content turn told tells is =
    ap (λ (c : Result Content CardFault). import_step caller (part_number part) bytes c s)
    (one_content part bytes content read tells told) ∙ is

-- the import of a file that can't be read
pub import_unread : (caller : Option ℕ) (part : Part) (bytes : List ℕ) (s : State) (fault : StoreFault) (content : Result Content CardFault)
    → IsCardFault part bytes fault → FileTells part bytes content
    → (fault ≡ Memory) ⊎ (import_step caller (part_number part) bytes content s ≡ refusal_turn fault s)
import_unread caller part bytes s fault content (inl e) tells = inl e
import_unread caller part bytes s fault content (inr h) tells =
    inr (by_content caller part bytes s (Err h.0) content (refusal_turn fault s) h.2 tells
    (ap (λ (f : StoreFault). refusal_turn f s) (sym h.1)))
