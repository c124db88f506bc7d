-- The import of a file's bytes, by the content that they have.
use Rattle.std.proofs.Common.{◌≡◌, ◌∙◌, ◌⊎◌, inl, inr, ℕ, List, ◌∷◌, Option, Result, Ok, Err, refl, sym, ap, subst}
use Rattle.std.specs.Prelude.{IsErr, IsErrAnd}
use Rattle.tacho_card.specs.declared.fault.CardFault.{CardFault}
use Rattle.tacho_card.specs.declared.file.Part.{Part}
use Rattle.tacho_state.specs.declared.fault.StoreFault.{StoreFault}
use Rattle.tacho_state.specs.declared.fault.StoreFault.TheVariants.{Card, Memory}
use Rattle.tacho_state.specs.declared.imported.Imported.{Imported}
use Rattle.tacho_state.specs.Acts.{Acts, Answers, IsAnswered, IsOfNoFile}
use Rattle.tacho_state.specs.Content.{FileTells}
use Rattle.tacho_state.specs.Numbers.{part_number}
use Rattle.tacho_state.specs.State.{State}
use Rattle.tacho_state.specs.Steps.{Content, Turn, import_step}
use Rattle.tacho_state.proofs.ContentLemmas.{one_content}

module _ {K L : Type 0} (f : L → K) {stands : K → State → Type 0} {is_clean is_live : K → Type 0} {leaves : K → List State → Type 0}
    {is_same : K → K → Type 0} {is_same_of : ℕ → K → K → Type 0} where
  -- a step on a part of an archive is a step on the whole
  pub acts_whole : {A B : Type 0} {view : A → B} {old new : L} {r : Result A StoreFault} {step : State → Turn B}
      → Acts stands is_clean is_live leaves is_same is_same_of view (f old) (f new) r step
      → Acts (λ l. stands (f l)) (λ l. is_clean (f l)) (λ l. is_live (f l)) (λ l. leaves (f l)) (λ a b. is_same (f a) (f b))
      (λ n a b. is_same_of n (f a) (f b)) view old new r step
  acts_whole h = record {
    clean = h.clean;
    answer = h.answer;
    state = h.state;
    same = h.same;
    others = h.others;
    answered = h.answered;
    was_live = h.was_live;
    live = h.live;
    crash = h.crash;
    shut = h.shut;
    refused = h.refused;
    kept = h.kept;
  }

module _ {K : Type 0} {stands : K → State → Type 0} {is_clean is_live : K → Type 0} {leaves : K → List State → Type 0}
    {is_same : K → K → Type 0} {is_same_of : ℕ → K → K → Type 0} where
  -- a step by one content of a file is a step by each content that the file has
  pub acts_told : {old new : K} {r : Result Imported StoreFault} (caller : Option ℕ) (part : Part) (file : List ℕ)
      (content other : Result Content CardFault) → FileTells part file content → FileTells part file other
      → Acts stands is_clean is_live leaves is_same is_same_of (λ done. done) old new r (import_step caller (part_number part) file content)
      → Acts stands is_clean is_live leaves is_same is_same_of (λ done. done) old new r (import_step caller (part_number part) file other)
  acts_told {old = old} {new = new} {r = r} caller part file content other one two = subst
      (λ c. Acts stands is_clean is_live leaves is_same is_same_of (λ done. done) old new r (import_step caller (part_number part) file c))
      (one_content part file content other one two)

-- why a file couldn't be read: it has a fault, or memory ran out
abbrev pub IsFileFault : Part → List ℕ → StoreFault → Type 0
IsFileFault part file fault = (fault ≡ Memory) ⊎ ((f : CardFault) × (fault ≡ Card f) × FileTells part file (Err f))

module _ {K : Type 0} (stands : K → State → Type 0) (is_clean is_live : K → Type 0) (leaves : K → List State → Type 0)
    (is_same : K → K → Type 0) (is_same_of : ℕ → K → K → Type 0)
    (more : (k : K) (s : State) (states : List State) → leaves k states → leaves k (s ∷ states))
    (self : (k : K) → is_same k k) (self_of : (k : K) (s : State) → stands k s → (n : ℕ) → is_same_of n k k) where
  -- a call that ended before the archive was accessed
  idle : (k : K) (fault : StoreFault) (step : State → Turn Imported)
      → ((s : State) → Answers (λ (done : Imported). done) (Err fault) (step s).answer) → (IsAnswered {A = Imported} (Err fault) → ⊥)
      → Acts stands is_clean is_live leaves is_same is_same_of (λ done. done) k k (Err fault) step
  idle k fault step answers silent = record {
    clean = λ c. c;
    answer = λ _ s _. answers s;
    state = λ _ s h. h;
    same = λ _ _ _. self k;
    others = λ _ s h n _. self_of k s h n;
    answered = λ _ answered. absurd (silent answered);
    was_live = λ _ live. live;
    live = λ _ answered. absurd (silent answered);
    crash = λ _ s past _ left. more k _ past left;
    shut = λ _ _ past left. left;
    refused = λ _ _ past left. left;
    kept = λ _ s _. tt;
  }

  -- a file with a fault is refused with that fault, and nothing has changed
  pub acts_fault : (k : K) (r : Result Imported StoreFault) (caller : Option ℕ) (part : Part) (file : List ℕ) (fault : StoreFault)
      (content : Result Content CardFault) → FileTells part file content
      → IsFileFault part file fault → IsErr r × IsErrAnd r (λ found. found ≡ fault)
      → Acts stands is_clean is_live leaves is_same is_same_of (λ done. done) k k r (import_step caller (part_number part) file content)
  acts_fault k (Ok done) caller part file fault content tells why e = let wrong = e.0 in cc
  acts_fault k (Err found) caller part file fault content tells (inl memory) e =
      subst (λ g. Acts stands is_clean is_live leaves is_same is_same_of (λ done. done) k k (Err g)
      (import_step caller (part_number part) file content))
      (sym (e.1 ∙ memory)) (idle k Memory (import_step caller (part_number part) file content) (λ s. tt) (λ wrong. wrong))
  acts_fault k (Err found) caller part file fault content tells (inr it) e =
      acts_told caller part file (Err it.0) content it.2 tells
      (subst (λ g. Acts stands is_clean is_live leaves is_same is_same_of (λ done. done) k k (Err g)
      (import_step caller (part_number part) file (Err it.0)))
      (sym (e.1 ∙ it.1)) (idle k (Card it.0) (import_step caller (part_number part) file (Err it.0)) (λ s. refl) (λ wrong. wrong)))

-- a file with a fault is refused with that fault, or memory ran out while it was read
pub unreadable : (part : Part) (file : List ℕ) (r : Result Imported StoreFault) (fault : StoreFault) → IsFileFault part file fault
    → IsErr r × IsErrAnd r (λ e. e ≡ fault) → (f : CardFault) → FileTells part file (Err f) → (r ≡ Err Memory) ⊎ (r ≡ Err (Card f))
unreadable part file (Ok x) fault why e f tells = let wrong = e.0 in cc
unreadable part file (Err found) fault (inl is) e f tells = inl (ap Err (e.1 ∙ is))
unreadable part file (Err found) fault (inr it) e f tells =
    let same : it.0 ≡ f = (let both = one_content part file (Err it.0) (Err f) it.2 tells in cc) in
    inr (ap Err (e.1 ∙ it.1 ∙ ap Card same))

-- if a fault of a file is reported, the file has that fault
pub readable : (part : Part) (file : List ℕ) (r : Result Imported StoreFault) (fault : StoreFault) → IsFileFault part file fault
    → IsErr r × IsErrAnd r (λ e. e ≡ fault) → (f : CardFault) → r ≡ Err (Card f) → FileTells part file (Err f)
readable part file (Ok x) fault why e f is = let wrong = e.0 in cc
readable part file (Err found) fault (inl memory) e f is = let both : Err Memory ≡ Err (Card f) = sym (ap Err (e.1 ∙ memory)) ∙ is in cc
readable part file (Err found) fault (inr it) e f is =
    let both : Card it.0 ≡ Card f = (let all = sym (ap Err (e.1 ∙ it.1)) ∙ is in cc) in
    let same : it.0 ≡ f = cc in
    subst (λ g. FileTells part file (Err g)) same it.2

-- a file that was read has no fault
pub was_read : (part : Part) (file : List ℕ) (content : Content) (f : CardFault) → FileTells part file (Ok content)
    → FileTells part file (Err f) → ⊥
was_read part file content f tells wrong = let both = one_content part file (Ok content) (Err f) tells wrong in cc

-- a call that reads no file isn't refused with a fault of a file
pub not_of_file : {A : Type 0} (r : Result A StoreFault) (f : CardFault) → IsOfNoFile r → r ≡ Err (Card f) → ⊥
not_of_file r f other is = subst IsOfNoFile is other
