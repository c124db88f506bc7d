-- The driver for whom an import is, by what look-ups find.
use Rattle.std.proofs.Common.{◌≡◌, ◌∙◌, ℕ, List, length, Bool, true, false, cond, Option, Some, None, Ok, Err, sym, ap}
use Rattle.std.specs.Prelude.{bytes_eq}
use Rattle.tacho_state.specs.declared.fault.StoreFault.{StoreFault}
use Rattle.tacho_state.specs.declared.fault.StoreFault.TheVariants.{UnknownDriver, NotYourCard}
use Rattle.tacho_state.specs.declared.imported.Imported.{Imported}
use Rattle.tacho_state.specs.State.{Driver, State, driver_of, holding}
use Rattle.tacho_state.specs.Steps.{Content, Turn, own_turn, turn_of, refusal_turn, import_own, import_by_driver, import_step, known_driver}
use Rattle.tacho_tables.specs.declared.rows.StoredDriver.{StoredDriver}
use Rattle.tacho_reading.specs.Finding.{IsFindingFault, IsNumberOf, IsStored}
use Rattle.tacho_reading.proofs.LookUpLemmas.{finding_as}
use Rattle.tacho_store.specs.Importing.{with_card, importer, IsImporterOf}

-- ---- by number

-- the driver has another card: S5
pub other_card : (n : ℕ) (holder : List ℕ) (s : State) (it : StoredDriver) (d : Driver) → driver_of n s ≡ Some d → IsStored it d
    → bytes_eq it.holder.items holder ≡ false → with_card holder (driver_of n s) ≡ Err NotYourCard
other_card n holder s it d is stored other = ap (with_card holder) is
    ∙ ap (λ b. cond b (Ok d) (Err NotYourCard)) (ap (λ x. bytes_eq x holder) (sym stored.holder) ∙ other)

-- the driver has this card
pub own_card : (n : ℕ) (holder : List ℕ) (s : State) (it : StoredDriver) (d : Driver) → driver_of n s ≡ Some d → IsStored it d
    → bytes_eq it.holder.items holder ≡ true
    → (e : Driver) × (with_card holder (driver_of n s) ≡ Ok e) × IsImporterOf s e (record { number = n; downloads = it.downloads })
own_card n holder s it d is stored own = (
  d,
  ap (with_card holder) is ∙ ap (λ b. cond b (Ok d) (Err NotYourCard))
      (ap (λ x. bytes_eq x holder) (sym stored.holder) ∙ own),
  record { found = is; downloads = stored.downloads },
)

-- ---- by holder

-- the driver whose card has the holder is the one with the number that was found
pub holder_known : (s : State) (n : ℕ) (it : StoredDriver) (d e : Driver) → IsNumberOf s n d → driver_of n s ≡ Some e → IsStored it e
    → IsImporterOf s d (record { number = n; downloads = it.downloads })
holder_known s n it d e number found stored =
    let same : e ≡ d = (let both = sym found ∙ number.found in cc) in
    record { found = number.found; downloads = stored.downloads ∙ ap (λ (x : Driver). length x.downloads) same }

-- so there is a driver with this number
pub number_known : (s : State) (n : ℕ) (d : Driver) {P : Type 0} → IsNumberOf s n d → driver_of n s ≡ None → P
number_known s n d number none = absurd (let both = sym number.found ∙ none in cc)

-- ---- the driver's import

module _ (part : ℕ) (file : List ℕ) (content : Content) (s : State) where
  -- the import is the driver's step
  pub imports_by_driver : (caller : Option ℕ) (d : Driver) → importer caller content.holder s ≡ Ok d
      → import_step caller part file (Ok content) s ≡ turn_of s (import_own part file content.spans d)
  imports_by_driver None d is = go (holding content.holder s) is where
    go : (o : Option Driver) → known_driver o ≡ Ok d
        → own_turn (import_own part file content.spans) s o ≡ turn_of s (import_own part file content.spans d)
    go None e = absurd (let both = e in cc)
    go (Some x) e = let same : x ≡ d = (let both = e in cc) in ap (λ y. turn_of s (import_own part file content.spans y)) same
  imports_by_driver (Some n) d is = go (driver_of n s) is where
    go : (o : Option Driver) → with_card content.holder o ≡ Ok d
        → own_turn (import_by_driver part file content) s o ≡ turn_of s (import_own part file content.spans d)
    go None e = absurd (let both = e in cc)
    go (Some x) e = own (bytes_eq x.holder content.holder) e where
      own : (b : Bool) → cond b (Ok x) (Err NotYourCard) ≡ Ok d
          → turn_of s (cond b (import_own part file content.spans x) (Err NotYourCard)) ≡ turn_of s (import_own part file content.spans d)
      own true e = let same : x ≡ d = (let both = e in cc) in ap (λ y. turn_of s (import_own part file content.spans y)) same
      own false e = absurd (let both = e in cc)

  -- if the driver isn't found, the import is refused with the same fault
  pub refuses : (caller : Option ℕ) (f : StoreFault) → importer caller content.holder s ≡ Err f
      → import_step caller part file (Ok content) s ≡ refusal_turn f s
  refuses None f is = go (holding content.holder s) is where
    go : (o : Option Driver) → known_driver o ≡ Err f → own_turn (import_own part file content.spans) s o ≡ refusal_turn f s
    go None e = let same : UnknownDriver ≡ f = (let both = e in cc) in ap (λ g. refusal_turn g s) same
    go (Some x) e = absurd (let both = e in cc)
  refuses (Some n) f is = go (driver_of n s) is where
    go : (o : Option Driver) → with_card content.holder o ≡ Err f → own_turn (import_by_driver part file content) s o ≡ refusal_turn f s
    go None e = let same : UnknownDriver ≡ f = (let both = e in cc) in ap (λ g. refusal_turn g s) same
    go (Some x) e = own (bytes_eq x.holder content.holder) e where
      own : (b : Bool) → cond b (Ok x) (Err NotYourCard) ≡ Err f
          → turn_of s (cond b (import_own part file content.spans x) (Err NotYourCard)) ≡ refusal_turn f s
      own true e = absurd (let both = e in cc)
      own false e = let same : NotYourCard ≡ f = (let both = e in cc) in ap (λ g. refusal_turn g s) same

  -- so the import is refused as the look-up was
  pub not_importer : (caller : Option ℕ) (fault : StoreFault) → IsFindingFault fault (importer caller content.holder s)
      → IsFindingFault fault (import_step caller part file (Ok content) s).answer
  not_importer caller fault h = finding_as fault _ _ (λ is. ap (λ (turn : Turn Imported). turn.answer) (refuses caller fault is)) h
