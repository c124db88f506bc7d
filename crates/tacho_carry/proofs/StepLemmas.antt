-- The steps of commands leave a sound state sound.
use Rattle.std.proofs.Common.{◌≡◌, ℕ, zero, suc, ◌+◌, ◌-◌, ◌<◌, ◌≤◌, ◌==◌, nat_lt, Bool, true, false, cond, List, [], ◌∷◌, ◌++◌}
use Rattle.std.proofs.Common.{length, Option, Some, None, Result, Ok, Err, bytes_eq, refl, sym, ap, ◌∙◌, subst, arith}
use Rattle.std.proofs.lemmas.Bool.Decides.{nat_tests}
use Rattle.tacho_time.specs.declared.span.Span.{Span}
use Rattle.tacho_card.specs.declared.fault.CardFault.{CardFault}
use Rattle.tacho_card.specs.declared.file.Part.{Part}
use Rattle.tacho_state.specs.Content.{FileTells}
use Rattle.tacho_state.specs.Numbers.{part_number}
use Rattle.tacho_state.specs.Least.{is_within, least_conflict}
use Rattle.tacho_state.specs.State.{Driver, Entry, State, driver_of, driver_with_key, entered_spans, entry_from, given_spans}
use Rattle.tacho_state.specs.State.{held_spans, holding, marked_from, put, with_base, with_key, with_marked}
use Rattle.tacho_state.specs.Steps.{Content, Own, and_then, enter_own, enter_step, import_by_driver, import_own, import_step, is_another}
use Rattle.tacho_state.specs.Steps.{is_monday, most_records, own_turn, rebase_own, rebase_step, register_step, rekey_step, rename_own}
use Rattle.tacho_state.specs.Steps.{rename_step, turn_of, withdraw_from, withdraw_own, withdraw_range_step, withdrawn_by}
use Rattle.tacho_state.specs.declared.fault.StoreFault.{StoreFault}
use Rattle.tacho_state.specs.declared.fault.StoreFault.TheVariants.{AlreadyWithdrawn, NotMonday, NotYourCard}
use Rattle.tacho_state.proofs.DistinctLemmas.{IsKeyFreeFor, distinct_added, distinct_put, holder_not}
use Rattle.tacho_state.proofs.DistinctLemmas.{key_free, key_not, number_not, own_key}
use Rattle.tacho_state.proofs.EqualLemmas.{bytes_true}
use Rattle.tacho_state.proofs.PutLemmas.{found_all, found_number}
use Rattle.tacho_state.proofs.WithdrawLemmas.{left_given}
use Rattle.tacho_state.specs.Within.{IsOf}
use Rattle.tacho_carry.specs.Sound.{IsSound, IsSoundDriver}
use Rattle.tacho_carry.proofs.DriverLemmas.{all_put, holding_found}
use Rattle.tacho_carry.proofs.ListLemmas.{all_end}
use Rattle.tacho_carry.proofs.SoundLemmas.{batch_sound, download_sound, fewer_sound, new_sound, other_sound}

-- ---- a change of one driver

-- the driver has the number, the key and the holder of another
abbrev IsSame : Driver → Driver → Type 0
IsSame x d = (x.number ≡ d.number) × (x.key ≡ d.key) × (x.holder ≡ d.holder)

-- each driver is the same as themselves
same_self : (d : Driver) → IsSame d d
same_self d = (refl, refl, refl)

-- what a change of a driver answers
abbrev pub Answer : Type 0
Answer = Result (Unit {0} × Driver) StoreFault

-- a result is a refusal, or the same driver, who is sound
abbrev IsChange : {A : Type 0} → Driver → Result (A × Driver) StoreFault → Type 0
IsChange d (Err fault) = Unit {0}
IsChange d (Ok told) = IsSame told.1 d × IsSoundDriver told.1

-- a driver who is found by a number is found by their own
found_again : (n : ℕ) (s : State) (d : Driver) → driver_of n s ≡ Some d → driver_of d.number s ≡ Some d
found_again n s d e = subst (λ (k : ℕ). driver_of k s ≡ Some d) (sym (found_number n s d e)) e

-- a state stays sound if a sound driver whose key is free is put in place of the driver with the same number and holder
put_sound : (n : ℕ) (d old : Driver) (s : State) → IsSound s → driver_of n s ≡ Some old → d.number ≡ n → IsKeyFreeFor n d.key s
    → d.holder ≡ old.holder → IsSoundDriver d → IsSound (put d s)
put_sound n d old s h e is free same own =
    record { distinct = distinct_put n d old s e is free same h.distinct; each = all_put IsSoundDriver d s own h.each }

module _ {A : Type 0} (f : Own A) (s : State) (h : IsSound s) where
  -- a command on a driver who is found leaves the state sound, if it leaves the driver the same and sound
  own_sound : (o : Option Driver) → ((d : Driver) → o ≡ Some d → driver_of d.number s ≡ Some d)
      → ((d : Driver) → o ≡ Some d → IsSoundDriver d → IsChange d (f d)) → IsSound (own_turn f s o).after
  own_sound None there to = h
  own_sound (Some d) there to = go (f d) (to d refl (found_all IsSoundDriver d.number s d h.each (there d refl))) where
    go : (r : Result (A × Driver) StoreFault) → IsChange d r → IsSound (turn_of s r).after
    go (Err fault) c = h
    go (Ok told) c =
        let same = c.0 in
        put_sound d.number told.1 d s h (there d refl) same.0 (rw same.1 (own_key d.number s d (there d refl) h.distinct)) same.2 c.1

  -- likewise for a command by the driver's number
  number_sound : (n : ℕ) → ((d : Driver) → IsSoundDriver d → IsChange d (f d)) → IsSound (own_turn f s (driver_of n s)).after
  number_sound n to = own_sound (driver_of n s) (λ d e. found_again n s d e) (λ d e own. to d own)

-- ---- each command on a driver

-- the card file of a driver's card is of their holder
pub of_holder : (part : Part) (file : List ℕ) (content : Content) (d : Driver) → FileTells part file (Ok content) → d.holder ≡ content.holder
    → IsOf d.holder (record { part = part_number part; file = file; spans = content.spans })
of_holder part file content d tells same =
    (part, refl, subst (λ (x : List ℕ). FileTells part file (Ok (record { holder = x; spans = content.spans }))) (sym same) tells)

-- an import leaves the driver the same and sound
import_change : (part : ℕ) (file : List ℕ) (spans : List Span) (d : Driver) → IsSoundDriver d
    → IsOf d.holder (record { part = part; file = file; spans = spans }) → IsChange d (import_own part file spans d)
import_change part file spans d h own = go (is_within spans (given_spans d.downloads)) refl (least_conflict (held_spans d ++ spans)) refl
    (nat_lt (length d.downloads) most_records) refl where
      go : (w : Bool) → is_within spans (given_spans d.downloads) ≡ w → (o : Option ℕ) → least_conflict (held_spans d ++ spans) ≡ o
          → (t : Bool) → nat_lt (length d.downloads) most_records ≡ t → IsChange d (import_own part file spans d)
      go true w o e t l = rw w (same_self d, h)
      go false w (Some m) e t l = rw (w, e) tt
      go false w None e false l = rw (w, e, l) tt
      go false w None e true l =
          let room : length d.downloads < most_records = grind (arith, nat_tests) in
          rw (w, e, l) (same_self d, download_sound part file spans d h own w e room)

-- likewise for an import by a driver
import_by_change : (part : ℕ) (file : List ℕ) (content : Content) (d : Driver) → IsSoundDriver d
    → (d.holder ≡ content.holder → IsOf d.holder (record { part = part; file = file; spans = content.spans }))
    → IsChange d (import_by_driver part file content d)
import_by_change part file content d h own = go (bytes_eq d.holder content.holder) refl where
  go : (b : Bool) → bytes_eq d.holder content.holder ≡ b → IsChange d (cond b (import_own part file content.spans d) (Err NotYourCard))
  go true e = import_change part file content.spans d h (own (bytes_true d.holder content.holder e))
  go false e = tt

-- likewise for a batch of entries
enter_change : (batch : List Entry) (d : Driver) → IsSoundDriver d → IsChange d (enter_own batch d)
enter_change batch d h = go (least_conflict (held_spans d ++ entered_spans batch)) refl
    (nat_lt most_records (length d.entries + length batch)) refl where
      go : (o : Option ℕ) → least_conflict (held_spans d ++ entered_spans batch) ≡ o
          → (t : Bool) → nat_lt most_records (length d.entries + length batch) ≡ t → IsChange d (enter_own batch d)
      go (Some m) e t l = rw e tt
      go None e true l = rw (e, l) tt
      go None e false l =
          let room : length d.entries + length batch ≤ most_records = grind (arith, nat_tests) in
          rw (e, l) (same_self d, batch_sound batch d h e room)

-- a withdrawal removes no entry
pub marked_length : (i number : ℕ) (es : List Entry) → length (marked_from i number es) ≡ length es
marked_length i number [] = refl
marked_length i number (e ∷ es) = go (i == number) (marked_length (i + 1) number es) where
  go : (b : Bool) → length (marked_from (i + 1) number es) ≡ length es
      → length (cond b (record e { withdrawn = true } ∷ es) (e ∷ marked_from (i + 1) number es)) ≡ length (e ∷ es)
  go true more = refl
  go false more = ap suc more

-- likewise for a withdrawal
withdraw_change : (number : ℕ) (d : Driver) → IsSoundDriver d → IsChange d (withdraw_own number d)
withdraw_change number d h = go (entry_from 1 number d.entries) where
  go : (o : Option Entry) → IsChange d (withdrawn_by number d o)
  go None = tt
  go (Some e) = flag e.withdrawn where
    flag : (w : Bool) → IsChange d (cond {A = Answer} w (Err AlreadyWithdrawn) (Ok (tt, with_marked number d)))
    flag true = tt
    flag false = (
      same_self d,
      fewer_sound d (marked_from 1 number d.entries) h (λ m k. left_given 1 number e d.entries m k) (marked_length 1 number d.entries),
    )

-- likewise for a change, and another of the driver after it
then_change : (d : Driver) (r : Answer) (next : Own (Unit {0})) → IsChange d r
    → ((x : Driver) → IsSoundDriver x → IsChange x (next x)) → IsChange d (and_then r next)
then_change d (Err fault) next c to = tt
then_change d (Ok told) next c to = go (next told.1) (to told.1 c.1) where
  go : (r : Answer) → IsChange told.1 r → IsChange d r
  go (Err fault) k = tt
  go (Ok more) k =
      let one = c.0 in
      let two = k.0 in
      ((two.0 ∙ one.0, two.1 ∙ one.1, two.2 ∙ one.2), k.1)

-- likewise for a withdrawal of a range
range_change : (count first : ℕ) (d : Driver) → IsSoundDriver d → IsChange d (withdraw_from first count d)
range_change zero first d h = (same_self d, h)
range_change (suc count) first d h =
    then_change d (withdraw_own first d) (withdraw_from (first + 1) count) (withdraw_change first d h) (range_change count (first + 1))

-- likewise for a change of the base
rebase_change : (base : ℕ) (d : Driver) → IsSoundDriver d → IsChange d (rebase_own base d)
rebase_change base d h = go (is_monday base) refl where
  go : (b : Bool) → is_monday base ≡ b → IsChange d (cond {A = Answer} b (Ok (tt, with_base base d)) (Err NotMonday))
  go true e = (same_self d, other_sound base d.key d.name d h e)
  go false e = tt

-- ---- the state after each command

-- a new archive is sound
pub created_sound : IsSound []
created_sound = record { distinct = tt; each = tt }

-- a sound state is sound after a registration
pub registered_sound : (n : ℕ) (holder key name : List ℕ) (base : ℕ) (s : State) → IsSound s
    → IsSound (register_step n holder key base name s).after
registered_sound n holder key name base s h =
    go (driver_of n s) refl (driver_with_key key s) refl (holding holder s) refl (is_monday base) refl where
      one : Driver
      one = record { number = n; holder = holder; key = key; base = base; name = name; downloads = []; entries = [] }

      go : (a : Option Driver) → driver_of n s ≡ a → (b : Option Driver) → driver_with_key key s ≡ b
          → (c : Option Driver) → holding holder s ≡ c → (m : Bool) → is_monday base ≡ m
          → IsSound (register_step n holder key base name s).after
      go (Some x) e b f c g m l = rw e h
      go None e (Some x) f c g m l = rw (e, f) h
      go None e None f (Some x) g m l = rw (e, f, g) h
      go None e None f None g false l = rw (e, f, g, l) h
      go None e None f None g true l = rw (e, f, g, l) (record {
        distinct = distinct_added s one (number_not n s e) (key_not key s f) (holder_not holder s g) h.distinct;
        each = all_end IsSoundDriver s one h.each (new_sound one l);
      })

-- after an import
pub imported_sound : (caller : Option ℕ) (part : Part) (file : List ℕ) (content : Result Content CardFault) (s : State)
    → FileTells part file content → IsSound s → IsSound (import_step caller (part_number part) file content s).after
imported_sound None part file (Err fault) s tells h = h
imported_sound (Some n) part file (Err fault) s tells h = h
imported_sound None part file (Ok content) s tells h =
    own_sound (import_own (part_number part) file content.spans) s h (holding content.holder s)
    (λ d e. (holding_found content.holder s d h.distinct e).1)
    (λ d e own. import_change (part_number part) file content.spans d own
    (of_holder part file content d tells (holding_found content.holder s d h.distinct e).0))
imported_sound (Some n) part file (Ok content) s tells h =
    number_sound (import_by_driver (part_number part) file content) s h n
    (λ d own. import_by_change (part_number part) file content d own (of_holder part file content d tells))

-- after a batch of entries
pub entered_sound : (n : ℕ) (batch : List Entry) (s : State) → IsSound s → IsSound (enter_step n batch s).after
entered_sound n batch s h = number_sound (enter_own batch) s h n (enter_change batch)

-- after a withdrawal of a range
pub withdrawn_sound : (n first last : ℕ) (s : State) → IsSound s → IsSound (withdraw_range_step n first last s).after
withdrawn_sound n first last s h = number_sound (withdraw_from first (last + 1 - first)) s h n (range_change (last + 1 - first) first)

-- after a change of the base
pub rebased_sound : (n base : ℕ) (s : State) → IsSound s → IsSound (rebase_step n base s).after
rebased_sound n base s h = number_sound (rebase_own base) s h n (rebase_change base)

-- after a change of the key
pub rekeyed_sound : (n : ℕ) (key : List ℕ) (s : State) → IsSound s → IsSound (rekey_step n key s).after
rekeyed_sound n key s h = go (is_another n (driver_with_key key s)) refl (driver_of n s) refl where
  go : (b : Bool) → is_another n (driver_with_key key s) ≡ b → (o : Option Driver) → driver_of n s ≡ o → IsSound (rekey_step n key s).after
  go true e o f = rw e h
  go false e None f = rw (e, f) h
  go false e (Some d) f =
      let own = found_all IsSoundDriver n s d h.each f in
      let changed = other_sound d.base key d.name d own own.monday in
      rw (e, f) (put_sound n (with_key key d) d s h f (found_number n s d f) (key_free n key s h.distinct e) refl changed)

-- after a change of the name
pub renamed_sound : (n : ℕ) (name : List ℕ) (s : State) → IsSound s → IsSound (rename_step n name s).after
renamed_sound n name s h =
    number_sound (rename_own name) s h n (λ d own. (same_self d, other_sound d.base d.key name d own own.monday))
