-- The steps of commands leave a state within its limits.
use Rattle.std.proofs.Common.{◌≡◌, ℕ, zero, suc, ◌+◌, ◌-◌, ◌*◌, ◌<◌, ◌≤◌, ◌==◌, ◌&&◌, not, nat_lt, max, Bool, true, false, cond}
use Rattle.std.proofs.Common.{List, [], ◌∷◌, ◌++◌, filter, length, length-append, Option, Some, None}
use Rattle.std.proofs.Common.{Result, Ok, Err, bytes_eq, refl, subst, arith}
use Rattle.std.specs.Prelude.{IsUtf8}
use Rattle.std.specs.List.{AllByRecursion}
use Rattle.std.specs.List.Sorted.{IsPermutation}
use Rattle.std.proofs.lemmas.Bool.Decides.{nat_tests}
use Rattle.tacho_time.specs.Limits.{last_day}
use Rattle.tacho_time.specs.declared.span.Span.{Span}
use Rattle.tacho_card.specs.declared.fault.CardFault.{CardFault}
use Rattle.tacho_card.specs.declared.file.Part.{Part}
use Rattle.tacho_state.specs.Content.{FileTells}
use Rattle.tacho_state.specs.Least.{is_within, least_conflict}
use Rattle.tacho_state.specs.Limits.{IsKey, IsName}
use Rattle.tacho_state.specs.Numbers.{part_number}
use Rattle.tacho_state.specs.Registration.{Registration, IsRegistration, IsReadDay}
use Rattle.tacho_state.specs.State.{Download, Driver, Entry, State, driver_of, driver_with_key, entered_spans, entry_from, given_spans}
use Rattle.tacho_state.specs.State.{held_spans, holding, marked_from, with_base, with_batch, with_download, with_marked}
use Rattle.tacho_state.specs.Steps.{Content, Own, and_then, enter_own, enter_step, import_by_driver, import_own, import_step, is_another}
use Rattle.tacho_state.specs.Steps.{is_monday, most_records, own_turn, rebase_own, rebase_step, register_step, rekey_own, rekey_step}
use Rattle.tacho_state.specs.Steps.{rename_own, rename_step, turn_of, withdraw_from, withdraw_own, withdraw_range_step, withdrawn_by}
use Rattle.tacho_state.specs.Within.{AreWithinLimits, IsEntry, IsOf, IsWithinLimits}
use Rattle.tacho_state.specs.declared.fault.StoreFault.{StoreFault}
use Rattle.tacho_state.specs.declared.fault.StoreFault.TheVariants.{AlreadyWithdrawn, NotMonday, NotYourCard}
use Rattle.tacho_state.proofs.EqualLemmas.{bytes_true}
use Rattle.tacho_state.proofs.PutLemmas.{found_all}
use Rattle.tacho_carry.specs.Carried.{carried, carried_driver, monday_of, reaches}
use Rattle.tacho_carry.proofs.DayLemmas.{later_monday}
use Rattle.tacho_carry.proofs.DriverLemmas.{all_carried, all_put}
use Rattle.tacho_carry.proofs.ListLemmas.{all_end, all_filter, all_ordered, filter_length}
use Rattle.tacho_carry.proofs.StepLemmas.{Answer, marked_length, of_holder}

-- ---- a change of one driver

-- a result is a refusal, or a driver within their limits
abbrev Leaves : {A : Type 0} → Result (A × Driver) StoreFault → Type 0
Leaves (Err fault) = Unit {0}
Leaves (Ok told) = IsWithinLimits told.1

-- the driver whose card has a holder has it, and is within their limits if all are
holding_within : (holder : List ℕ) (s : State) (d : Driver) → AreWithinLimits s → holding holder s ≡ Some d
    → (d.holder ≡ holder) × IsWithinLimits d
holding_within holder [] d w e = cc
holding_within holder (x ∷ s) d w e = go (bytes_eq x.holder holder) refl e (holding_within holder s d w.1) where
  go : (b : Bool) → bytes_eq x.holder holder ≡ b → cond b (Some x) (holding holder s) ≡ Some d
      → (holding holder s ≡ Some d → (d.holder ≡ holder) × IsWithinLimits d) → (d.holder ≡ holder) × IsWithinLimits d
  go true o f more =
      let same : x ≡ d = cc in subst (λ (y : Driver). (y.holder ≡ holder) × IsWithinLimits y) same (bytes_true x.holder holder o, w.0)
  go false o f more = more f

module _ {A : Type 0} (f : Own A) (s : State) (w : AreWithinLimits s) where
  -- a state stays within its limits after a command on one driver, if the command leaves the driver within theirs
  own_within : (o : Option Driver) → ((d : Driver) → o ≡ Some d → Leaves (f d)) → AreWithinLimits (own_turn f s o).after
  own_within None to = w
  own_within (Some d) to = go (f d) (to d refl) where
    go : (r : Result (A × Driver) StoreFault) → Leaves r → AreWithinLimits (turn_of s r).after
    go (Err fault) c = w
    go (Ok told) c = all_put IsWithinLimits told.1 s c w

  -- likewise for a command by the driver's number
  number_within : (n : ℕ) → ((d : Driver) → IsWithinLimits d → Leaves (f d)) → AreWithinLimits (own_turn f s (driver_of n s)).after
  number_within n to = own_within (driver_of n s) (λ d e. to d (found_all IsWithinLimits n s d w e))

-- ---- each command on a driver

import_leaves : (part : ℕ) (file : List ℕ) (spans : List Span) (d : Driver) → IsWithinLimits d
    → IsOf d.holder (record { part = part; file = file; spans = spans }) → Leaves (import_own part file spans d)
import_leaves part file spans d h own = go (is_within spans (given_spans d.downloads)) refl (least_conflict (held_spans d ++ spans)) refl
    (nat_lt (length d.downloads) most_records) refl where
      one : Download
      one = record { part = part; file = file; spans = spans }

      go : (w : Bool) → is_within spans (given_spans d.downloads) ≡ w → (o : Option ℕ) → least_conflict (held_spans d ++ spans) ≡ o
          → (t : Bool) → nat_lt (length d.downloads) most_records ≡ t → Leaves (import_own part file spans d)
      go true w o e t l = rw w h
      go false w (Some m) e t l = rw (w, e) tt
      go false w None e false l = rw (w, e, l) tt
      go false w None e true l =
          let room : length d.downloads < most_records = grind (arith, nat_tests) in
          let long = length-append d.downloads (one ∷ []) in
          let few : length (d.downloads ++ one ∷ []) ≤ most_records = omega (arith, long, room) in
          let files = all_end (IsOf d.holder) d.downloads one h.files own in
          let it : IsWithinLimits (with_download part file spans d) = assumption (h, few, files) in
          rw (w, e, l) it

import_by_leaves : (part : ℕ) (file : List ℕ) (content : Content) (d : Driver) → IsWithinLimits d
    → (d.holder ≡ content.holder → IsOf d.holder (record { part = part; file = file; spans = content.spans }))
    → Leaves (import_by_driver part file content d)
import_by_leaves part file content d h own = go (bytes_eq d.holder content.holder) refl where
  go : (b : Bool) → bytes_eq d.holder content.holder ≡ b → Leaves (cond b (import_own part file content.spans d) (Err NotYourCard))
  go true e = import_leaves part file content.spans d h (own (bytes_true d.holder content.holder e))
  go false e = tt

-- what holds of all entries of two lists holds of both in a row
joined : (es batch : List Entry) → AllByRecursion IsEntry es → AllByRecursion IsEntry batch → AllByRecursion IsEntry (es ++ batch)
joined [] batch h own = own
joined (e ∷ es) batch h own = (h.0, joined es batch h.1 own)

enter_leaves : (batch : List Entry) → AllByRecursion IsEntry batch → (d : Driver) → IsWithinLimits d → Leaves (enter_own batch d)
enter_leaves batch are d h = go (least_conflict (held_spans d ++ entered_spans batch)) refl
    (nat_lt most_records (length d.entries + length batch)) refl where
      go : (o : Option ℕ) → least_conflict (held_spans d ++ entered_spans batch) ≡ o
          → (t : Bool) → nat_lt most_records (length d.entries + length batch) ≡ t → Leaves (enter_own batch d)
      go (Some m) e t l = rw e tt
      go None e true l = rw (e, l) tt
      go None e false l =
          let room : length d.entries + length batch ≤ most_records = grind (arith, nat_tests) in
          let long = length-append d.entries batch in
          let few : length (d.entries ++ batch) ≤ most_records = omega (arith, long, room) in
          let entries = joined d.entries batch h.entries are in
          let it : IsWithinLimits (with_batch batch d) = assumption (h, few, entries) in
          rw (e, l) it

-- an entry stays within its limits if it is withdrawn
marked_within : (i number : ℕ) (es : List Entry) → AllByRecursion IsEntry es → AllByRecursion IsEntry (marked_from i number es)
marked_within i number [] h = tt
marked_within i number (e ∷ es) h = go (i == number) (marked_within (i + 1) number es h.1) where
  go : (b : Bool) → AllByRecursion IsEntry (marked_from (i + 1) number es)
      → AllByRecursion IsEntry (cond b (record e { withdrawn = true } ∷ es) (e ∷ marked_from (i + 1) number es))
  go true more = assumption h
  go false more = (h.0, more)

withdraw_leaves : (number : ℕ) (d : Driver) → IsWithinLimits d → Leaves (withdraw_own number d)
withdraw_leaves number d h = go (entry_from 1 number d.entries) where
  go : (o : Option Entry) → Leaves (withdrawn_by number d o)
  go None = tt
  go (Some e) = flag e.withdrawn where
    flag : (w : Bool) → Leaves (cond {A = Answer} w (Err AlreadyWithdrawn) (Ok (tt, with_marked number d)))
    flag true = tt
    flag false =
        let long = marked_length 1 number d.entries in
        let few : length (marked_from 1 number d.entries) ≤ most_records = omega (arith, long, h.columns.few_entries) in
        assumption (h, few, marked_within 1 number d.entries h.entries)

range_leaves : (count first : ℕ) (d : Driver) → IsWithinLimits d → Leaves (withdraw_from first count d)
range_leaves zero first d h = h
range_leaves (suc count) first d h = go (withdraw_own first d) (withdraw_leaves first d h) (range_leaves count (first + 1)) where
  go : (r : Answer) → Leaves r → ((x : Driver) → IsWithinLimits x → Leaves (withdraw_from (first + 1) count x))
      → Leaves (and_then r (withdraw_from (first + 1) count))
  go (Err fault) c more = tt
  go (Ok told) c more = more told.1 c

rebase_leaves : (base : ℕ) → IsReadDay base → (d : Driver) → IsWithinLimits d → Leaves (rebase_own base d)
rebase_leaves base day d h = go (is_monday base) refl where
  go : (b : Bool) → is_monday base ≡ b → Leaves (cond {A = Answer} b (Ok (tt, with_base base d)) (Err NotMonday))
  go true e = assumption (h, day, e)
  go false e = tt

-- ---- the state after each command

pub created_within : AreWithinLimits []
created_within = tt

pub registered_within : (r : Registration) (s : State) → IsRegistration r → length r.holder ≡ 15 → IsUtf8 r.key → IsUtf8 r.name
    → AreWithinLimits s → AreWithinLimits (register_step r.number r.holder r.key r.base r.name s).after
registered_within r s is holder key name w =
    go (driver_of r.number s) refl (driver_with_key r.key s) refl (holding r.holder s) refl (is_monday r.base) refl where
      one : Driver
      one = record { number = r.number; holder = r.holder; key = r.key; base = r.base; name = r.name; downloads = []; entries = [] }

      go : (a : Option Driver) → driver_of r.number s ≡ a → (b : Option Driver) → driver_with_key r.key s ≡ b
          → (c : Option Driver) → holding r.holder s ≡ c → (m : Bool) → is_monday r.base ≡ m
          → AreWithinLimits (register_step r.number r.holder r.key r.base r.name s).after
      go (Some x) e b f c g m l = rw e w
      go None e (Some x) f c g m l = rw (e, f) w
      go None e None f (Some x) g m l = rw (e, f, g) w
      go None e None f None g false l = rw (e, f, g, l) w
      go None e None f None g true l =
          let few : 0 ≤ most_records = omega arith in
          let own : IsWithinLimits one = assumption (is, l, holder, key, name, few) in
          rw (e, f, g, l) (all_end IsWithinLimits s one w own)

pub imported_within : (caller : Option ℕ) (part : Part) (file : List ℕ) (content : Result Content CardFault) (s : State)
    → FileTells part file content → AreWithinLimits s → AreWithinLimits (import_step caller (part_number part) file content s).after
imported_within None part file (Err fault) s tells w = w
imported_within (Some n) part file (Err fault) s tells w = w
imported_within None part file (Ok content) s tells w =
    own_within (import_own (part_number part) file content.spans) s w (holding content.holder s)
    (λ d e. let it = holding_within content.holder s d w e in
    import_leaves (part_number part) file content.spans d it.1 (of_holder part file content d tells it.0))
imported_within (Some n) part file (Ok content) s tells w =
    number_within (import_by_driver (part_number part) file content) s w n
    (λ d h. import_by_leaves (part_number part) file content d h (of_holder part file content d tells))

pub entered_within : (n : ℕ) (batch : List Entry) (s : State) → AllByRecursion IsEntry batch → AreWithinLimits s
    → AreWithinLimits (enter_step n batch s).after
entered_within n batch s are w = number_within (enter_own batch) s w n (enter_leaves batch are)

pub withdrawn_within : (n first last : ℕ) (s : State) → AreWithinLimits s → AreWithinLimits (withdraw_range_step n first last s).after
withdrawn_within n first last s w =
    number_within (withdraw_from first (last + 1 - first)) s w n (range_leaves (last + 1 - first) first)

pub rebased_within : (n base : ℕ) (s : State) → IsReadDay base → AreWithinLimits s → AreWithinLimits (rebase_step n base s).after
rebased_within n base s day w = number_within (rebase_own base) s w n (rebase_leaves base day)

pub rekeyed_within : (n : ℕ) (key : List ℕ) (s : State) → IsKey key → IsUtf8 key → AreWithinLimits s
    → AreWithinLimits (rekey_step n key s).after
rekeyed_within n key s is text w = go (is_another n (driver_with_key key s)) refl where
  go : (b : Bool) → is_another n (driver_with_key key s) ≡ b → AreWithinLimits (rekey_step n key s).after
  go true e = rw e w
  go false e = rw e (number_within (rekey_own key) s w n (λ d h. assumption (h, is, text)))

pub renamed_within : (n : ℕ) (name : List ℕ) (s : State) → IsName name → IsUtf8 name → AreWithinLimits s
    → AreWithinLimits (rename_step n name s).after
renamed_within n name s is text w = number_within (rename_own name) s w n (λ d h. assumption (h, is, text))

-- ---- a state that is carried or ordered

carried_driver_within : (day : ℕ) → day ≤ last_day → (d : Driver) → IsWithinLimits d → IsWithinLimits (carried_driver day d)
carried_driver_within day early d h =
    let c = h.columns in
    let r = c.registration.base in
    let monday : monday_of day ≤ day = omega arith in
    let base : IsReadDay (max d.base (monday_of day)) = (omega (arith, r.0), omega (arith, r.1, monday, early)) in
    let first = later_monday d.base day c.monday in
    let is_file = λ (f : Download). reaches (1440 * day) f.spans in
    let is_entry = λ (e : Entry). not e.withdrawn && nat_lt (1440 * day) e.past in
    let few_files : length (filter is_file d.downloads) ≤ most_records = omega (arith, filter_length is_file d.downloads, c.few_files) in
    let few_entries : length (filter is_entry d.entries) ≤ most_records = omega (arith, filter_length is_entry d.entries, c.few_entries) in
    let files = all_filter (IsOf d.holder) is_file d.downloads h.files in
    let entries = all_filter IsEntry is_entry d.entries h.entries in
    assumption (h, base, first, few_files, few_entries, files, entries)

pub carried_within : (day : ℕ) (s : State) → day ≤ last_day → AreWithinLimits s → AreWithinLimits (carried day s)
carried_within day s early w = all_carried day IsWithinLimits s (carried_driver_within day early) w

pub ordered_within : (s t : State) → IsPermutation s t → AreWithinLimits s → AreWithinLimits t
ordered_within s t same w = all_ordered IsWithinLimits s t same w
