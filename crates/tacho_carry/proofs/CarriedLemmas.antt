-- A driver who is carried, at the end of a state.
use Rattle.std.proofs.Common.{◌≡◌, ◌∙◌, ℕ, ◌==◌, ◌*◌, max, not, Bool, true, false, cond, List, [], ◌∷◌, ◌++◌, None, Some, Ok, map, refl}
use Rattle.std.proofs.Common.{sym, ap, subst}
use Rattle.tacho_state.specs.State.{Driver, State, driver_of, put}
use Rattle.tacho_state.specs.Steps.{entries_reading, key_reading, numbered_from, reading_of}
use Rattle.tacho_state.specs.Registration.{Registration}
use Rattle.tacho_state.specs.Summaries.{Summary, summary_of}
use Rattle.tacho_state.specs.Files.{ListedFile, files_reading, listed_from}
use Rattle.tacho_state.specs.declared.entry.Entry.{Entry}
use Rattle.tacho_state.proofs.EqualLemmas.{eq_self}
use Rattle.tacho_carry.specs.Carried.{carried, carried_driver, is_left_out, monday_of}
use Rattle.tacho_carry.specs.Carrying.{registered, with_entries, with_files}

-- the driver at the end is found, unless another has the number
pub found_end : (t : State) (d : Driver) → driver_of d.number t ≡ None → driver_of d.number (t ++ d ∷ []) ≡ Some d
found_end [] d none = ap (λ b. cond b (Some d) None) (eq_self d.number)
found_end (x ∷ t) d none = go (x.number == d.number) none (found_end t d) where
  go : (b : Bool) → cond b (Some x) (driver_of d.number t) ≡ None
      → (driver_of d.number t ≡ None → driver_of d.number (t ++ d ∷ []) ≡ Some d)
      → cond b (Some x) (driver_of d.number (t ++ d ∷ [])) ≡ Some d
  go true e more = cc
  go false e more = more e

-- and another one in their place is at the end
pub put_end : (t : State) (d new : Driver) → new.number ≡ d.number → driver_of d.number t ≡ None → put new (t ++ d ∷ []) ≡ t ++ new ∷ []
put_end [] d new same none =
    ap (λ b. cond b (new ∷ []) (d ∷ [])) (subst (λ (j : ℕ). (d.number == j) ≡ true) (sym same) (eq_self d.number))
put_end (x ∷ t) d new same none = go (x.number == d.number) refl none (put_end t d new same) where
  go : (b : Bool) → (x.number == d.number) ≡ b → cond b (Some x) (driver_of d.number t) ≡ None
      → (driver_of d.number t ≡ None → put new (t ++ d ∷ []) ≡ t ++ new ∷ []) → put new (x ∷ (t ++ d ∷ [])) ≡ x ∷ (t ++ new ∷ [])
  go true o e more = cc
  go false o e more =
      ap (λ b. cond b (new ∷ (t ++ d ∷ [])) (x ∷ put new (t ++ d ∷ []))) (subst (λ (j : ℕ). (x.number == j) ≡ false) (sym same) o)
      ∙ ap (λ (rest : State). x ∷ rest) (more e)

-- a driver who is left out, and one who isn't
pub carried_none : (day : ℕ) (d : Driver) → is_left_out day d ≡ true → carried day (d ∷ []) ≡ []
carried_none day d e = ap (λ b. map (carried_driver day) (cond (not b) (d ∷ []) [])) e

pub carried_one : (day : ℕ) (d : Driver) → is_left_out day d ≡ false → carried day (d ∷ []) ≡ carried_driver day d ∷ []
carried_one day d e = ap (λ b. map (carried_driver day) (cond (not b) (d ∷ []) [])) e

-- a driver who is registered with what is listed of them and their key, with the card files and the entries that are carried, is the driver
-- who is carried
pub carried_is : (day : ℕ) (d : Driver) (r : Registration) → r ≡ record {
  number = d.number;
  holder = d.holder;
  key = d.key;
  base = max d.base (monday_of day);
  name = d.name;
} → with_entries (1440 * day) d.entries (with_files (1440 * day) d.downloads (registered r)) ≡ carried_driver day d
carried_is day d r is = ap (λ (x : Registration). with_entries (1440 * day) d.entries (with_files (1440 * day) d.downloads (registered x)))
    is

-- a registration by what is listed of a driver and their key
pub registered_as : (day : ℕ) (d : Driver) (listed : Summary) (key : List ℕ) (r : Registration)
    → r ≡ record { number = listed.number; holder = listed.holder; key = key; base = max listed.base (monday_of day); name = listed.name }
    → listed ≡ summary_of d → key ≡ d.key
    → r ≡ record { number = d.number; holder = d.holder; key = d.key; base = max d.base (monday_of day); name = d.name }
registered_as day d listed key r is of own =
    is
    ∙ ap (λ (x : Summary). record { number = x.number; holder = x.holder; key = key; base = max x.base (monday_of day); name = x.name }) of
    ∙ ap (λ (k : List ℕ). record { number = d.number; holder = d.holder; key = k; base = max d.base (monday_of day); name = d.name }) own

-- the driver is at the end after their registration, the imports and the entries
pub carried_at : (at_first at_next at_last : State → Type 0) (day start n : ℕ) (t : State) (d : Driver) (r : Registration)
    → start ≡ 1440 * day → n ≡ d.number
    → r ≡ record { number = d.number; holder = d.holder; key = d.key; base = max d.base (monday_of day); name = d.name }
    → driver_of r.number t ≡ None → at_first (t ++ registered r ∷ [])
    → ((y : State) (x : Driver) → driver_of n y ≡ Some x → at_first y → at_next (put (with_files start d.downloads x) y))
    → ((y : State) (x : Driver) → driver_of n y ≡ Some x → at_next y → at_last (put (with_entries start d.entries x) y))
    → is_left_out day d ≡ false → at_last (t ++ carried day (d ∷ []))
carried_at at_first at_next at_last day start n t d r begins same is none first imported entered stays =
    let number : n ≡ r.number = same ∙ sym (ap (λ (x : Registration). x.number) is) in
    let own = registered r in
    let with = with_files start d.downloads own in
    let all = with_entries start d.entries with in
    let next : at_next (t ++ with ∷ []) =
    subst at_next (put_end t own with refl none)
    (imported (t ++ own ∷ []) own (subst (λ (j : ℕ). driver_of j (t ++ own ∷ []) ≡ Some own) (sym number) (found_end t own none)) first) in
    let last : at_last (t ++ all ∷ []) =
    subst at_last (put_end t with all refl none)
    (entered (t ++ with ∷ []) with (subst (λ (j : ℕ). driver_of j (t ++ with ∷ []) ≡ Some with) (sym number) (found_end t with none))
    next) in
    let whole : all ≡ carried_driver day d =
    ap (λ (j : ℕ). with_entries j d.entries (with_files j d.downloads own)) begins ∙ carried_is day d r is in
    subst at_last (ap (λ (rest : State). t ++ rest) (ap (λ (x : Driver). x ∷ []) whole ∙ sym (carried_one day d stays))) last

-- ---- what is listed of a driver who is there

module _ (n : ℕ) (s : State) (d : Driver) (is : driver_of n s ≡ Some d) where
  pub known_files : (files : List ListedFile) → files_reading n s ≡ Ok files → files ≡ listed_from 1 d.downloads
  known_files files read =
      let same : Ok files ≡ Ok (listed_from 1 d.downloads) = sym read
      ∙ ap (reading_of (λ (x : Driver). Ok (listed_from 1 x.downloads))) is in cc

  pub known_entries : (entries : List Entry) → entries_reading n s ≡ Ok entries → entries ≡ numbered_from 1 d.entries
  known_entries entries read =
      let same : Ok entries ≡ Ok (numbered_from 1 d.entries) = sym read
      ∙ ap (reading_of (λ (x : Driver). Ok (numbered_from 1 x.entries))) is in cc

  pub known_key : (key : List ℕ) → key_reading n s ≡ Ok key → key ≡ d.key
  known_key key read = let same : Ok key ≡ Ok d.key = sym read ∙ ap (reading_of (λ (x : Driver). Ok x.key)) is in cc
