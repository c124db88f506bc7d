-- A driver's entries, which are entered in batches.
use Rattle.std.proofs.Common.{◌≡◌, ◌∙◌, ℕ, suc, ◌+◌, ◌-◌, ◌≤◌, ◌&&◌, nat_lt, not, Bool, true, false, cond, if◌then◌else◌, List, [], ◌∷◌}
use Rattle.std.proofs.Common.{◌++◌, Some, append-nil, append_assoc, length, refl, sym, ap, arith, subst}
use Rattle.std.specs.Prelude.{slice_get}
use Rattle.std.proofs.lemmas.List.{map-append}
use Rattle.std.proofs.lemmas.List.Elements.{All-push}
use Rattle.tacho_state.specs.Batch.{AreHoursInOrder, Hours, IsBatch, IsEntryLine, batch_of, entry_of}
use Rattle.tacho_state.specs.State.{Driver, Entry, State, driver_of, put, with_batch}
use Rattle.tacho_state.specs.Steps.{numbered_from}
use Rattle.tacho_state.specs.declared.entry.Entry.{Entry as Listed}
use Rattle.tacho_state.proofs.PutLemmas.{found_number, put_found, put_same, put_twice}
use Rattle.tacho_carry.specs.Carried.{carried_entries}
use Rattle.tacho_carry.specs.Carrying.{with_entries}

-- hours that begin where the last of a batch ends, or later, are in order after it
pub one_more_in_order : (batch : List Hours) (before line : Hours) → slice_get batch (length batch - 1) ≡ Some before
    → before.past ≤ line.start
    → AreHoursInOrder batch → AreHoursInOrder (batch ++ line ∷ [])
one_more_in_order [] before line e l h = tt
one_more_in_order (x ∷ []) before line e l h =
    let same : x ≡ before = cc in (subst (λ (y : Hours). y.past ≤ line.start) (sym same) l, tt)
one_more_in_order (x ∷ y ∷ batch) before line e l h = (h.0, one_more_in_order (y ∷ batch) before line last l h.1) where
  last : slice_get (y ∷ batch) (length (y ∷ batch) - 1) ≡ Some before
  last =
      let first : suc (suc (length batch)) - 1 ≡ suc (length batch) = omega arith in
      let second : suc (length batch) - 1 ≡ length batch = omega arith in
      ap (slice_get (y ∷ batch)) second ∙ sym (ap (slice_get (x ∷ y ∷ batch)) first) ∙ e

-- ---- entries as they are listed

-- the entry is carried
abbrev pub is_listed_carried : ℕ → Listed → Bool
is_listed_carried start e = not e.withdrawn && nat_lt start e.line.past

-- those of the listed entries that are carried
abbrev pub listed_carried : ℕ → List Listed → List Entry
listed_carried start [] = []
listed_carried start (e ∷ es) = if is_listed_carried start e then entry_of e.line ∷ listed_carried start es else listed_carried start es

-- they are the driver's entries that are carried
pub carried_of_listed : (start i : ℕ) (es : List Entry) → listed_carried start (numbered_from i es) ≡ carried_entries start es
carried_of_listed start i [] = refl
carried_of_listed start i (e ∷ es) = go e.withdrawn refl (nat_lt start e.past) (carried_of_listed start (i + 1) es) where
  go : (w : Bool) → e.withdrawn ≡ w → (late : Bool) → listed_carried start (numbered_from (i + 1) es) ≡ carried_entries start es
      → cond (not w && late) (record {
        start = e.start;
        past = e.past;
        activity = e.activity;
        author = e.author;
        note = e.note;
        withdrawn =
            false;
      } ∷ listed_carried start (numbered_from (i + 1) es)) (listed_carried start (numbered_from (i + 1) es))
      ≡ cond (not w && late) (e ∷ carried_entries start es) (carried_entries start es)
  go true is late more = more
  go false is true more =
      ap (λ (b : Bool). record { start = e.start; past = e.past; activity = e.activity; author = e.author; note = e.note; withdrawn = b }
      ∷ listed_carried start (numbered_from (i + 1) es)) (sym is)
      ∙ ap (λ (rest : List Entry). e ∷ rest) more
  go false is false more = more

-- ---- the driver so far

-- the driver who is put in the state has, with the batch and those of the entries that are left, all that are carried
pub record IsEnteredUpTo (n start : ℕ) (left : List Listed) (batch : List Hours) (d x : Driver) (t : State) (at : State
    → Type 0) : Type 0 where
  pub now : Driver
  pub number : now.number ≡ n
  pub here : at (put now t)
  pub rest : with_batch (batch_of batch ++ listed_carried start left) now ≡ with_entries start d.entries x

module _ (n start : ℕ) (d x : Driver) (t : State) (is : driver_of n t ≡ Some x) (at : State → Type 0) where
  -- before the first entry
  pub none_entered : (left : List Listed) → left ≡ numbered_from 1 d.entries → at t → IsEnteredUpTo n start left [] d x t at
  none_entered left listed here =
      let number = found_number n t x is in
      let own : driver_of x.number t ≡ Some x = subst (λ (j : ℕ). driver_of j t ≡ Some x) (sym number) is in
      record {
        now = x;
        number = number;
        here = subst at (sym (put_same x t own)) here;
        rest = ap (λ (es : List Entry). with_batch es x) (ap (listed_carried start) listed ∙ carried_of_listed start 1 d.entries);
      }

  -- the driver is found so far
  pub found_so_far : (left : List Listed) (batch : List Hours) (it : IsEnteredUpTo n start left batch d x t at)
      → driver_of n (put it.now t) ≡ Some it.now
  found_so_far left batch it =
      subst (λ (j : ℕ). driver_of j t ≡ Some x → driver_of j (put it.now t) ≡ Some it.now) it.number (put_found it.now x t) is

  -- an entry that isn't carried
  pub entry_passed : (e : Listed) (left : List Listed) (batch : List Hours) → is_listed_carried start e ≡ false
      → IsEnteredUpTo n start (e ∷ left) batch d x t at → IsEnteredUpTo n start left batch d x t at
  entry_passed e left batch early it = record {
    now = it.now;
    number = it.number;
    here = it.here;
    rest = ap (λ b. with_batch (batch_of batch ++ cond b (entry_of e.line ∷ listed_carried start left) (listed_carried start left)) it.now)
        (sym early) ∙ it.rest;
  }

  -- an entry that is carried comes into the batch
  pub entry_taken : (e : Listed) (left : List Listed) (batch : List Hours) → is_listed_carried start e ≡ true
      → IsEnteredUpTo n start (e ∷ left) batch d x t at → IsEnteredUpTo n start left (batch ++ e.line ∷ []) d x t at
  entry_taken e left batch late it = record {
    now = it.now;
    number = it.number;
    here = it.here;
    rest = ap (λ (es : List Entry). with_batch es it.now)
        (ap (λ (es : List Entry). es ++ listed_carried start left) (map-append entry_of batch (e.line ∷ []))
        ∙ append_assoc (batch_of batch) (entry_of e.line ∷ []) (listed_carried start left))
        ∙ ap (λ b. with_batch (batch_of batch ++ cond b (entry_of e.line ∷ listed_carried start left) (listed_carried start left)) it.now)
        (sym late)
        ∙ it.rest;
  }

  -- the batch is entered
  pub batch_entered : (after : State → Type 0) (left : List Listed) (batch : List Hours) (it : IsEnteredUpTo n start left batch d x t at)
      → after (put (with_batch (batch_of batch) it.now) (put it.now t)) → IsEnteredUpTo n start left [] d x t after
  batch_entered after left batch it here =
      let next = with_batch (batch_of batch) it.now in
      record {
        now = next;
        number = it.number;
        here = subst after (put_twice next it.now t refl) here;
        rest = ap (λ (es : List Entry). record it.now { entries = es })
            (append_assoc it.now.entries (batch_of batch) (listed_carried start left)) ∙ it.rest;
      }

  -- after the last entry
  pub all_entered : IsEnteredUpTo n start [] [] d x t at → at (put (with_entries start d.entries x) t)
  all_entered it =
      subst (λ (y : Driver). at (put y t)) (ap (λ (es : List Entry). record it.now { entries = es }) (sym (append-nil it.now.entries))
      ∙ it.rest) it.here

-- ---- batches

-- no lines are a batch
pub no_batch : IsBatch []
no_batch = record { each = λ k line less. absurd (omega (arith, less)); order = tt }

-- a line that follows a batch makes one with it
pub longer_batch : (batch : List Hours) (line : Hours) → IsBatch batch → IsEntryLine line
    → (AreHoursInOrder batch → AreHoursInOrder (batch ++ line ∷ []))
    → IsBatch (batch ++ line ∷ [])
longer_batch batch line is fits follows =
    record { each = All-push IsEntryLine batch line is.each fits; order = follows is.order }

-- a list without elements is empty
pub none_left : {A : Type 0} {n : ℕ} (xs : List A) → n ≡ length xs → n ≡ 0 → xs ≡ []
none_left [] same none = refl
none_left (x ∷ xs) same none = absurd (omega (arith, same, none))
