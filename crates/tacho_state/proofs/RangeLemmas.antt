-- A withdrawal of a range: its numbers one after the other, or all at once.
use Rattle.std.proofs.Common.{◌≡◌, ◌≢◌, ℕ, zero, suc, ◌+◌, ◌-◌, ◌<◌, ◌≤◌, ◌==◌, nat_le, ◌&&◌, Bool, true, false, cond, List, [], ◌∷◌, Option, Some, None, Result, Ok, Err, refl, sym, ap, ◌∙◌, subst, arith}
use Rattle.std.proofs.lemmas.Bool.Decides.{nat_tests}
use Rattle.tacho_state.specs.declared.fault.StoreFault.{StoreFault}
use Rattle.tacho_state.specs.declared.fault.StoreFault.TheVariants.{UnknownDriver, AlreadyWithdrawn}
use Rattle.tacho_state.specs.State.{Driver, Entry, State, driver_of, entry_from, marked_from, marked_between, put, with_marked, with_marked_between}
use Rattle.tacho_state.specs.Steps.{Turn, and_then, own_turn, turn_of, withdrawn_by, withdraw_own, withdraw_from, withdraw_step, withdraw_range_step}
use Rattle.tacho_state.proofs.PutLemmas.{found_number, put_found, put_twice}

-- the entry with this number isn't withdrawn
pub record IsKept (d : Driver) (number : ℕ) : Type 0 where
  pub entry : Entry
  pub there : entry_from 1 number d.entries ≡ Some entry
  pub kept : entry.withdrawn ≡ false

-- an entry that isn't withdrawn is withdrawn
pub kept_done : (d : Driver) (number : ℕ) → IsKept d number → withdraw_own number d ≡ Ok (tt, with_marked number d)
kept_done d number h = rw (h.there, h.kept) refl

-- the driver of a result
abbrev driver_in : Driver → Result (Unit {0} × Driver) StoreFault → Driver
driver_in d (Ok done) = done.1
driver_in d (Err fault) = d

-- a result, of this type
abbrev is_result : Result (Unit {0} × Driver) StoreFault → Result (Unit {0} × Driver) StoreFault
is_result r = r

-- equal results have equal drivers
same_driver : (u v : Unit {0}) (x y : Driver) → is_result (Ok (u, x)) ≡ is_result (Ok (v, y)) → x ≡ y
same_driver u v x y e = ap (driver_in x) e

-- if one was withdrawn, it wasn't before
pub done_kept : (d after : Driver) (number : ℕ) (u : Unit {0}) → withdraw_own number d ≡ Ok (u, after) → IsKept d number × (after ≡ with_marked number d)
done_kept d after number u e = go (entry_from 1 number d.entries) refl e where
  go : (o : Option Entry) → entry_from 1 number d.entries ≡ o → withdrawn_by number d o ≡ Ok (u, after)
      → IsKept d number × (after ≡ with_marked number d)
  go None is f = cc
  go (Some x) is f = flag x.withdrawn refl f where
    flag : (w : Bool) → x.withdrawn ≡ w → cond {A = Result (Unit {0} × Driver) StoreFault} w (Err AlreadyWithdrawn) (Ok (tt, with_marked number d)) ≡ Ok (u, after)
        → IsKept d number × (after ≡ with_marked number d)
    flag true w f = cc
    flag false w f = (record { entry = x; there = is; kept = w }, sym (same_driver tt u (with_marked number d) after f))

-- ---- one after the other

-- the last withdrawal comes after those before it
pub one_more : (count first : ℕ) (d : Driver)
    → withdraw_from first (suc count) d ≡ and_then (withdraw_from first count d) (withdraw_own (first + count))
one_more zero first d = go (withdraw_own first d) refl where
  go : (r : Result (Unit {0} × Driver) StoreFault) → withdraw_own first d ≡ r
      → and_then (withdraw_own first d) (withdraw_from (first + 1) zero) ≡ withdraw_own (first + 0) d
  go (Ok (u, x)) e = ap (λ r. and_then r (withdraw_from (first + 1) zero)) e ∙ sym (ap (λ k. withdraw_own k d) (omega arith) ∙ e)
  go (Err f) e = ap (λ r. and_then r (withdraw_from (first + 1) zero)) e ∙ sym (ap (λ k. withdraw_own k d) (omega arith) ∙ e)
one_more (suc count) first d = go (withdraw_own first d) (one_more count (first + 1)) where
  go : (r : Result (Unit {0} × Driver) StoreFault)
      → ((x : Driver) → withdraw_from (first + 1) (suc count) x ≡ and_then (withdraw_from (first + 1) count x) (withdraw_own (first + 1 + count)))
      → and_then r (withdraw_from (first + 1) (suc count))
      ≡ and_then (and_then r (withdraw_from (first + 1) count)) (withdraw_own (first + suc count))
  go (Err f) more = refl
  go (Ok (u, x)) more =
      let same : first + 1 + count ≡ first + suc count = omega arith in
      more x ∙ ap (λ k. and_then (withdraw_from (first + 1) count x) (withdraw_own k)) same

-- what is refused stays refused, if more are to be withdrawn
pub refused_still : (more count first : ℕ) (d : Driver) (fault : StoreFault) → withdraw_from first count d ≡ Err fault
    → withdraw_from first (count + more) d ≡ Err fault
refused_still zero count first d fault e =
    let same : count + 0 ≡ count = omega arith in ap (λ k. withdraw_from first k d) same ∙ e
refused_still (suc more) count first d fault e =
    let same : count + suc more ≡ suc (count + more) = omega arith in
    ap (λ k. withdraw_from first k d) same ∙ one_more (count + more) first d
    ∙ ap (λ r. and_then r (withdraw_own (first + (count + more)))) (refused_still more count first d fault e)

-- the driver keeps their number
pub number_kept : (count first : ℕ) (d after : Driver) → withdraw_from first count d ≡ Ok (tt, after) → after.number ≡ d.number
number_kept zero first d after e = ap (λ (x : Driver). x.number) (sym (same_driver tt tt d after e))
number_kept (suc count) first d after e = go (withdraw_own first d) refl e (λ x. number_kept count (first + 1) x after) where
  go : (r : Result (Unit {0} × Driver) StoreFault) → withdraw_own first d ≡ r → and_then r (withdraw_from (first + 1) count) ≡ Ok (tt, after)
      → ((x : Driver) → withdraw_from (first + 1) count x ≡ Ok (tt, after) → after.number ≡ x.number) → after.number ≡ d.number
  go (Err f) is e more = cc
  go (Ok (u, x)) is e more = more x e ∙ ap (λ (y : Driver). y.number) (done_kept d x first u is).1

-- ---- how many entries aren't withdrawn

-- one more or none
abbrev count_one : Bool → ℕ → ℕ
count_one true k = k
count_one false k = suc k

-- how many entries aren't withdrawn
abbrev kept_count : List Entry → ℕ
kept_count [] = zero
kept_count (e ∷ es) = count_one e.withdrawn (kept_count es)

-- a withdrawal makes them fewer
one_fewer : (i number : ℕ) (es : List Entry) (e : Entry) → entry_from i number es ≡ Some e → e.withdrawn ≡ false
    → kept_count es ≡ suc (kept_count (marked_from i number es))
one_fewer i number [] e f kept = cc
one_fewer i number (x ∷ es) e f kept = go (i == number) f (one_fewer (i + 1) number es e) where
  flag : (w : Bool) → kept_count es ≡ suc (kept_count (marked_from (i + 1) number es))
      → count_one w (kept_count es) ≡ suc (count_one w (kept_count (marked_from (i + 1) number es)))
  flag true more = more
  flag false more = ap suc more

  go : (b : Bool) → cond b (Some x) (entry_from (i + 1) number es) ≡ Some e
      → (entry_from (i + 1) number es ≡ Some e → e.withdrawn ≡ false → kept_count es ≡ suc (kept_count (marked_from (i + 1) number es)))
      → count_one x.withdrawn (kept_count es) ≡ suc (kept_count (cond b (record x { withdrawn = true } ∷ es) (x ∷ marked_from (i + 1) number es)))
  go true f more =
      let same : x ≡ e = cc in
      ap (λ w. count_one w (kept_count es)) (ap (λ (y : Entry). y.withdrawn) same ∙ kept)
  go false f more = flag x.withdrawn (more f kept)

-- after a withdrawal of so many entries, there are so many fewer
fewer : (count first : ℕ) (d after : Driver) → withdraw_from first count d ≡ Ok (tt, after)
    → kept_count d.entries ≡ count + kept_count after.entries
fewer zero first d after e =
    let same : kept_count d.entries ≡ kept_count after.entries =
    ap (λ (x : Driver). kept_count x.entries) (same_driver tt tt d after e) in
    omega (arith, same)
fewer (suc count) first d after e = go (withdraw_own first d) refl e (λ x. fewer count (first + 1) x after) where
  go : (r : Result (Unit {0} × Driver) StoreFault) → withdraw_own first d ≡ r → and_then r (withdraw_from (first + 1) count) ≡ Ok (tt, after)
      → ((x : Driver) → withdraw_from (first + 1) count x ≡ Ok (tt, after) → kept_count x.entries ≡ count + kept_count after.entries)
      → kept_count d.entries ≡ suc count + kept_count after.entries
  go (Err f) is e more = cc
  go (Ok (u, x)) is e more =
      let one = done_kept d x first u is in
      let step = one_fewer 1 first d.entries one.0.entry one.0.there one.0.kept in
      let same : kept_count x.entries ≡ kept_count (marked_from 1 first d.entries) = ap (λ (y : Driver). kept_count y.entries) one.1 in
      let rest = more x e in
      omega (arith, step, same, rest)

-- so it changes the driver
pub range_changes : (count first : ℕ) (d after : Driver) → withdraw_from first (suc count) d ≡ Ok (tt, after) → after ≢ d
range_changes count first d after e same =
    let less = fewer (suc count) first d after e in
    let equal : kept_count after.entries ≡ kept_count d.entries = ap (λ (x : Driver). kept_count x.entries) same in
    omega (arith, less, equal)

-- ---- all at once

-- a withdrawal leaves other entries as they were
other_entry : (i number other : ℕ) (es : List Entry) → number ≢ other → entry_from i other (marked_from i number es) ≡ entry_from i other es
other_entry i number other [] d = refl
other_entry i number other (x ∷ es) d = go (i == number) refl (other_entry (i + 1) number other es d) where
  go : (b : Bool) → (i == number) ≡ b → entry_from (i + 1) other (marked_from (i + 1) number es) ≡ entry_from (i + 1) other es
      → entry_from i other (cond b (record x { withdrawn = true } ∷ es) (x ∷ marked_from (i + 1) number es))
      ≡ cond (i == other) (Some x) (entry_from (i + 1) other es)
  go true o more =
      let not_here : (i == other) ≡ false = not_other (i == other) refl in
      ap (λ b. cond b (Some (record x { withdrawn = true })) (entry_from (i + 1) other es)) not_here
      ∙ sym (ap (λ b. cond b (Some x) (entry_from (i + 1) other es)) not_here) where
        not_other : (b : Bool) → (i == other) ≡ b → b ≡ false
        not_other true e = let same : number ≡ other = grind (arith, nat_tests) in absurd (d same)
        not_other false e = refl
  go false o more = ap (λ (r : Option Entry). cond (i == other) (Some x) r) more

-- so they can still be withdrawn, or not
pub still_kept : (d : Driver) (number other : ℕ) → number ≢ other → IsKept d other → IsKept (with_marked number d) other
still_kept d number other differ h =
    record { entry = h.entry; there = other_entry 1 number other d.entries differ ∙ h.there; kept = h.kept }

-- likewise, one that is refused is still refused
pub still_refused : (d : Driver) (number other : ℕ) (fault : StoreFault) → number ≢ other → withdraw_own other d ≡ Err fault
    → withdraw_own other (with_marked number d) ≡ Err fault
still_refused d number other fault differ e =
    refused_by (entry_from 1 other d.entries) refl e where
      refused_by : (o : Option Entry) → entry_from 1 other d.entries ≡ o → withdrawn_by other d o ≡ Err fault
          → withdraw_own other (with_marked number d) ≡ Err fault
      refused_by None is f = ap (withdrawn_by other (with_marked number d)) (other_entry 1 number other d.entries differ ∙ is) ∙ cc
      refused_by (Some x) is f = ap (withdrawn_by other (with_marked number d)) (other_entry 1 number other d.entries differ ∙ is) ∙ flag x.withdrawn f where
        flag : (w : Bool) → cond {A = Result (Unit {0} × Driver) StoreFault} w (Err AlreadyWithdrawn) (Ok (tt, with_marked other d)) ≡ Err fault
            → cond {A = Result (Unit {0} × Driver) StoreFault} w (Err AlreadyWithdrawn) (Ok (tt, with_marked other (with_marked number d))) ≡ Err fault
        flag true f = f
        flag false f = cc

-- the entries of an empty range
marked_none : (i first last : ℕ) (es : List Entry) → last < first → marked_between i first last es ≡ es
marked_none i first last [] l = refl
marked_none i first last (x ∷ es) l =
    let out : (nat_le first i && nat_le i last) ≡ false = outside (nat_le first i) refl (nat_le i last) refl in
    ap (λ b. cond b (record x { withdrawn = true }) x ∷ marked_between (i + 1) first last es) out
    ∙ ap (λ (r : List Entry). x ∷ r) (marked_none (i + 1) first last es l) where
      outside : (a : Bool) → nat_le first i ≡ a → (b : Bool) → nat_le i last ≡ b → (a && b) ≡ false
      outside false e b f = refl
      outside true e false f = refl
      outside true e true f = let wrong : ⊥ = grind (arith, nat_tests) in absurd wrong

-- the least number of a range, and then the others, which come after it
marked_next : (i first last : ℕ) (es : List Entry) → first ≤ last
    → marked_between i (first + 1) last (marked_from i first es) ≡ marked_between i first last es
marked_next i first last [] l = refl
marked_next i first last (x ∷ es) l = go (i == first) refl (marked_next (i + 1) first last es l) where
  -- past the least number, the ranges agree
  later : (j : ℕ) (rest : List Entry) → first < j → marked_between j (first + 1) last rest ≡ marked_between j first last rest
  later j [] g = refl
  later j (y ∷ rest) g =
      let same : nat_le (first + 1) j ≡ nat_le first j =
      (let a : nat_le (first + 1) j ≡ true = grind (arith, nat_tests) in
      let b : nat_le first j ≡ true = grind (arith, nat_tests) in a ∙ sym b) in
      ap (λ c. cond (c && nat_le j last) (record y { withdrawn = true }) y ∷ marked_between (j + 1) (first + 1) last rest) same
      ∙ ap (λ (r : List Entry). cond (nat_le first j && nat_le j last) (record y { withdrawn = true }) y ∷ r) (later (j + 1) rest (omega (arith, g)))

  go : (b : Bool) → (i == first) ≡ b → marked_between (i + 1) (first + 1) last (marked_from (i + 1) first es) ≡ marked_between (i + 1) first last es
      → marked_between i (first + 1) last (cond b (record x { withdrawn = true } ∷ es) (x ∷ marked_from (i + 1) first es))
      ≡ cond (nat_le first i && nat_le i last) (record x { withdrawn = true }) x ∷ marked_between (i + 1) first last es
  go true o more =
      let same : i ≡ first = grind (arith, nat_tests) in
      let from_here : nat_le first i ≡ true = grind (arith, nat_tests) in
      let to_here : nat_le i last ≡ true = grind (arith, nat_tests) in
      let not_yet : nat_le (first + 1) i ≡ false = not_after (nat_le (first + 1) i) refl same in
      ap (λ c. cond (c && nat_le i last) (record x { withdrawn = true }) (record x { withdrawn = true }) ∷ marked_between (i + 1) (first + 1) last es) not_yet
      ∙ ap (λ (r : List Entry). record x { withdrawn = true } ∷ r) (later (i + 1) es (omega (arith, same)))
      ∙ sym (rw (from_here, to_here) refl) where
        not_after : (b : Bool) → nat_le (first + 1) i ≡ b → i ≡ first → b ≡ false
        not_after true e s = let wrong : ⊥ = grind (arith, nat_tests) in absurd wrong
        not_after false e s = refl
  go false o more =
      ap (λ c. cond (c && nat_le i last) (record x { withdrawn = true }) x ∷ marked_between (i + 1) (first + 1) last (marked_from (i + 1) first es)) same
      ∙ ap (λ (r : List Entry). cond (nat_le first i && nat_le i last) (record x { withdrawn = true }) x ∷ r) more where
        both : (a b : Bool) → nat_le (first + 1) i ≡ a → nat_le first i ≡ b → a ≡ b
        both true true e f = refl
        both false false e f = refl
        both true false e f = let wrong : ⊥ = grind (arith, nat_tests) in absurd wrong
        both false true e f = let is : (i == first) ≡ true = grind (arith, nat_tests) in cc

        same : nat_le (first + 1) i ≡ nat_le first i
        same = both (nat_le (first + 1) i) (nat_le first i) refl refl

-- if no entry of a range is withdrawn, all are
pub all_done : (count first : ℕ) (d : Driver) → ((i : ℕ) → first ≤ i → i ≤ first + count → IsKept d i)
    → withdraw_from first (suc count) d ≡ Ok (tt, with_marked_between first (first + count) d)
all_done zero first d h =
    let one : marked_from 1 first d.entries ≡ marked_between 1 first (first + 0) d.entries =
    sym (marked_none 1 (first + 1) (first + 0) (marked_from 1 first d.entries) (omega arith))
    ∙ marked_next 1 first (first + 0) d.entries (omega arith) in
    ap (λ r. and_then r (withdraw_from (first + 1) zero)) (kept_done d first (h first (omega arith) (omega arith)))
    ∙ ap (λ (es : List Entry). Ok (tt, record d { entries = es })) one
all_done (suc count) first d h =
    ap (λ r. and_then r (withdraw_from (first + 1) (suc count))) (kept_done d first (h first (omega arith) (omega arith)))
    ∙ all_done count (first + 1) (with_marked first d)
    (λ i low high. still_kept d first i (λ e. omega (arith, e, low)) (h i (omega (arith, low)) (omega (arith, high))))
    ∙ ap (λ (last : ℕ). Ok (tt, record d { entries = marked_between 1 (first + 1) last (marked_from 1 first d.entries) })) (omega arith)
    ∙ ap (λ (es : List Entry). Ok (tt, record d { entries = es })) (marked_next 1 first (first + suc count) d.entries (omega arith))

-- the least number that is refused refuses the range
pub refused_at : (count first : ℕ) (d : Driver) (fault : StoreFault) → ((i : ℕ) → first ≤ i → i < first + count → IsKept d i)
    → withdraw_own (first + count) d ≡ Err fault → withdraw_from first (suc count) d ≡ Err fault
refused_at zero first d fault h e =
    ap (λ r. and_then r (withdraw_from (first + 1) zero)) (ap (λ k. withdraw_own k d) (omega arith) ∙ e)
refused_at (suc count) first d fault h e =
    ap (λ r. and_then r (withdraw_from (first + 1) (suc count))) (kept_done d first (h first (omega arith) (omega arith)))
    ∙ refused_at count (first + 1) (with_marked first d) fault
    (λ i low high. still_kept d first i (λ f. omega (arith, f, low)) (h i (omega (arith, low)) (omega (arith, high))))
    (ap (λ k. withdraw_own k (with_marked first d)) (omega arith)
    ∙ still_refused d first (first + suc count) fault (λ f. omega (arith, f)) e)

-- ---- steps

-- a withdrawal that is done, of a driver who is there
step_kept : (n number : ℕ) (s : State) (d : Driver) → driver_of n s ≡ Some d → (withdraw_step n number s).answer ≡ Ok tt → IsKept d number
step_kept n number s d is ok = go (withdraw_own number d) refl (sym (ap (λ o. (own_turn (withdraw_own number) s o).answer) is) ∙ ok) where
  go : (r : Result (Unit {0} × Driver) StoreFault) → withdraw_own number d ≡ r → (turn_of s r).answer ≡ Ok tt → IsKept d number
  go (Err f) e g = cc
  go (Ok (u, x)) e g = (done_kept d x number u e).0

-- likewise for one that is refused
step_refused : (n number : ℕ) (s : State) (d : Driver) (fault : StoreFault) → driver_of n s ≡ Some d
    → (withdraw_step n number s).answer ≡ Err fault → withdraw_own number d ≡ Err fault
step_refused n number s d fault is refused = go (withdraw_own number d) refl (sym (ap (λ o. (own_turn (withdraw_own number) s o).answer) is) ∙ refused) where
  go : (r : Result (Unit {0} × Driver) StoreFault) → withdraw_own number d ≡ r → (turn_of s r).answer ≡ Err fault → withdraw_own number d ≡ Err fault
  go (Err f) e g = e ∙ cc
  go (Ok (u, x)) e g = cc

-- the range of one number
pub range_one : (n number : ℕ) (s : State) → withdraw_range_step n number number s ≡ withdraw_step n number s
range_one n number s =
    let one : number + 1 - number ≡ 1 = omega arith in
    ap (λ k. own_turn (withdraw_from number k) s (driver_of n s)) one ∙ go (driver_of n s) where
      go : (o : Option Driver) → own_turn (withdraw_from number 1) s o ≡ own_turn (withdraw_own number) s o
      go None = refl
      go (Some d) = ap (turn_of s) (same (withdraw_own number d)) where
        same : (r : Result (Unit {0} × Driver) StoreFault) → and_then r (withdraw_from (number + 1) zero) ≡ r
        same (Err f) = refl
        same (Ok (u, x)) = refl

-- the least number that is refused says why
pub range_refused : (n first number last : ℕ) (s : State) (fault : StoreFault) → first ≤ number → number ≤ last
    → ((i : ℕ) → first ≤ i → i < number → (withdraw_step n i s).answer ≡ Ok tt) → (withdraw_step n number s).answer ≡ Err fault
    → withdraw_range_step n first last s ≡ record { answer = Err fault; after = s }
range_refused n first number last s fault low high before refused = go (driver_of n s) refl where
  there : (d : Driver) → driver_of n s ≡ Some d → withdraw_from first (last + 1 - first) d ≡ Err fault
  there d is =
      let all : last + 1 - first ≡ suc (number - first) + (last - number) = omega (arith, low, high) in
      let past : first + (number - first) ≡ number = omega (arith, low) in
      ap (λ k. withdraw_from first k d) all
      ∙ refused_still (last - number) (suc (number - first)) first d fault
      (refused_at (number - first) first d fault (λ i l h. step_kept n i s d is (before i l (omega (arith, low, h))))
      (ap (λ k. withdraw_own k d) past ∙ step_refused n number s d fault is refused))

  go : (o : Option Driver) → driver_of n s ≡ o → withdraw_range_step n first last s ≡ record { answer = Err fault; after = s }
  go None is =
      let same : Err UnknownDriver ≡ Err fault = sym (ap (λ o. (own_turn (withdraw_own number) s o).answer) is) ∙ refused in
      ap (own_turn (withdraw_from first (last + 1 - first)) s) is ∙ ap (λ (r : Result (Unit {0}) StoreFault). record { answer = r; after = s }) same
  go (Some d) is = ap (own_turn (withdraw_from first (last + 1 - first)) s) is ∙ ap (turn_of s) (there d is)

-- if each number can be withdrawn, all are
pub range_done : (n first last : ℕ) (s : State) (d : Driver) → driver_of n s ≡ Some d
    → ((i : ℕ) → first ≤ i → i ≤ last → (withdraw_step n i s).answer ≡ Ok tt) → first ≤ last
    → withdraw_range_step n first last s ≡ record { answer = Ok tt; after = put (with_marked_between first last d) s }
range_done n first last s d is each low =
    let count : last + 1 - first ≡ suc (last - first) = omega (arith, low) in
    let past : first + (last - first) ≡ last = omega (arith, low) in
    ap (own_turn (withdraw_from first (last + 1 - first)) s) is
    ∙ ap (turn_of s) (ap (λ k. withdraw_from first k d) count
    ∙ all_done (last - first) first d (λ i l h. step_kept n i s d is (each i l (omega (arith, low, h))))
    ∙ ap (λ (k : ℕ). Ok (tt, with_marked_between first k d)) past)

-- a range that is refused is refused with more numbers
pub range_still_refused : (n first number last : ℕ) (s : State) (fault : StoreFault) → first ≤ number → number ≤ last
    → (withdraw_range_step n first number s).answer ≡ Err fault → (withdraw_range_step n first last s).answer ≡ Err fault
range_still_refused n first number last s fault low high refused = go (driver_of n s) refl where
  go : (o : Option Driver) → driver_of n s ≡ o → (withdraw_range_step n first last s).answer ≡ Err fault
  go None is =
      ap (λ o. (own_turn (withdraw_from first (last + 1 - first)) s o).answer) is
      ∙ sym (ap (λ o. (own_turn (withdraw_from first (number + 1 - first)) s o).answer) is) ∙ refused
  go (Some d) is =
      let count : last + 1 - first ≡ number + 1 - first + (last - number) = omega (arith, low, high) in
      ap (λ o. (own_turn (withdraw_from first (last + 1 - first)) s o).answer) is
      ∙ ap (λ r. (turn_of s r).answer) (ap (λ k. withdraw_from first k d) count
      ∙ refused_still (last - number) (number + 1 - first) first d fault
      (was (withdraw_from first (number + 1 - first) d) refl
      (sym (ap (λ o. (own_turn (withdraw_from first (number + 1 - first)) s o).answer) is) ∙ refused))) where
        was : (r : Result (Unit {0} × Driver) StoreFault) → withdraw_from first (number + 1 - first) d ≡ r → (turn_of s r).answer ≡ Err fault
            → withdraw_from first (number + 1 - first) d ≡ Err fault
        was (Err f) e g = e ∙ cc
        was (Ok (u, x)) e g = cc

-- a driver who is there, and the driver after a withdrawal of a range that was done
record IsDone (n first count : ℕ) (s : State) : Type 0 where
  pub before : Driver
  pub after : Driver
  pub there : driver_of n s ≡ Some before
  pub done : withdraw_from first count before ≡ Ok (tt, after)

-- there are such drivers
is_done : (n first last : ℕ) (s : State) → (withdraw_range_step n first last s).answer ≡ Ok tt → IsDone n first (last + 1 - first) s
is_done n first last s ok = go (driver_of n s) refl where
  go : (o : Option Driver) → driver_of n s ≡ o → IsDone n first (last + 1 - first) s
  go None is = let wrong = sym (ap (λ o. (own_turn (withdraw_from first (last + 1 - first)) s o).answer) is) ∙ ok in cc
  go (Some d) is = inside (withdraw_from first (last + 1 - first) d) refl
      (sym (ap (λ o. (own_turn (withdraw_from first (last + 1 - first)) s o).answer) is) ∙ ok) where
        inside : (r : Result (Unit {0} × Driver) StoreFault) → withdraw_from first (last + 1 - first) d ≡ r → (turn_of s r).answer ≡ Ok tt
            → IsDone n first (last + 1 - first) s
        inside (Err f) e g = cc
        inside (Ok (u, x)) e g = record { before = d; after = x; there = is; done = e }

-- the state after it
after_done : (n first last : ℕ) (s : State) (h : IsDone n first (last + 1 - first) s) → (withdraw_range_step n first last s).after ≡ put h.after s
after_done n first last s h =
    ap (λ o. (own_turn (withdraw_from first (last + 1 - first)) s o).after) h.there ∙ ap (λ r. (turn_of s r).after) h.done

-- the driver after it is found by the number
found_done : (n first count : ℕ) (s : State) (h : IsDone n first count s) → (h.after.number ≡ n) × (driver_of n (put h.after s) ≡ Some h.after)
found_done n first count s h =
    let number = number_kept count first h.before h.after h.done ∙ found_number n s h.before h.there in (
      number,
      subst (λ (k : ℕ). driver_of k s ≡ Some h.before → driver_of k (put h.after s) ≡ Some h.after) number (put_found h.after h.before s) h.there,
    )

-- if it changes nothing of a driver, it is another driver's
pub range_of_another : (n first last : ℕ) (s : State) → first ≤ last → (withdraw_range_step n first last s).answer ≡ Ok tt
    → (j : ℕ) → driver_of j (withdraw_range_step n first last s).after ≡ driver_of j s → j ≢ n
range_of_another n first last s low ok j same e =
    let h = is_done n first last s ok in
    let still : driver_of n (put h.after s) ≡ driver_of n s =
    subst (λ (k : ℕ). driver_of k (put h.after s) ≡ driver_of k s) e (ap (driver_of j) (sym (after_done n first last s h)) ∙ same) in
    let count : suc (last - first) ≡ last + 1 - first = omega (arith, low) in
    let both : Some h.after ≡ Some h.before = sym (found_done n first (last + 1 - first) s h).1 ∙ still ∙ h.there in
    range_changes (last - first) first h.before h.after (ap (λ k. withdraw_from first k h.before) count ∙ h.done) (cc)

-- a range, and the number after it
module _ (n first number : ℕ) (s : State) (low : first ≤ number) (ok : (withdraw_range_step n first number s).answer ≡ Ok tt) where
  -- the drivers before and after it
  h : IsDone n first (number + 1 - first) s
  h = is_done n first number s ok

  -- what the number's withdrawal answers
  own : Result (Unit {0} × Driver) StoreFault
  own = withdraw_own (number + 1) h.after

  -- the step of the number, after the range
  single : withdraw_step n (number + 1) (withdraw_range_step n first number s).after ≡ turn_of (put h.after s) own
  unfolding own
  single =
      ap (withdraw_step n (number + 1)) (after_done n first number s h)
      ∙ ap (own_turn (withdraw_own (number + 1)) (put h.after s)) (found_done n first (number + 1 - first) s h).1

  -- the step of the range with the number
  longer : withdraw_range_step n first (number + 1) s ≡ turn_of s own
  unfolding own
  longer =
      let count : number + 1 + 1 - first ≡ suc (number + 1 - first) = omega (arith, low) in
      let past : first + (number + 1 - first) ≡ number + 1 = omega (arith, low) in
      ap (own_turn (withdraw_from first (number + 1 + 1 - first)) s) h.there
      ∙ ap (turn_of s) (ap (λ k. withdraw_from first k h.before) count
      ∙ one_more (number + 1 - first) first h.before
      ∙ ap (λ r. and_then r (withdraw_own (first + (number + 1 - first)))) h.done
      ∙ ap (λ k. withdraw_own k h.after) past)

  -- both answer alike
  pub next_answer : (withdraw_step n (number + 1) (withdraw_range_step n first number s).after).answer
      ≡ (withdraw_range_step n first (number + 1) s).answer
  next_answer = ap (λ (t : Turn (Unit {0})). t.answer) single ∙ go own ∙ ap (λ (t : Turn (Unit {0})). t.answer) (sym longer) where
    go : (r : Result (Unit {0} × Driver) StoreFault) → (turn_of (put h.after s) r).answer ≡ (turn_of s r).answer
    go (Ok (u, x)) = refl
    go (Err f) = refl

  -- and leave the same state, if the number is withdrawn
  pub next_after : (withdraw_range_step n first (number + 1) s).answer ≡ Ok tt
      → (withdraw_step n (number + 1) (withdraw_range_step n first number s).after).after ≡ (withdraw_range_step n first (number + 1) s).after
  unfolding own
  next_after done =
      ap (λ (t : Turn (Unit {0})). t.after) single ∙ go own refl (ap (λ (t : Turn (Unit {0})). t.answer) (sym longer) ∙ done)
      ∙ ap (λ (t : Turn (Unit {0})). t.after) (sym longer) where
        go : (r : Result (Unit {0} × Driver) StoreFault) → own ≡ r → (turn_of s r).answer ≡ Ok tt → (turn_of (put h.after s) r).after ≡ (turn_of s r).after
        go (Ok (u, x)) e d = put_twice x h.after s (sym (ap (λ (y : Driver). y.number) (done_kept h.after x (number + 1) u e).1))
        go (Err f) e d = cc
