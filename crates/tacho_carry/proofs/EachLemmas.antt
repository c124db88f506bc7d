-- All drivers, who are carried one after the other.
use Rattle.std.proofs.Common.{◌≡◌, ◌∙◌, ℕ, zero, suc, ◌+◌, ◌<◌, Bool, true, false, cond, not, List, [], ◌∷◌, ◌++◌, Some, filter, get_or}
use Rattle.std.proofs.Common.{length, map, refl, sym, take, ap, arith, subst}
use Rattle.std.specs.List.{AllByRecursion}
use Rattle.std.specs.List.Sorted.{IsPermutation, IsSorted}
use Rattle.std.specs.Ordering.{is_lt, nat_cmp}
use Rattle.std.proofs.lemmas.List.{length-append, length-map, map-append}
use Rattle.std.proofs.lemmas.List.Elements.{filter-append}
use Rattle.tacho_state.specs.Content.{AreRead}
use Rattle.tacho_state.specs.Distinct.{AreDistinct}
use Rattle.tacho_state.specs.State.{Driver, State, driver_of}
use Rattle.tacho_state.specs.Summaries.{AreSummaries, Summary, summary_of, told_summary}
use Rattle.tacho_state.specs.declared.summary.DriverSummary.{DriverSummary}
use Rattle.tacho_state.proofs.DistinctLemmas.{found_not}
use Rattle.tacho_state.proofs.EqualLemmas.{eq_not, eq_self}
use Rattle.tacho_carry.specs.Carried.{carried, carried_driver, is_left_out}
use Rattle.tacho_carry.specs.Carrying.{AreCarried, IsAt, IsRead}
use Rattle.tacho_carry.specs.declared.archive.Carried.{Carried}
use Rattle.tacho_carry.proofs.CarriedLemmas.{carried_none, carried_one}
use Rattle.tacho_carry.proofs.ListLemmas.{all_ordered}
use Rattle.tacho_carry.proofs.OrderLemmas.{of_others, sorted_of}

-- ---- each driver of a state

-- a driver who is found by their number, and whose card files are read
pub record IsThere (s : State) (d : Driver) : Type 0 where
  pub found : driver_of d.number s ≡ Some d
  pub read : AreRead d.downloads

-- each is there
pub each_there : (s : State) → IsRead s → AllByRecursion (IsThere s) s
each_there s is = go s (λ n d e. e) is.distinct is.files where
  go : (rest : State) → ((n : ℕ) (d : Driver) → driver_of n rest ≡ Some d → driver_of n s ≡ Some d) → AreDistinct rest
      → AllByRecursion (λ (d : Driver). AreRead d.downloads) rest → AllByRecursion (IsThere s) rest
  go [] to distinct read = tt
  go (x ∷ rest) to distinct read = (
    record { found = to x.number x (ap (λ b. cond b (Some x) (driver_of x.number rest)) (eq_self x.number)); read = read.0 },
    go rest
        (λ n d e. to n d
        (ap (λ b. cond b (Some x) (driver_of n rest)) (eq_not x.number n (λ same. found_not x.number rest d (rw same e) distinct.0)) ∙ e))
        distinct.3 read.1,
  )

-- ---- one more driver

-- the driver at a place of a list, of whom this is listed
pub record IsNext (P : Driver → Type 0) (drivers : State) (i : ℕ) (x : DriverSummary) : Type 0 where
  pub driver : Driver
  pub more : take (i + 1) drivers ≡ take i drivers ++ driver ∷ []
  pub summary : told_summary x ≡ summary_of driver
  pub holds : P driver

pub next_driver : (P : Driver → Type 0) (drivers : State) (items : List DriverSummary) (i : ℕ) (x : DriverSummary)
    → AllByRecursion P drivers
    → map told_summary items ≡ map summary_of drivers → i < length items → x ≡ get_or items i x → IsNext P drivers i x
next_driver P drivers [] i x all same inside is = absurd (omega (arith, inside))
next_driver P [] (y ∷ items) i x all same inside is = absurd (let wrong = same in cc)
next_driver P (d ∷ drivers) (y ∷ items) zero x all same inside is =
    let first : told_summary y ≡ summary_of d = cc in
    let it : x ≡ y = is in
    record { driver = d; more = grind arith; summary = ap told_summary it ∙ first; holds = all.0 }
next_driver P (d ∷ drivers) (y ∷ items) (suc i) x all same inside is =
    let rest : map told_summary items ≡ map summary_of drivers = cc in
    let it = next_driver P drivers items i x all.1 rest (omega (arith, inside)) is in
    record { driver = it.driver; more = grind (arith, it.more); summary = it.summary; holds = it.holds }

-- they are found by the number that is listed
pub found_listed : (s : State) (drivers : State) (i : ℕ) (x : DriverSummary) (it : IsNext (IsThere s) drivers i x)
    → driver_of x.number s ≡ Some it.driver
found_listed s drivers i x it =
    subst (λ (n : ℕ). driver_of n s ≡ Some it.driver) (sym (ap (λ (y : Summary). y.number) it.summary)) it.holds.found

-- as many are listed as there are
as_many : (drivers : State) (items : List DriverSummary) → map told_summary items ≡ map summary_of drivers
    → take (length items) drivers ≡ drivers
as_many [] [] same = refl
as_many [] (y ∷ items) same = absurd (let wrong = same in cc)
as_many (d ∷ drivers) [] same = absurd (let wrong = same in cc)
as_many (d ∷ drivers) (y ∷ items) same = let rest : map told_summary items ≡ map summary_of drivers = cc in ap (λ (l : State). d
    ∷ l) (as_many drivers items rest)

-- those carried of two lists are those of both
carried_more : (day : ℕ) (xs ys : State) → carried day (xs ++ ys) ≡ carried day xs ++ carried day ys
carried_more day xs ys =
    ap (map (carried_driver day)) (filter-append (λ (d : Driver). not (is_left_out day d)) xs ys)
    ∙ map-append (carried_driver day) (filter (λ (d : Driver). not (is_left_out day d)) xs)
    (filter (λ (d : Driver). not (is_left_out day d)) ys)

-- ---- the drivers so far

-- the drivers ordered as they are listed, and the new archive with those so far who are carried
pub record IsCarriedUpTo (day : ℕ) (s : State) (items : List DriverSummary) (i count : ℕ) (at : State → Type 0) : Type 0 where
  pub drivers : State
  pub all : IsPermutation s drivers
  pub listed : map told_summary items ≡ map summary_of drivers
  pub here : at (carried day (take i drivers))
  pub counted : count ≡ length (carried day (take i drivers))

module _ (day : ℕ) (s : State) (items : List DriverSummary) where
  -- before the first driver
  pub none_carried : (at : State → Type 0) → AreSummaries s (map told_summary items) → at [] → IsCarriedUpTo day s items 0 0 at
  none_carried at are here =
      let it = of_others summary_of s (map told_summary items) are.all in
      record { drivers = it.0; all = it.1; listed = it.2; here = here; counted = refl }

  -- the next driver is there
  pub driver_there : (at : State → Type 0) (i count : ℕ) (x : DriverSummary) → IsRead s → (so_far : IsCarriedUpTo day s items i count at)
      → i < length items
      → x ≡ get_or items i x → IsNext (IsThere s) so_far.drivers i x
  driver_there at i count x is so_far inside item =
      next_driver (IsThere s) so_far.drivers items i x (all_ordered (IsThere s) s so_far.drivers so_far.all (each_there s is))
      so_far.listed inside item

  -- after the next driver
  pub driver_more : (at after : State → Type 0) (i count more : ℕ) (x : DriverSummary) (so_far : IsCarriedUpTo day s items i count at)
      (next : IsNext (IsThere s) so_far.drivers i x) → after (carried day (take i so_far.drivers) ++ carried day (next.driver ∷ []))
      → more ≡ length (carried day (next.driver ∷ [])) → IsCarriedUpTo day s items (i + 1) (count + more) after
  driver_more at after i count more x so_far next here is =
      let whole : carried day (take (i + 1) so_far.drivers) ≡ carried day (take i so_far.drivers) ++ carried day (next.driver ∷ []) =
      ap (carried day) next.more ∙ carried_more day (take i so_far.drivers) (next.driver ∷ []) in
      record {
        drivers = so_far.drivers;
        all = so_far.all;
        listed = so_far.listed;
        here = subst after (sym whole) here;
        counted =
            ap (λ n. n + more) so_far.counted ∙ ap (λ n. length (carried day (take i so_far.drivers)) + n) is
            ∙ sym (ap length whole ∙ length-append (carried day (take i so_far.drivers)) (carried day (next.driver ∷ [])));
      }

  -- after the last driver
  pub each_carried : (stands : State → Type 0) (leaves : List State → Type 0) (done : Carried) (i : ℕ) → i ≡ length items
      → done.all ≡ length items
      → AreSummaries s (map told_summary items) → IsCarriedUpTo day s items i done.carried (IsAt stands leaves)
      → AreCarried day s stands leaves done
  each_carried stands leaves done i last total are so_far =
      let whole : take i so_far.drivers ≡ so_far.drivers = ap (λ n. take n so_far.drivers) last
      ∙ as_many so_far.drivers items so_far.listed in
      record {
        drivers = so_far.drivers;
        all = so_far.all;
        sorted = sorted_of summary_of (λ (x y : Summary). is_lt (nat_cmp x.number y.number))
            (λ (x y : Driver). is_lt (nat_cmp x.number y.number)) so_far.drivers
            (λ x y. refl) (subst (IsSorted (λ (x y : Summary). nat_cmp x.number y.number)) so_far.listed are.sorted);
        at = subst (λ (l : State). IsAt stands leaves (carried day l)) whole so_far.here;
        count = so_far.counted ∙ ap (λ (l : State). length (carried day l)) whole;
        total = total ∙ sym (length-map items told_summary) ∙ ap length so_far.listed ∙ length-map so_far.drivers summary_of;
      }

-- how many drivers are added: one, unless the driver is left out
pub one_or_none : (day : ℕ) (d : Driver) (b : Bool) → b ≡ not (is_left_out day d) → cond b 1 0 ≡ length (carried day (d ∷ []))
one_or_none day d b is = go (is_left_out day d) refl is where
  go : (l : Bool) → is_left_out day d ≡ l → b ≡ not l → cond b 1 0 ≡ length (carried day (d ∷ []))
  go true e f = ap (λ c. cond c 1 0) f ∙ sym (ap length (carried_none day d e))
  go false e f = ap (λ c. cond c 1 0) f ∙ sym (ap length (carried_one day d e))
