-- The loop over rest runs finds those that complete a break (`complete_breaks`).
use Rattle.std.proofs.Common.{◌≡◌, ℕ, ◌+◌, ◌<◌, ◌≤◌, ◌⊎◌, List, [], ◌∷◌, ◌++◌}
use Rattle.std.proofs.Common.{length, get_or, take, sym, subst, ◌∙◌, arith, Bool, true, false}
use Rattle.std.specs.Prelude.{IsTrue}
use Rattle.std.specs.List.{All, AllPairs, Contains}
use Rattle.std.proofs.lemmas.List.{take_more, length-take-le, get_or-take, get_or_default}
use Rattle.std.proofs.lemmas.List.Elements.{All-contains, All-take}
use Rattle.tacho_law.specs.declared.run.Run.{Run}
use Rattle.tacho_law.specs.Runs.{AreRuns, Before, minutes_of}
use Rattle.tacho_law.specs.Breaks.{AreCompleteBreaks}
use Rattle.tacho_law.specs.SoFar.{Breaking}
use Rattle.tacho_law.proofs.BreaksLemmas.{breaking_add, breaking_short, breaking_stay, breaks_last}

-- in a loop at index i, the runs that were seen are before the run at i
later_at : (xs : List Run) (i : ℕ) (d : Run) → i < length xs → AllPairs Before xs
    → (x : Run) → Contains (take i xs) x → Before x (get_or xs i d)
later_at xs i d within order x (k, below, is) =
    let l : length (take i xs) ≡ i = length-take-le i xs (omega arith) in
    let e : get_or (take i xs) k x ≡ get_or xs k x = get_or-take i xs k x (omega arith) in
    let f : get_or xs k x ≡ get_or xs k d = get_or_default xs k x d (omega arith) in
    subst (λ (y : Run). Before y (get_or xs i d)) (sym f ∙ sym e ∙ is) (order k i d (omega arith) within)

-- each run that was seen has a minute
each_at : (xs : List Run) (i : ℕ) → i ≤ length xs → All (λ (x : Run). x.start < x.past) xs
    → (x : Run) → Contains (take i xs) x → x.start < x.past
each_at xs i within all x h =
    All-contains (λ (y : Run). y.start < y.past) (take i xs) x (All-take (λ (y : Run). y.start < y.past) i xs all) h

module _ (xs : List Run) (i : ℕ) (d : Run) (within : i < length xs)
    (order : AllPairs Before xs) (all : All (λ (x : Run). x.start < x.past) xs)
    (breaks : List Run) (short : Bool) (r : Breaking (take i xs) breaks short) where
  -- the run at i has a minute
  lasts : (get_or xs i d).start < (get_or xs i d).past
  lasts = all i d within

  -- it is the next to be seen
  more : take (i + 1) xs ≡ take i xs ++ get_or xs i d ∷ []
  more = take_more xs i d within

  -- the run at i completes a break
  pub add_here : (45 ≤ minutes_of (get_or xs i d)) ⊎ ((30 ≤ minutes_of (get_or xs i d)) × IsTrue short)
      → Breaking (take (i + 1) xs) (breaks ++ get_or xs i d ∷ []) false
  add_here c =
      rw more
      (breaking_add (take i xs) breaks short (get_or xs i d) r
      (later_at xs i d within order) lasts (each_at xs i (omega arith) all) c)

  -- the run at i completes no break, but is a first part of 15 minutes or more
  pub short_here : ((45 ≤ minutes_of (get_or xs i d)) ⊎ ((30 ≤ minutes_of (get_or xs i d)) × IsTrue short) → ⊥)
      → 15 ≤ minutes_of (get_or xs i d) → Breaking (take (i + 1) xs) breaks true
  short_here fails enough =
      rw more
      (breaking_short (take i xs) breaks short (get_or xs i d) r
      (later_at xs i d within order) lasts (each_at xs i (omega arith) all) fails enough)

  -- the run at i is shorter than 15 minutes, and completes no break
  pub stay_here : ((45 ≤ minutes_of (get_or xs i d)) ⊎ ((30 ≤ minutes_of (get_or xs i d)) × IsTrue short) → ⊥)
      → minutes_of (get_or xs i d) < 15 → Breaking (take (i + 1) xs) breaks short
  stay_here fails few =
      rw more
      (breaking_stay (take i xs) breaks short (get_or xs i d) r
      (later_at xs i d within order) lasts (each_at xs i (omega arith) all) fails few)

-- complete breaks are runs in order
pub breaks_are : (runs breaks : List Run) → AreRuns runs → AreCompleteBreaks runs breaks → AreRuns breaks
breaks_are runs breaks all are = record { some = breaks_last runs breaks are all.some; in_order = are.in_order }
