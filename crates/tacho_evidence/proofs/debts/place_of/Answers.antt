use Rattle.std.proofs.Common.{rules, ◌≡◌, ◌≤◌, ◌<◌, ℕ, List, get_or, length, inl, inr, ap, arith}
use Rattle.std.proofs.Math.Dec.{ltb}
use Rattle.std.specs.List.{AllPairs}
use Rattle.std.proofs.lemmas.Bool.{cases_lt, ltb-true, ltb-false}
use Rattle.std.proofs.lemmas.List.Sorted.{IsPartitionPoint-from_clause, IsPartitionedBy-ltb}
use Rattle.std.proofs.lemmas.Option.{get_or_from_slice_get, slice_get_within}
use Rattle.tacho_law.specs.declared.debt.Debt.{Debt}
use Rattle.tacho_law.specs.Debts.{EarlierWeek}
use Rattle.tacho_evidence.proofs.debts.place_of.Goals as goal

-- weeks that rise are in order, also where both are the same
rise : (xs : List Debt) (i k : ℕ) (d : Debt) → AllPairs EarlierWeek xs → i ≤ k → k < length xs
    → (get_or xs i d).week ≤ (get_or xs k d).week
rise xs i k d h le within = elim (cases_lt i k) [
  | inl lt ↦ let l : (get_or xs i d).week < (get_or xs k d).week = h i k d lt within in omega arith
  | inr ge ↦
      let e : i ≡ k = omega arith in
      let f : (get_or xs i d).week ≡ (get_or xs k d).week = ap (λ (n : ℕ). (get_or xs n d).week) e in
      omega arith
]

pub returns : goal.returns
returns c = λ place debt is same.
    let xs : List Debt = c.args.debts.now in
    let n : ℕ = c.partition_point.result in
    let found =
    IsPartitionPoint-from_clause (λ (d : Debt). ltb d.week c.args.week) xs n c.partition_point.ensures.partitioned
    (IsPartitionedBy-ltb (λ (d : Debt). d.week) xs c.args.week (λ i j d le lt. rise xs i j d c.requires le lt))
    (λ a b f' called. search rules) in
    let within : place < length xs = slice_get_within xs place debt is in
    let e : (get_or xs place debt).week ≡ debt.week =
    ap (λ (d : Debt). d.week) (get_or_from_slice_get xs place debt debt is) in
    elim (cases_lt place n) [
      | inl lt ↦ absurd (
          let l : (get_or xs place debt).week < c.args.week =
          ltb-true (get_or xs place debt).week c.args.week (found.0 place debt (omega arith) lt) in
          omega arith)
      | inr ge ↦ elim (cases_lt n place) [
        | inl lt ↦ absurd (
            let l : (get_or xs n debt).week < (get_or xs place debt).week = c.requires n place debt lt within in
            let m : c.args.week ≤ (get_or xs n debt).week =
            ltb-false (get_or xs n debt).week c.args.week (found.1 n debt (omega arith) (omega arith)) in
            omega arith)
        | inr le ↦ omega arith
      ]
    ]
