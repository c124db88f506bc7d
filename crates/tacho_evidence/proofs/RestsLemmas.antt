-- A rest run is determined by its end, neighbours by the end of the earlier one, and a duty day by its start (the laws on evidence).
use Rattle.std.proofs.Common.{◌≡◌, ℕ, ◌<◌, ◌⊎◌, inl, inr, List, [], ◌∷◌}
use Rattle.std.proofs.Common.{get_or, sym, ap, subst, ◌∙◌, arith}
use Rattle.std.specs.List.{AllPairs, Contains}
use Rattle.std.proofs.lemmas.Bool.{cases_lt}
use Rattle.std.proofs.lemmas.List.{get_or_default}
use Rattle.std.proofs.lemmas.List.Elements.{Contains-get_or}
use Rattle.std.proofs.lemmas.List.Kept.{AllPairs-cons}
use Rattle.tacho_law.specs.declared.run.Run.{Run}
use Rattle.tacho_law.specs.declared.days.DutyDay.{DutyDay}
use Rattle.tacho_law.specs.Days.{EarlierDay, IsDuty}
use Rattle.tacho_law.specs.Exactly.{AreExactly}
use Rattle.tacho_law.specs.Line.{Line}
use Rattle.tacho_law.specs.Runs.{IsRestRun, AreRestRuns, AreNeighbours, Before}
use Rattle.tacho_law.proofs.ExactlyLemmas.{contains_cases, contains_head, contains_tail, head_first, tail_order}

-- over the rest runs of a line
module _ (line : Line) (runs : List Run) (all : AreRestRuns line runs) where
  -- two runs are equal, or one is before the other
  pub three_ways : (a b : Run) → IsRestRun line a → IsRestRun line b → Before a b ⊎ ((a ≡ b) ⊎ Before b a)
  three_ways a b p q =
      let none : Run = record { start = 0; past = 0 } in
      let (i, in', e) = (all.each a).1 p in
      let (k, in'', f) = (all.each b).1 q in
      let e' : get_or runs i none ≡ a = get_or_default runs i none a in' ∙ e in
      let f' : get_or runs k none ≡ b = get_or_default runs k none b in'' ∙ f in
      elim (cases_lt i k) [
        | inl lt ↦
            inl (subst (λ (x : Run). Before x b) e'
            (subst (λ (x : Run). Before (get_or runs i none) x) f' (all.in_order i k none lt in'')))
        | inr ge ↦ elim (cases_lt k i) [
          | inl gt ↦
              inr (inr (subst (λ (x : Run). Before b x) e'
              (subst (λ (x : Run). Before x (get_or runs i none)) f' (all.in_order k i none gt in'))))
          | inr le ↦
              let g : i ≡ k = omega arith in
              inr (inl (sym e' ∙ (ap (λ (x : ℕ). get_or runs x none) g ∙ f')))
        ]
      ]

  -- runs that end together are equal
  pub one_by_past : (a b : Run) → IsRestRun line a → IsRestRun line b → a.past ≡ b.past → a ≡ b
  one_by_past a b p q e =
      let some : a.start < a.past = p.some in
      let some' : b.start < b.past = q.some in
      elim (three_ways a b p q) [
        | inl before ↦ absurd (let l : a.past < b.start = before in omega arith)
        | inr other ↦ elim other [
          | inl same ↦ same
          | inr after ↦ absurd (let l : b.past < a.start = after in omega arith)
        ]
      ]

  -- two later neighbours of a run are equal
  pub one_later : (least : ℕ) (a b c : Run) → AreNeighbours line least a b → AreNeighbours line least a c → b ≡ c
  one_later least a b c p q = elim (three_ways b c p.second.rests q.second.rests) [
    | inl before ↦ absurd (q.between b p.second p.before before)
    | inr other ↦ elim other [
      | inl same ↦ same
      | inr after ↦ absurd (p.between c q.second q.before after)
    ]
  ]

  -- neighbours are determined by the end of the earlier one
  pub one_neighbours : (least : ℕ) (a b c d : Run) → AreNeighbours line least a b → AreNeighbours line least c d
      → a.past ≡ c.past → (a ≡ c) × (b ≡ d)
  one_neighbours least a b c d p q e =
      let same : a ≡ c = one_by_past a c p.first.rests q.first.rests e in (
        same,
        one_later least c b d (subst (λ (x : Run). AreNeighbours line least x b) same p) q,
      )

  -- a duty day is determined by its start
  pub one_duty : (a b : DutyDay) → IsDuty line a → IsDuty line b → a.start ≡ b.start → a ≡ b
  one_duty a b p q e =
      let (last, rest) = one_neighbours 540 p.last a.rest q.last b.rest p.neighbours q.neighbours
      (sym p.start ∙ (e ∙ q.start)) in
      let past : a.past ≡ b.past = p.past ∙ (ap (λ (x : Run). x.start) rest ∙ sym q.past) in
      let one : ℕ → DutyDay = λ x. record { start = x; past = a.past; rest = a.rest } in
      let two : ℕ → DutyDay = λ x. record { start = b.start; past = x; rest = a.rest } in
      let three : Run → DutyDay = λ x. record { start = b.start; past = b.past; rest = x } in
      ap one e ∙ (ap two past ∙ ap three rest)

-- no two duty days are before each other
pub never_both_days : (line : Line) (x y : DutyDay) → IsDuty line x → IsDuty line y → EarlierDay x y
    → EarlierDay y x → ⊥
never_both_days line x y p q before after =
    let a : p.last.past < x.rest.start = p.neighbours.before in
    let b : q.last.past < y.rest.start = q.neighbours.before in
    let c : x.rest.start < x.rest.past = p.neighbours.second.rests.some in
    let d : y.rest.start < y.rest.past = q.neighbours.second.rests.some in
    let e : x.start ≡ p.last.past = p.start in
    let f : y.start ≡ q.last.past = q.start in
    omega arith

-- the things of an ordered list that have a property
pub record Kept {A : Type 0} (R : A → A → Type 0) (Q : A → Type 0) (xs : List A) : Type 0 where
  pub kept : List A
  pub exactly : AreExactly (λ x. Contains xs x × Q x) R kept

-- an ordered list has the list of its things that have a decided property
pub kept_of : {A : Type 0} (R : A → A → Type 0) (Q : A → Type 0) → ((x : A) → Q x ⊎ (Q x → ⊥))
    → (xs : List A) → AllPairs R xs → Kept R Q xs
kept_of {A} R Q decided [] order = record {
  kept = [];
  exactly = record {
    each = λ x. (
      λ h. absurd (let (k, within, is) = h in omega arith),
      λ h. absurd (let (k, within, is) = h.0 in omega arith),
    );
    in_order = λ i j d below within. absurd (omega arith);
  };
}
kept_of {A} R Q decided (x ∷ xs) order =
    let r : Kept R Q xs = kept_of R Q decided xs (tail_order R x xs order) in
    elim (decided x) [
      | inl holds ↦ record {
        kept = x ∷ r.kept;
        exactly = record {
          each = λ y. (
            λ h. elim (contains_cases x r.kept y h) [
              | inl same ↦ subst (λ (z : A). Contains (x ∷ xs) z × Q z) same (contains_head x xs, holds)
              | inr later ↦
                  let (among, q) = (r.exactly.each y).0 later in (contains_tail x xs y among, q)
            ],
            λ h. elim (contains_cases x xs y h.0) [
              | inl same ↦ subst (λ (z : A). Contains (x ∷ r.kept) z) same (contains_head x r.kept)
              | inr later ↦ contains_tail x r.kept y ((r.exactly.each y).1 (later, h.1))
            ],
          );
          in_order = AllPairs-cons R x r.kept
              (λ k d within. head_first R x xs (get_or r.kept k d) order
              ((r.exactly.each (get_or r.kept k d)).0 (Contains-get_or r.kept k d within)).0)
              r.exactly.in_order;
        };
      }
      | inr fails ↦ record {
        kept = r.kept;
        exactly = record {
          each = λ y. (
            λ h. let (among, q) = (r.exactly.each y).0 h in (contains_tail x xs y among, q),
            λ h. elim (contains_cases x xs y h.0) [
              | inl same ↦ absurd (fails (subst Q (sym same) h.1))
              | inr later ↦ (r.exactly.each y).1 (later, h.1)
            ],
          );
          in_order = r.exactly.in_order;
        };
      }
    ]
