-- Late weekly rests, rest by rest (specs/Lateness, IsLateSoFar).
use Rattle.std.proofs.Common.{◌≡◌, ℕ, ◌+◌, ◌-◌, ◌<◌, ◌≤◌, ◌⊎◌, ◌↔◌, inl, inr, Bool, true, false, Option, None, Some}
use Rattle.std.proofs.Common.{List, [], ◌∷◌, ◌++◌, refl, sym, ap, subst, ◌∙◌, arith, nat_lt, if◌then◌else◌}
use Rattle.std.specs.Prelude.{MatchOption}
use Rattle.std.proofs.lemmas.Bool.{cases_lt}
use Rattle.std.proofs.lemmas.Bool.Decides.{nat_tests}
use Rattle.std.proofs.lemmas.List.{append-nil}
use Rattle.tacho_law.specs.declared.run.Run.{Run}
use Rattle.tacho_law.specs.declared.breach.Breach.{Breach}
use Rattle.tacho_law.specs.declared.breach.Kind.TheVariants.{B8}
use Rattle.tacho_law.specs.Runs.{IsRestRun, AreRestRuns, Before, IsRestOf, AreNeighbours}
use Rattle.tacho_law.specs.Line.{Line}
use Rattle.tacho_law.specs.Breaches.{IsB8, IsLate}
use Rattle.tacho_law.specs.Order.{Apart}
use Rattle.tacho_law.specs.SoFar.{AreCollected}
use Rattle.tacho_law.proofs.DebtsLemmas.{separate}
use Rattle.tacho_law.proofs.ByRunsLemmas.{one_run}
use Rattle.tacho_law.proofs.OrderLemmas.{same_breach}
use Rattle.tacho_law.proofs.ExactlyLemmas.{exactly_as, exactly_skip, exactly_add}
use Rattle.tacho_pass.specs.Found.{as_list}
use Rattle.tacho_rests.specs.Lateness.{late_of, IsLateBefore, IsLastRest, IsLateSoFar}

-- if no weekly rest starts, nothing changes
pub late_keep : (line : Line) (start next : ℕ) (end : Option ℕ) (own : List Breach) → start ≤ next
    → ((x : Run) → IsRestOf line 1440 x → x.start < next → x.start < start) → IsLateSoFar line start end own
    → IsLateSoFar line next end own
late_keep line start next end own from none s = record {
  last = last_keep end s.last;
  found = exactly_as (λ breach. IsLateBefore line start breach) (λ breach. IsLateBefore line next breach) Apart own
      (λ breach. (
        λ h. record { kind = h.kind; is = h.is; before = let b : h.is.later.start < start = h.before in omega arith },
        λ h. record { kind = h.kind; is = h.is; before = none h.is.later h.is.neighbours.second h.before },
      )) s.found;
} where
  last_keep : (end : Option ℕ)
      → MatchOption end
      ((other : Run) → IsRestOf line 1440 other → other.start < start → ⊥) (λ p. IsLastRest line start p)
      → MatchOption end
      ((other : Run) → IsRestOf line 1440 other → other.start < next → ⊥) (λ p. IsLastRest line next p)
  last_keep None h = λ other is below. h other is (none other is below)
  last_keep (Some p) h = record {
    rest = h.rest;
    is = h.is;
    before = let b : h.rest.start < start = h.before in omega arith;
    ends = h.ends;
    last = λ other is below. h.last other is (none other is below);
  }

-- the next weekly rest
module _ (line : Line) (runs : List Run) (are : AreRestRuns line runs) (start next : ℕ) (rest : Run)
    (is : IsRestOf line 1440 rest) (from : start ≤ rest.start) (below : rest.start < next)
    (only : (x : Run) → IsRestOf line 1440 x → x.start < next → (x.start < start) ⊎ (x ≡ rest)) where
  -- a late start of this rest
  Here : Breach → Type 0
  Here breach = (kind : breach.kind ≡ B8) × (h : IsB8 line breach) × (h.later ≡ rest)

  before_here : (breach : Breach) → IsLateBefore line start breach → IsLateBefore line next breach
  before_here breach h = record {
    kind = h.kind;
    is = h.is;
    before = let b : h.is.later.start < start = h.before in omega arith;
  }

  both_next : (breach : Breach) → (IsLateBefore line start breach ⊎ Here breach) ↔ IsLateBefore line next breach
  unfolding Here
  both_next breach = (
    λ h. elim h [
      | inl old ↦ before_here breach old
      | inr new ↦ record { kind = new.0; is = new.1; before = subst (λ (x : Run). x.start < next) (sym new.2) below }
    ],
    λ h. elim (only h.is.later h.is.neighbours.second h.before) [
      | inl old ↦ inl (record { kind = h.kind; is = h.is; before = old })
      | inr same ↦ inr (h.kind, h.is, same)
    ],
  )

  last_here : IsLastRest line next rest.past
  last_here = record {
    rest = rest;
    is = is;
    before = below;
    ends = refl;
    last = λ other is' below'. elim (only other is' below') [
      | inl old ↦ omega arith
      | inr same ↦ (let e : other.start ≡ rest.start = ap (λ (x : Run). x.start) same in omega arith)
    ];
  }

  -- after an earlier weekly rest
  module _ (p : ℕ) (last : IsLastRest line start p) where
    apart : Before last.rest rest
    apart =
        let b : last.rest.start < start = last.before in
        separate line last.rest rest last.is.rests is.rests (omega arith)

    neighbours : AreNeighbours line 1440 last.rest rest
    neighbours = record {
      first = last.is;
      second = is;
      before = apart;
      between = λ c is' after before.
          (let some : c.start < c.past = is'.rests.some in
          let lasts : last.rest.start < last.rest.past = last.is.rests.some in
          let after' : last.rest.past < c.start = after in
          let before' : c.past < rest.start = before in
          elim (only c is' (omega arith)) [
            | inl old ↦ (let most : c.start ≤ last.rest.start = last.last c is' old in omega arith)
            | inr same ↦ (let e : c.start ≡ rest.start = ap (λ (x : Run). x.start) same in omega arith)
          ]);
    }

    -- the neighbour before this rest is the last weekly rest
    one_last : (a : Run) → AreNeighbours line 1440 a rest → a ≡ last.rest
    one_last a n =
        let apart' : a.past < rest.start = n.before in
        let some : a.start < a.past = n.first.rests.some in
        let before : last.rest.past < rest.start = apart in
        elim (only a n.first (omega arith)) [
          | inl old ↦
              let most : a.start ≤ last.rest.start = last.last a n.first old in
              elim (cases_lt a.start last.rest.start) [
                | inl lt ↦ absurd
                    (n.between last.rest last.is (separate line a last.rest n.first.rests last.is.rests lt) apart)
                | inr ge ↦ one_run line 0 runs are a last.rest n.first.rests last.is.rests (omega arith)
              ]
          | inr same ↦ absurd (let e : a.start ≡ rest.start = ap (λ (x : Run). x.start) same in omega arith)
        ]

    since_is : (breach : Breach) (h : IsB8 line breach) → h.later ≡ rest → h.earlier.past ≡ p
    since_is breach h same =
        ap (λ (x : Run). x.past) (one_last h.earlier (subst (λ (x : Run). AreNeighbours line 1440 h.earlier x) same h.neighbours))
        ∙ last.ends

    start_is : (breach : Breach) (h : IsB8 line breach) → h.later ≡ rest → h.later.start ≡ rest.start
    start_is breach h same = ap (λ (x : Run). x.start) same

    late_if : (own : List Breach) (b : Bool) → nat_lt (p + 8640) rest.start ≡ b
        → AreCollected (λ breach. IsLateBefore line start breach) own
        → AreCollected (λ breach. IsLateBefore line next breach)
        (own ++ as_list
        (if b then Some (record { kind = B8; moment = p + 8640; since = p; amount = rest.start - (p + 8640) })
        else None))
    unfolding Here
    late_if own true e r =
        let late : p + 8640 < rest.start = grind (arith, nat_tests) in
        let new : Breach = record { kind = B8; moment = p + 8640; since = p; amount = rest.start - (p + 8640) } in
        let ends : last.rest.past ≡ p = last.ends in
        let is' : IsB8 line new =
        record {
          earlier = last.rest;
          later = rest;
          neighbours = neighbours;
          moment = omega arith;
          since = omega arith;
          late = omega arith;
          amount = omega arith;
        } in
        exactly_as (λ breach. IsLateBefore line start breach ⊎ Here breach) (λ breach. IsLateBefore line next breach)
        Apart (own ++ new ∷ []) both_next
        (exactly_add (λ breach. IsLateBefore line start breach) Here Apart own new r (refl, is', refl)
        (λ breach h.
        (let a : h.1.earlier.past ≡ p = since_is breach h.1 h.2 in
        let b : h.1.later.start ≡ rest.start = start_is breach h.1 h.2 in
        let m : breach.moment ≡ h.1.earlier.past + 8640 = h.1.moment in
        let s : breach.since ≡ h.1.earlier.past = h.1.since in
        let n : breach.moment + breach.amount ≡ h.1.later.start = h.1.amount in
        same_breach new breach (sym h.0) (omega arith) (omega arith) (omega arith)))
        (λ breach h agree.
        (let s : breach.since ≡ h.is.earlier.past = h.is.since in
        let t : breach.since ≡ p = agree.since in
        let old : h.is.later.start < start = h.before in
        let most : h.is.later.start ≤ last.rest.start = last.last h.is.later h.is.neighbours.second old in
        let order : h.is.earlier.past < h.is.later.start = h.is.neighbours.before in
        let some : last.rest.start < last.rest.past = last.is.rests.some in
        omega arith)))
    late_if own false e r =
        let soon : rest.start ≤ p + 8640 = grind (arith, nat_tests) in
        subst (λ (xs : List Breach). AreCollected (λ breach. IsLateBefore line next breach) xs) (sym (append-nil own))
        (exactly_as (λ breach. IsLateBefore line start breach ⊎ Here breach) (λ breach. IsLateBefore line next breach)
        Apart own both_next
        (exactly_skip (λ breach. IsLateBefore line start breach) Here Apart own r
        (λ breach h.
        (let a : h.1.earlier.past ≡ p = since_is breach h.1 h.2 in
        let b : h.1.later.start ≡ rest.start = start_is breach h.1 h.2 in
        let m : breach.moment ≡ h.1.earlier.past + 8640 = h.1.moment in
        let l : 0 < breach.amount = h.1.late in
        let n : breach.moment + breach.amount ≡ h.1.later.start = h.1.amount in
        omega arith))))

  found_next : (end : Option ℕ) (own : List Breach)
      → MatchOption end
      ((other : Run) → IsRestOf line 1440 other → other.start < start → ⊥) (λ p. IsLastRest line start p)
      → AreCollected (λ breach. IsLateBefore line start breach) own
      → AreCollected (λ breach. IsLateBefore line next breach) (own ++ as_list (late_of end rest))
  unfolding Here
  found_next None own none r = subst (λ (xs : List Breach). AreCollected (λ breach. IsLateBefore line next breach) xs)
      (sym (append-nil own))
      (exactly_as (λ breach. IsLateBefore line start breach ⊎ Here breach) (λ breach. IsLateBefore line next breach)
      Apart own both_next
      (exactly_skip (λ breach. IsLateBefore line start breach) Here Apart own r
      (λ breach h.
      (let order : h.1.earlier.past < h.1.later.start = h.1.neighbours.before in
      let some : h.1.earlier.start < h.1.earlier.past = h.1.neighbours.first.rests.some in
      let b : h.1.later.start ≡ rest.start = ap (λ (x : Run). x.start) h.2 in
      elim (only h.1.earlier h.1.neighbours.first (omega arith)) [
        | inl old ↦ none h.1.earlier h.1.neighbours.first old
        | inr same ↦ (let e : h.1.earlier.start ≡ rest.start = ap (λ (x : Run). x.start) same in omega arith)
      ]))))
  found_next (Some p) own last r = late_if p last own (nat_lt (p + 8640) rest.start) refl r

  pub late_next : (end : Option ℕ) (own : List Breach) → IsLateSoFar line start end own
      → IsLateSoFar line next (Some rest.past) (own ++ as_list (late_of end rest))
  late_next end own s = record { last = last_here; found = found_next end own s.last s.found }

-- after the last run, all breaches are found
pub late_all : (line : Line) (start : ℕ) (end : Option ℕ) (own : List Breach)
    → ((x : Run) → IsRestRun line x → x.start < start) → IsLateSoFar line start end own
    → AreCollected (λ breach. IsLate line breach) own
late_all line start end own all s = exactly_as (λ breach. IsLateBefore line start breach) (λ breach. IsLate line breach)
    Apart own (λ breach. (
      λ h. (h.kind, h.is),
      λ h. record { kind = h.0; is = h.1; before = all h.1.later h.1.neighbours.second.rests },
    )) s.found
