-- The weeks at which a rule fails that is examined again from each week at which it failed (specs/Anew). Whether the next week is one of
-- them depends only on the last of them.
use Rattle.std.proofs.Common.{◌≡◌, ℕ, zero, suc, ◌+◌, ◌<◌, ◌≤◌, ◌⊎◌, inl, inr, refl, subst, arith}
use Rattle.std.proofs.lemmas.Bool.{cases_order}
use Rattle.tacho_law.specs.Anew.{FailsFrom, Fails}
use Rattle.tacho_law.specs.Anew.Fails.{at_first, anew}

module _ (Serve : ℕ → ℕ → Type 0) (Ended : ℕ → Type 0) (first : ℕ)
    (less : (a u v : ℕ) → v ≤ u → Serve a u → Serve a v) where
  -- a week from which the rule is examined: the first week, or a week at which it failed
  abbrev pub IsStart : ℕ → Type 0
  IsStart a = (a ≡ first) ⊎ Fails Serve Ended first a

  pub starts_late : (a : ℕ) → Fails Serve Ended first a → first < a
  starts_late a (at_first f) = f.later
  starts_late a (anew {a = b} h f) =
      let x : first < b = starts_late b h in
      let y : b < a = f.later in
      omega arith

  pub ended_by : (a : ℕ) → Fails Serve Ended first a → Ended a
  ended_by a (at_first f) = f.ended
  ended_by a (anew {a = b} h f) = f.ended

  came_from : (a : ℕ) → Fails Serve Ended first a → (b : ℕ) × (IsStart b × FailsFrom Serve Ended b a)
  came_from a (at_first f) = (first, (inl refl, f))
  came_from a (anew {a = b} h f) = (b, (inr h, f))

  -- the rule can't be kept from one start up to a later start
  starts_apart : (n a b : ℕ) → a < n → IsStart a → IsStart b → b < a → Serve b a → ⊥
  starts_apart zero a b below is are order s = omega arith
  starts_apart (suc n) a b below (inl e) (inl f) order s = omega arith
  starts_apart (suc n) a b below (inl e) (inr f) order s = let x : first < b = starts_late b f in omega arith
  starts_apart (suc n) a b below (inr h) are order s =
      let x = came_from a h in
      let later : x.0 < a = x.1.1.later in
      elim (cases_order b x.0) [
        | inl same ↦ x.1.1.none (subst (λ (y : ℕ). Serve y a) same s)
        | inr apart ↦ elim apart [
          | inl early ↦ starts_apart n x.0 b (omega arith) x.1.0 are early (less b a x.0 (omega arith) s)
          | inr late ↦ starts_apart n b x.0 (omega arith) are x.1.0 late (x.1.1.before b (omega arith) order)
        ]
      ]

  -- if the rule can be kept from a start a up to u, it fails at the next week iff it can't be kept from a up to that week
  module _ (a u : ℕ) (start : IsStart a) (within : a ≤ u) (so_far : Serve a u) where
    pub none_at : Serve a (u + 1) → Fails Serve Ended first (u + 1) → ⊥
    none_at s h = starts_apart (u + 2) (u + 1) a (omega arith) (inr h) start (omega arith) s

    pub fails_at : Ended (u + 1) → (Serve a (u + 1) → ⊥) → Fails Serve Ended first (u + 1)
    fails_at ended none =
        let f : FailsFrom Serve Ended a (u + 1) = record {
          later = omega arith;
          ended = ended;
          none = none;
          before = λ v above below. less a u v (omega arith) so_far;
        } in
        elim start [
          | inl e ↦ at_first (subst (λ (x : ℕ). FailsFrom Serve Ended x (u + 1)) e f)
          | inr h ↦ anew h f
        ]
