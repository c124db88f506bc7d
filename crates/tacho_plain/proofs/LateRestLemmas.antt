-- The loop over weekly rests finds those that start too late (`rests`).
use Rattle.std.proofs.Common.{◌≡◌, ℕ, ◌+◌, ◌-◌, ◌<◌, ◌≤◌, List, [], ◌∷◌, ◌++◌}
use Rattle.std.proofs.Common.{length, get_or, sym, ap, subst, ◌∙◌, arith}
use Rattle.tacho_law.specs.declared.run.Run.{Run}
use Rattle.tacho_law.specs.declared.breach.Breach.{Breach}
use Rattle.tacho_law.specs.declared.breach.Kind.TheVariants.{B8}
use Rattle.tacho_law.specs.Line.{Line}
use Rattle.tacho_law.specs.Runs.{AreRestsOf}
use Rattle.tacho_periods.specs.Rests.{AreInTime}
use Rattle.tacho_periods.proofs.RunsLemmas.{no_run}
use Rattle.tacho_periods.proofs.DaysLemmas.{next_are_neighbours, neighbours_are_next}
use Rattle.tacho_law.specs.Order.{Apart}
use Rattle.tacho_law.specs.SoFar.{AreCollected}
use Rattle.tacho_law.specs.Breaches.{IsLate}
use Rattle.tacho_law.proofs.OrderLemmas.{same_breach}
use Rattle.tacho_law.proofs.ExactlyLemmas.{OfBelow, below_none, below_skip, below_add, exactly_as}

-- the breach of a rest that starts more than six days after the end of another
pub record IsLateAfter (a b : Run) (breach : Breach) : Type 0 where
  pub kind_is : breach.kind ≡ B8
  pub moment : breach.moment ≡ a.past + 8640
  pub since : breach.since ≡ a.past
  pub late : 0 < breach.amount
  pub amount : breach.moment + breach.amount ≡ b.start

-- there is at most one such breach for two rests
only : (a b : Run) (x y : Breach) → IsLateAfter a b x → IsLateAfter a b y → x ≡ y
only a b x y p q = same_breach x y
    (p.kind_is ∙ sym q.kind_is)
    (p.moment ∙ sym q.moment)
    (p.since ∙ sym q.since)
    (
    let e : x.moment + x.amount ≡ b.start = p.amount in
    let f : y.moment + y.amount ≡ b.start = q.amount in
    let g : x.moment ≡ a.past + 8640 = p.moment in
    let h : y.moment ≡ a.past + 8640 = q.moment in
    omega arith)

-- the breach of the rest at a place, after the one before it
pub record IsLateAt (weekly : List Run) (place : ℕ) (breach : Breach) : Type 0 where
  pub within : place < length weekly
  pub late : IsLateAfter (get_or weekly (place - 1) no_run) (get_or weekly place no_run) breach

-- the breaches of the rests at places below n
abbrev pub LateBelow : List Run → ℕ → Breach → Type 0
LateBelow weekly n breach = OfBelow (IsLateAt weekly) 1 n breach

-- before the second rest there is no breach
pub late_none : (weekly : List Run) → AreCollected (LateBelow weekly 1) []
late_none weekly = below_none (IsLateAt weekly) Apart 1

-- one step of the loop, from n rests to n + 1
module _ (weekly : List Run) (x : AreInTime weekly) (n : ℕ) (some : 1 ≤ n) (within : n < length weekly)
    (found : List Breach) (r : AreCollected (LateBelow weekly n) found) where
  -- the rest at n starts at most six days after the end of the one before
  pub late_skip : (get_or weekly n no_run).start ≤ (get_or weekly (n - 1) no_run).past + 8640
      → AreCollected (LateBelow weekly (n + 1)) found
  late_skip soon = below_skip (IsLateAt weekly) Apart 1 n found some r
      (λ breach h.
      (let a : breach.moment ≡ (get_or weekly (n - 1) no_run).past + 8640 = h.late.moment in
      let b : 0 < breach.amount = h.late.late in
      let c : breach.moment + breach.amount ≡ (get_or weekly n no_run).start = h.late.amount in
      omega arith))

  -- it starts later
  pub late_add : (new : Breach) → IsLateAfter (get_or weekly (n - 1) no_run) (get_or weekly n no_run) new
      → AreCollected (LateBelow weekly (n + 1)) (found ++ new ∷ [])
  late_add new is = below_add (IsLateAt weekly) Apart 1 n found new some r (record { within = within; late = is })
      (λ breach h. only (get_or weekly (n - 1) no_run) (get_or weekly n no_run) new breach is h.late)
      (λ k breach one low h agree.
      (let a : breach.since ≡ (get_or weekly (k - 1) no_run).past = h.late.since in
      let b : breach.since ≡ new.since = agree.since in
      let c : new.since ≡ (get_or weekly (n - 1) no_run).past = is.since in
      let before : (get_or weekly (k - 1) no_run).past < (get_or weekly (n - 1) no_run).start =
      x.in_order (k - 1) (n - 1) no_run (omega arith) (omega arith) in
      let lasts : (get_or weekly (n - 1) no_run).start < (get_or weekly (n - 1) no_run).past =
      x.some (n - 1) no_run (omega arith) in
      omega arith))

-- after the last rest, all breaches are found
pub late_all : (line : Line) (weekly : List Run) → AreRestsOf line 1440 weekly → (n : ℕ) → length weekly ≤ n
    → (found : List Breach) → AreCollected (LateBelow weekly n) found → AreCollected (IsLate line) found
late_all line weekly are n most found r = exactly_as (LateBelow weekly n) (IsLate line) Apart found (λ breach. (
  λ h.
      (let k : ℕ = h.place in
      let one : 1 ≤ k = h.from in
      let in' : k < length weekly = h.of.within in
      let e : k - 1 + 1 ≡ k = omega arith in
      let late : IsLateAfter (get_or weekly (k - 1) no_run) (get_or weekly (k - 1 + 1) no_run) breach =
      subst (λ (i : ℕ). IsLateAfter (get_or weekly (k - 1) no_run) (get_or weekly i no_run) breach)
      (sym e) h.of.late in (
        h.of.late.kind_is,
        record {
          earlier = get_or weekly (k - 1) no_run;
          later = get_or weekly (k - 1 + 1) no_run;
          neighbours = next_are_neighbours line 1440 weekly are (k - 1) (omega arith);
          moment = late.moment;
          since = late.since;
          late = late.late;
          amount = late.amount;
        },
      )),
  λ h.
      (let (i, in', e, f) = neighbours_are_next line 1440 weekly are h.1.earlier h.1.later h.1.neighbours in
      let g : i + 1 - 1 ≡ i = omega arith in
      let e' : h.1.earlier ≡ get_or weekly (i + 1 - 1) no_run = e ∙ ap (λ (k : ℕ). get_or weekly k no_run) (sym g) in
      let late : IsLateAfter h.1.earlier h.1.later breach =
      record { kind_is = h.0; moment = h.1.moment; since = h.1.since; late = h.1.late; amount = h.1.amount } in
      record {
        place = i + 1;
        from = omega arith;
        below = omega arith;
        of = record {
          within = in';
          late =
              subst (λ (a : Run). IsLateAfter a (get_or weekly (i + 1) no_run) breach)
              e' (subst (λ (b : Run). IsLateAfter h.1.earlier b breach) f late);
        };
      }),
)) r
