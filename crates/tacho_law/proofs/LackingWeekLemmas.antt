-- Going over the weeks in order, and the breaches for weeks up to which no choice of a week for each weekly rest is valid.
use Rattle.std.proofs.Common.{◌≡◌, ℕ, ◌+◌, ◌<◌, ◌≤◌, List, [], ◌∷◌, ◌++◌, sym, subst, ◌∙◌, arith}
use Rattle.tacho_law.specs.declared.breach.Breach.{Breach}
use Rattle.tacho_law.specs.declared.breach.Kind.TheVariants.{B9}
use Rattle.tacho_law.specs.Line.{Line}
use Rattle.tacho_law.specs.Weeks.{week_start}
use Rattle.tacho_law.specs.Choice.{CanServe}
use Rattle.tacho_law.specs.Anew.{Fails, EndedBy}
use Rattle.tacho_law.specs.Order.{Apart}
use Rattle.tacho_law.specs.SoFar.{AreCollected}
use Rattle.tacho_law.specs.Breaches.{IsLacking}
use Rattle.tacho_law.proofs.AnewLemmas.{starts_late, ended_by}
use Rattle.tacho_law.proofs.OrderLemmas.{same_breach}
use Rattle.tacho_law.proofs.ExactlyLemmas.{OfBelow, exactly_as, below_none, below_skip, below_add}

-- a choice that is valid up to a week is valid up to each earlier week
pub serves_less : (line : Line) (a u v : ℕ) → v ≤ u → CanServe line a u → CanServe line a v
serves_less line a u v le h = record {
  week_of = h.week_of;
  choice = h.choice;
  each = λ w above below. h.each w above (omega arith);
}

-- the breach for weeks w and w + 1, where the rule fails at w + 1
pub record IsLackingOf (line : Line) (horizon first w : ℕ) (breach : Breach) : Type 0 where
  pub kind_is : breach.kind ≡ B9
  pub fails : Fails (CanServe line) (EndedBy horizon) first (w + 1)
  pub moment : breach.moment ≡ week_start (w + 2)
  pub since : breach.since ≡ week_start w
  pub amount : breach.amount ≡ 0

-- there is at most one such breach for a week
only : (line : Line) (horizon first w : ℕ) (x y : Breach)
    → IsLackingOf line horizon first w x → IsLackingOf line horizon first w y → x ≡ y
only line horizon first w x y p q =
    same_breach x y (p.kind_is ∙ sym q.kind_is) (p.moment ∙ sym q.moment)
    (p.since ∙ sym q.since) (p.amount ∙ sym q.amount)

-- such a breach for a week from `first` to below n
abbrev pub LackingBelow : Line → ℕ → ℕ → ℕ → Breach → Type 0
LackingBelow line horizon first n breach = OfBelow (IsLackingOf line horizon first) first n breach

-- no breach is found before the first week
pub lacking_none : (line : Line) (horizon first : ℕ) → AreCollected (LackingBelow line horizon first first) []
lacking_none line horizon first = below_none (IsLackingOf line horizon first) Apart first

-- the step from the weeks below n to week n
module _ (line : Line) (horizon first n : ℕ) (some : first ≤ n) (found : List Breach)
    (r : AreCollected (LackingBelow line horizon first n) found) where
  -- no such breach for week n
  pub lacking_skip : ((breach : Breach) → IsLackingOf line horizon first n breach → ⊥)
      → AreCollected (LackingBelow line horizon first (n + 1)) found
  lacking_skip never = below_skip (IsLackingOf line horizon first) Apart first n found some r never

  -- a breach for week n
  pub lacking_add : (new : Breach) → IsLackingOf line horizon first n new
      → AreCollected (LackingBelow line horizon first (n + 1)) (found ++ new ∷ [])
  lacking_add new is = below_add (IsLackingOf line horizon first) Apart first n found new some r is
      (λ breach h. only line horizon first n new breach is h)
      (λ k breach from before h agree.
      (let b : breach.since ≡ week_start k = h.since in
      let c : breach.since ≡ new.since = agree.since in
      let d : new.since ≡ week_start n = is.since in
      omega arith))

-- if week n + 1 hasn't ended by the horizon, these are all breaches
pub lacking_all : (line : Line) (base horizon first n : ℕ)
    → base ≡ week_start first → horizon < week_start (n + 2) → (found : List Breach)
    → AreCollected (LackingBelow line horizon first n) found → AreCollected (IsLacking line base horizon) found
lacking_all line base horizon first n monday late found r =
    exactly_as (LackingBelow line horizon first n) (IsLacking line base horizon) Apart found (λ breach. (
      λ h. (
        h.of.kind_is,
        record {
          first = first;
          week = h.place;
          monday = monday;
          fails = h.of.fails;
          moment = h.of.moment;
          since = h.of.since;
          amount = h.of.amount;
        },
      ),
      λ h.
          (let start : base ≡ week_start h.1.first = h.1.monday in
          let same : h.1.first ≡ first = omega arith in
          let fails : Fails (CanServe line) (EndedBy horizon) first (h.1.week + 1) =
          subst (λ (a : ℕ). Fails (CanServe line) (EndedBy horizon) a (h.1.week + 1)) same h.1.fails in
          let a : first < h.1.week + 1 =
          starts_late (CanServe line) (EndedBy horizon) first (serves_less line) (h.1.week + 1) fails in
          let b : week_start (h.1.week + 1 + 1) ≤ horizon =
          ended_by (CanServe line) (EndedBy horizon) first (serves_less line) (h.1.week + 1) fails in
          record {
            place = h.1.week;
            from = omega arith;
            below = omega arith;
            of = record {
              kind_is = h.0;
              fails = fails;
              moment = h.1.moment;
              since = h.1.since;
              amount = h.1.amount;
            };
          }),
    )) r
