-- The loop over weeks finds those up to which no choice of weeks for the weekly rests can serve (`lacking_weeks`).
use Rattle.std.proofs.Common.{◌≡◌, ℕ, ◌+◌, ◌<◌, ◌≤◌, inl, inr, List, [], ◌∷◌, ◌++◌, refl, sym, subst, arith}
use Rattle.tacho_law.specs.declared.breach.Breach.{Breach}
use Rattle.tacho_law.specs.declared.breach.Kind.TheVariants.{B9}
use Rattle.tacho_law.specs.Line.{Line}
use Rattle.tacho_law.specs.Weeks.{week_start}
use Rattle.tacho_law.specs.Choice.{CanServe}
use Rattle.tacho_law.specs.Anew.{Fails, EndedBy}
use Rattle.tacho_law.specs.SoFar.{AreCollected}
use Rattle.tacho_law.specs.Breaches.{IsLacking}
use Rattle.tacho_law.proofs.AnewLemmas.{IsStart, starts_late, none_at, fails_at}
use Rattle.tacho_law.proofs.LackingWeekLemmas.{serves_less, LackingBelow}
use Rattle.tacho_law.proofs.LackingWeekLemmas.{lacking_none, lacking_skip, lacking_add, lacking_all}
use Rattle.tacho_choice.specs.Weeks.{first_week_of, IsInWeeks}

-- a single week can always be served
pub one_serves : (line : Line) (a : ℕ) → IsInWeeks line → CanServe line a a
one_serves line a is = record {
  week_of = first_week_of;
  choice = λ rest weekly.
      (let some : rest.start < rest.past = weekly.rests.some in
      let late : 5760 < rest.past = is.late rest weekly in
      (omega arith, omega arith));
  each = λ w above below. absurd (omega arith);
}

-- the weeks up to `u` are judged: the rule is kept from `start` up to `u`, and the breaches so far are found
pub record AreJudged (line : Line) (horizon first start u : ℕ) (found : List Breach) : Type 0 where
  pub starts : IsStart (CanServe line) (EndedBy horizon) first (serves_less line) start
  pub within : start ≤ u
  pub serves : CanServe line start u
  pub collected : AreCollected (LackingBelow line horizon first u) found

-- before the second week
pub judged_first : (line : Line) (horizon first start u : ℕ) → start ≡ first → u ≡ first → IsInWeeks line
    → AreJudged line horizon first start u []
judged_first line horizon first start u e f is =
    subst (λ (a : ℕ). AreJudged line horizon first a u []) (sym e)
    (subst (λ (v : ℕ). AreJudged line horizon first first v []) (sym f) (record {
      starts = inl refl;
      within = omega arith;
      serves = one_serves line first is;
      collected = lacking_none line horizon first;
    }))

module _ (line : Line) (horizon first start u : ℕ) (found : List Breach)
    (r : AreJudged line horizon first start u found) where
  from_first : first ≤ u
  from_first =
      let within : start ≤ u = r.within in
      elim r.starts [
        | inl e ↦ omega arith
        | inr h ↦
            let later : first < start =
            starts_late (CanServe line) (EndedBy horizon) first (serves_less line) start h in
            omega arith
      ]

  -- the next week, up to which some choice serves
  pub judged_on : (at next : ℕ) → at ≡ u + 1 → next ≡ u + 1 → CanServe line start at
      → AreJudged line horizon first start next found
  judged_on at next e f serves =
      let more : CanServe line start (u + 1) = subst (CanServe line start) e serves in
      subst (λ (v : ℕ). AreJudged line horizon first start v found) (sym f) (record {
        starts = r.starts;
        within = let within : start ≤ u = r.within in omega arith;
        serves = more;
        collected = lacking_skip line horizon first u from_first found r.collected
            (λ breach h. none_at (CanServe line) (EndedBy horizon) first (serves_less line) start u
            r.starts r.within r.serves more h.fails);
      })

  -- the next week, up to which no choice serves
  pub judged_anew : (at next : ℕ) → at ≡ u + 1 → next ≡ u + 1 → IsInWeeks line → (CanServe line start at → ⊥)
      → week_start (u + 2) ≤ horizon → (new : Breach) → new.kind ≡ B9 → new.moment ≡ week_start (u + 2)
      → new.since ≡ week_start u → new.amount ≡ 0 → AreJudged line horizon first at next (found ++ new ∷ [])
  judged_anew at next e f is none ended new kind moment since amount =
      let fails : Fails (CanServe line) (EndedBy horizon) first (u + 1) =
      fails_at (CanServe line) (EndedBy horizon) first (serves_less line) start u
      r.starts r.within r.serves (omega arith) (λ h. none (subst (CanServe line start) (sym e) h)) in
      subst (λ (a : ℕ). AreJudged line horizon first a next (found ++ new ∷ [])) (sym e)
      (subst (λ (v : ℕ). AreJudged line horizon first (u + 1) v (found ++ new ∷ [])) (sym f) (record {
        starts = inr fails;
        within = omega arith;
        serves = one_serves line (u + 1) is;
        collected = lacking_add line horizon first u from_first found r.collected new
            (record { kind_is = kind; fails = fails; moment = moment; since = since; amount = amount });
      }))

  -- if the week after `u` has not ended by the horizon, all breaches are found
  pub judged_all : (base : ℕ) → base ≡ week_start first → horizon < week_start (u + 2)
      → AreCollected (IsLacking line base horizon) found
  judged_all base monday late = lacking_all line base horizon first u monday late found r.collected
