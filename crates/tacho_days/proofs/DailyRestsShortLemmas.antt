-- Daily rests that are too short, found one by one as the rests end (specs/RestingDays, specs/DailyRests).
use Rattle.std.proofs.Common.{◌≡◌, ℕ, ◌+◌, ◌<◌, ◌≤◌, ◌⊎◌, inl, inr, Bool, true, false, None, Some, List, []}
use Rattle.std.proofs.Common.{◌∷◌, ◌++◌, min, refl, sym, ap, subst, arith, if◌then◌else◌}
use Rattle.std.specs.Prelude.{◌↔◌}
use Rattle.std.proofs.lemmas.Bool.Decides.{nat_tests}
use Rattle.std.proofs.lemmas.List.{append-nil}
use Rattle.std.proofs.lemmas.List.Elements.{Contains-push, Contains-append_left, Contains-push_cases}
use Rattle.tacho_law.specs.declared.run.Run.{Run}
use Rattle.tacho_law.specs.declared.breach.Breach.{Breach}
use Rattle.tacho_law.specs.declared.breach.Kind.TheVariants.{B2}
use Rattle.tacho_law.specs.Line.{Line}
use Rattle.tacho_law.specs.Runs.{IsRestRun, minutes_of}
use Rattle.tacho_law.specs.SoFar.{Reached, AreCollected}
use Rattle.tacho_law.specs.Days.{HasPortion}
use Rattle.tacho_law.specs.Order.{Apart}
use Rattle.tacho_law.proofs.ExactlyLemmas.{exactly_skip, exactly_add}
use Rattle.tacho_law.proofs.OrderLemmas.{same_breach}
use Rattle.tacho_pass.specs.Found.{as_list}
use Rattle.tacho_days.specs.DutyDays.{day_to, IsLastOf}
use Rattle.tacho_days.specs.RestingDays.{portion_of, short_breach, short_of}
use Rattle.tacho_days.specs.DailyRests.{IsB2Seen}
use Rattle.tacho_days.proofs.DutyDaysLemmas.{duty_new, duty_only, day_before, day_lasts}
use Rattle.tacho_days.proofs.DailyRestsReducedLemmas.{portion_yes, portion_no}

-- the breach of the day from a minute to a rest
pub record IsShortTo (from : ℕ) (r : Run) (b : Breach) : Type 0 where
  pub kind : b.kind ≡ B2
  pub short : ¬ (HasPortion (day_to from r) 540)
  pub moment : b.moment ≡ from + 900
  pub since : b.since ≡ from
  pub amount : b.amount + min r.past (from + 1440) ≡ 540 + r.start

module _ (line : Line) (runs : List Run) (start place : ℕ) (reached : Reached line runs start place)
    (r : Run) (is : IsRestRun line r) (at : r.start ≡ start)
    (enough : 540 ≤ minutes_of r) (from : ℕ) (l : IsLastOf 540 runs from) where
  -- the breaches with one more rest
  pub b2_both : (b : Breach) → (IsB2Seen line runs b ⊎ IsShortTo from r b) ↔ IsB2Seen line (runs ++ r ∷ []) b
  b2_both b = (
    λ h. elim h [
      | inl old ↦ record {
        kind = old.kind;
        is = old.is;
        seen = Contains-append_left runs (r ∷ []) old.is.day.rest old.seen;
      }
      | inr new ↦ record {
        kind = new.kind;
        is = record {
          day = day_to from r;
          duty = duty_new line runs start place reached r is at enough from l;
          short = new.short;
          moment = new.moment;
          since = new.since;
          amount = new.amount;
        };
        seen = Contains-push runs r;
      }
    ],
    λ h. elim (Contains-push_cases runs r h.is.day.rest h.seen) [
      | inl was ↦ inl (record { kind = h.kind; is = h.is; seen = was })
      | inr same ↦
          let only = duty_only line runs start place reached r is at enough from l h.is.day h.is.duty same in
          let e : h.is.day.start ≡ from = only.0 in
          let f : h.is.day.past ≡ r.start = only.1 in
          let g : h.is.day.rest.past ≡ r.past = sym (ap (λ (x : Run). x.past) same) in
          let short : ¬ (HasPortion h.is.day 540) = h.is.short in
          let moment : b.moment ≡ h.is.day.start + 900 = h.is.moment in
          let since : b.since ≡ h.is.day.start = h.is.since in
          let amount : b.amount + min h.is.day.rest.past (h.is.day.start + 1440) ≡ 540 + h.is.day.past =
          h.is.amount in
          inr (record {
            kind = h.kind;
            short = λ p. short (rw (e, f, g) p);
            moment = omega arith;
            since = omega arith;
            amount = omega arith;
          })
    ],
  )

  -- the breach of an earlier day has an earlier start
  pub b2_apart : (b : Breach) → IsB2Seen line runs b → b.since ≡ from → ⊥
  b2_apart b h since =
      let e : b.since ≡ h.is.day.start = h.is.since in
      let (lasts, rests) = day_lasts line h.is.day h.is.duty in
      let before : h.is.day.rest.past ≤ from =
      day_before line runs start place reached r is at enough from l h.is.day h.is.duty h.seen in
      omega arith

-- the breach of the day, if there is one
module _ (P : Breach → Type 0) (found : List Breach) (from : ℕ) (r : Run) (t : AreCollected P found)
    (apart : (b : Breach) → P b → b.kind ≡ B2 → b.since ≡ from → ⊥) where
  -- by cases: whether the rest has its portion
  short_by : (g : Bool) → portion_of (day_to from r) 540 ≡ g
      → AreCollected (λ b. P b ⊎ IsShortTo from r b)
      (found ++ as_list (if g then None else Some (short_breach (day_to from r))))
  short_by false e =
      let new : Breach = short_breach (day_to from r) in
      let lt : min r.past (from + 1440) < r.start + 540 = grind (arith, nat_tests) in
      exactly_add P (IsShortTo from r) Apart found new t
      (record {
        kind = refl;
        short = portion_no (day_to from r) 540 e;
        moment = refl;
        since = refl;
        amount = omega arith;
      })
      (λ b h. same_breach new b (sym h.kind) (sym h.moment) (sym h.since)
      (let a : b.amount + min r.past (from + 1440) ≡ 540 + r.start = h.amount in omega arith))
      (λ b h agree. apart b h agree.kind agree.since)
  short_by true e =
      subst (λ (xs : List Breach). AreCollected (λ b. P b ⊎ IsShortTo from r b) xs) (sym (append-nil found))
      (exactly_skip P (IsShortTo from r) Apart found t (λ b h. h.short (portion_yes (day_to from r) 540 e)))

  -- as the code computes it
  pub collected_short : AreCollected (λ b. P b ⊎ IsShortTo from r b) (found ++ as_list (short_of (day_to from r)))
  collected_short = short_by (portion_of (day_to from r) 540) refl
