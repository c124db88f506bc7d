-- Reduced daily rests that come too often, found one by one as the rests end (specs/RestingDays, specs/DailyRests).
use Rattle.std.proofs.Common.{◌≡◌, ℕ, ◌+◌, ◌<◌, ◌≤◌, ◌⊎◌, ◌&&◌, inl, inr, Bool, true, false, None, Some}
use Rattle.std.proofs.Common.{List, [], ◌∷◌, ◌++◌, refl, sym, ap, subst, ◌∙◌, arith, nat_lt, if◌then◌else◌}
use Rattle.std.specs.Prelude.{◌↔◌, IsTrue}
use Rattle.std.specs.List.{Contains}
use Rattle.std.proofs.lemmas.Bool.Decides.{nat_tests}
use Rattle.std.proofs.lemmas.List.{append-nil}
use Rattle.std.proofs.lemmas.List.Elements.{Contains-push, Contains-append_left, Contains-push_cases}
use Rattle.tacho_law.specs.declared.run.Run.{Run}
use Rattle.tacho_law.specs.declared.days.DutyDay.{DutyDay}
use Rattle.tacho_law.specs.declared.breach.Breach.{Breach}
use Rattle.tacho_law.specs.declared.breach.Kind.TheVariants.{B3}
use Rattle.tacho_law.specs.Exactly.{HasCount}
use Rattle.tacho_law.specs.Line.{Line}
use Rattle.tacho_law.specs.Runs.{IsRestRun, Before, minutes_of}
use Rattle.tacho_law.specs.SoFar.{Reached, AreCollected}
use Rattle.tacho_law.specs.Days.{IsReduced, EarlierDay}
use Rattle.tacho_law.specs.Weeks.{IsWeeklyRest}
use Rattle.tacho_law.specs.Order.{Apart}
use Rattle.tacho_law.proofs.ExactlyLemmas.{exactly_skip, exactly_add, how_many_as, how_many_only}
use Rattle.tacho_law.proofs.OrderLemmas.{same_breach}
use Rattle.tacho_pass.specs.Found.{as_list}
use Rattle.tacho_days.specs.declared.daily_rest.RestingDay.{RestingDay}
use Rattle.tacho_days.specs.DutyDays.{day_to, IsLastOf}
use Rattle.tacho_days.specs.RestingDays.{reduced_of, often_breach, often_of}
use Rattle.tacho_days.specs.DailyRests.{IsReducedSince, IsB3Seen}
use Rattle.tacho_days.proofs.DutyDaysLemmas.{later, rests, seen, day_only, day_lasts, never_both}
use Rattle.tacho_days.proofs.DailyRestsReducedLemmas.{reduced_more}

-- the breach of the day from a minute to a rest
pub record IsOftenTo (line : Line) (from : ℕ) (r : Run) (weekly number : ℕ) (b : Breach) : Type 0 where
  pub kind : b.kind ≡ B3
  pub reduced : IsReduced line (day_to from r)
  pub many : 3 < number + 1
  pub moment : b.moment ≡ r.start
  pub since : b.since ≡ weekly
  pub amount : b.amount + 3 ≡ number + 1

-- the reduced rests after a weekly rest, up to a minute
abbrev pub ReducedUpTo : Line → Run → ℕ → DutyDay → Type 0
ReducedUpTo line weekly to other = IsReduced line other × Before weekly other.rest × (other.rest.start ≤ to)

-- their number is unique
up_to_only : (line : Line) (weekly : Run) (to n m : ℕ) → HasCount (ReducedUpTo line weekly to) EarlierDay n
    → HasCount (ReducedUpTo line weekly to) EarlierDay m → n ≡ m
up_to_only line weekly to n m a b =
    how_many_only (ReducedUpTo line weekly to) EarlierDay
    (λ x y p q. never_both line x y p.0.duty q.0.duty) n m a b

module _ (line : Line) (runs : List Run) (start place : ℕ) (reached : Reached line runs start place)
    (r : Run) (is : IsRestRun line r) (at : r.start ≡ start)
    (all : (x : Run) → IsRestRun line x → x.start ≤ r.start → Contains (runs ++ r ∷ []) x)
    (enough : 540 ≤ minutes_of r) (from : ℕ) (l : IsLastOf 540 runs from)
    (weekly number : ℕ) (w : IsLastOf 1440 runs weekly)
    (n : HasCount (IsReducedSince line runs weekly) EarlierDay number) where
  -- the last weekly rest
  weekly_is : IsWeeklyRest line w.run
  weekly_is = record { rests = rests line runs start place reached r is at w.run w.among; enough = w.enough }

  -- it is before this rest
  weekly_before : Before w.run r
  weekly_before = later line runs start place reached r is at w.run w.among

  -- no weekly rest is between them
  weekly_last : (run : Run) → IsWeeklyRest line run → Before w.run run → Before run r → ⊥
  weekly_last run h after before =
      let some : run.start < run.past = h.rests.some in
      let some' : w.run.start < w.run.past = weekly_is.rests.some in
      let after' : w.run.past < run.start = after in
      let before' : run.past < r.start = before in
      elim (w.last run (seen line runs start place reached r is at run h.rests (omega arith)) h.enough) [
        | inl same ↦ (let e : run.start ≡ w.run.start = ap (λ (x : Run). x.start) same in omega arith)
        | inr sooner ↦ (let s : run.past < w.run.start = sooner in omega arith)
      ]

  -- the number of reduced rests up to this one
  up_to : IsReduced line (day_to from r) → HasCount (ReducedUpTo line w.run r.start) EarlierDay (number + 1)
  up_to new =
      let ends : w.run.past ≡ weekly = w.ends in
      how_many_as (IsReducedSince line (runs ++ r ∷ []) weekly) (ReducedUpTo line w.run r.start) EarlierDay (number + 1)
      (λ day. (
        λ h.
            (let behind : weekly < day.rest.start = h.behind in
            let upto : day.rest.start ≤ r.start =
            elim (Contains-push_cases runs r day.rest h.seen) [
              | inl was ↦ (
                  let before : day.rest.past < r.start =
                  later line runs start place reached r is at day.rest was in
                  let some : day.rest.start < day.rest.past = h.reduced.duty.neighbours.second.rests.some in
                  omega arith)
              | inr same ↦ (let e : r.start ≡ day.rest.start = ap (λ (x : Run). x.start) same in omega arith)
            ] in
            (h.reduced, omega arith, upto)),
        λ h.
            (let before : w.run.past < day.rest.start = h.1 in
            record {
              reduced = h.0;
              seen = all day.rest h.0.duty.neighbours.second.rests h.2;
              behind = omega arith;
            }),
      ))
      (reduced_more line runs start place reached r is at enough from l weekly number w n new)

  -- if a breach is that of this day, its fields are those of this rest
  b3_back : (b : Breach) (h : IsB3Seen line (runs ++ r ∷ []) b) → r ≡ h.is.day.rest
      → IsOftenTo line from r weekly number b
  b3_back b h same =
      let e : day_to from r ≡ h.is.day =
      day_only line runs start place reached r is at enough from l h.is.day h.is.reduced.duty same in
      let s : r.start ≡ h.is.day.rest.start = ap (λ (x : Run). x.start) same in
      let reduced : IsReduced line (day_to from r) = subst (λ (x : DutyDay). IsReduced line x) (sym e) h.is.reduced in
      let some : h.is.weekly.start < h.is.weekly.past = h.is.rest.rests.some in
      let before : h.is.weekly.past < h.is.day.rest.start = h.is.before in
      let in' : Contains runs h.is.weekly =
      seen line runs start place reached r is at h.is.weekly h.is.rest.rests (omega arith) in
      let one : h.is.weekly ≡ w.run = elim (w.last h.is.weekly in' h.is.rest.enough) [
        | inl one ↦ one
        | inr sooner ↦ absurd (
            h.is.last w.run weekly_is sooner (subst (λ (x : Run). Before w.run x) same weekly_before))
      ] in
      let how_many : HasCount (ReducedUpTo line w.run r.start) EarlierDay h.is.ordinal =
      subst (λ (m : ℕ). HasCount (ReducedUpTo line w.run m) EarlierDay h.is.ordinal) (sym s)
      (subst (λ (x : Run). HasCount (ReducedUpTo line x h.is.day.rest.start) EarlierDay h.is.ordinal) one
      h.is.how_many) in
      let ordinal : h.is.ordinal ≡ number + 1 =
      up_to_only line w.run r.start h.is.ordinal (number + 1) how_many (up_to reduced) in
      let many : 3 < h.is.ordinal = h.is.many in
      let moment : b.moment ≡ h.is.day.rest.start = h.is.moment in
      let amount : b.amount + 3 ≡ h.is.ordinal = h.is.amount in
      record {
        kind = h.kind;
        reduced = reduced;
        many = omega arith;
        moment = omega arith;
        since = h.is.since ∙ (ap (λ (x : Run). x.past) one ∙ w.ends);
        amount = omega arith;
      }

  -- the breaches with one more rest
  pub b3_both : (b : Breach)
      → (IsB3Seen line runs b ⊎ IsOftenTo line from r weekly number b) ↔ IsB3Seen line (runs ++ r ∷ []) b
  b3_both b = (
    λ h. elim h [
      | inl old ↦ record {
        kind = old.kind;
        is = old.is;
        seen = Contains-append_left runs (r ∷ []) old.is.day.rest old.seen;
      }
      | inr new ↦ (record {
        kind = new.kind;
        is = record {
          day = day_to from r;
          weekly = w.run;
          ordinal = number + 1;
          reduced = new.reduced;
          rest = weekly_is;
          before = weekly_before;
          last = weekly_last;
          how_many = up_to new.reduced;
          many = new.many;
          moment = new.moment;
          since = new.since ∙ sym w.ends;
          amount = new.amount;
        };
        seen = Contains-push runs r;
      })
    ],
    λ h. elim (Contains-push_cases runs r h.is.day.rest h.seen) [
      | inl was ↦ inl (record { kind = h.kind; is = h.is; seen = was })
      | inr same ↦ inr (b3_back b h same)
    ],
  )

  -- a breach of an earlier rest has an earlier moment
  pub b3_apart : (b : Breach) → IsB3Seen line runs b → b.moment ≡ r.start → ⊥
  b3_apart b h moment =
      let e : b.moment ≡ h.is.day.rest.start = h.is.moment in
      let (lasts, rests') = day_lasts line h.is.day h.is.reduced.duty in
      let before : h.is.day.rest.past < r.start = later line runs start place reached r is at h.is.day.rest h.seen in
      omega arith

-- the breach of the day, if there is one
module _ (P : Breach → Type 0) (found : List Breach) (line : Line) (r : Run) (d : RestingDay)
    (same : IsTrue (reduced_of d.part (day_to d.from r)) ↔ IsReduced line (day_to d.from r)) (t : AreCollected P found)
    (apart : (b : Breach) → P b → b.kind ≡ B3 → b.moment ≡ r.start → ⊥) where
  -- by cases: whether the rest is reduced, and whether the number is above the limit
  often_by : (g h : Bool) → reduced_of d.part (day_to d.from r) ≡ g → nat_lt 3 (d.number + 1) ≡ h
      → AreCollected (λ b. P b ⊎ IsOftenTo line d.from r d.weekly d.number b)
      (found ++ as_list (if g && h then Some (often_breach r d) else None))
  often_by true true e f =
      let new : Breach = often_breach r d in
      let many : 3 < d.number + 1 = grind (arith, nat_tests) in
      exactly_add P (IsOftenTo line d.from r d.weekly d.number) Apart found new t
      (record {
        kind = refl;
        reduced = same.0 e;
        many = many;
        moment = refl;
        since = refl;
        amount = omega arith;
      })
      (λ b h. same_breach new b (sym h.kind) (sym h.moment) (sym h.since)
      (let a : b.amount + 3 ≡ d.number + 1 = h.amount in omega arith))
      (λ b h agree. apart b h agree.kind agree.moment)
  often_by true false e f =
      let few : d.number + 1 ≤ 3 = grind (arith, nat_tests) in
      subst (λ (xs : List Breach). AreCollected (λ b. P b ⊎ IsOftenTo line d.from r d.weekly d.number b) xs)
      (sym (append-nil found))
      (exactly_skip P (IsOftenTo line d.from r d.weekly d.number) Apart found t
      (λ b h. (let many : 3 < d.number + 1 = h.many in omega arith)))
  often_by false h e f =
      subst (λ (xs : List Breach). AreCollected (λ b. P b ⊎ IsOftenTo line d.from r d.weekly d.number b) xs)
      (sym (append-nil found))
      (exactly_skip P (IsOftenTo line d.from r d.weekly d.number) Apart found t
      (λ b k. (let yes' : reduced_of d.part (day_to d.from r) ≡ true = same.1 k.reduced in
      let g : false ≡ true = sym e ∙ yes' in cc)))

  -- as the code computes it
  pub collected_often : AreCollected (λ b. P b ⊎ IsOftenTo line d.from r d.weekly d.number b)
      (found ++ as_list (often_of r d))
  collected_often = often_by (reduced_of d.part (day_to d.from r)) (nat_lt 3 (d.number + 1)) refl refl
