-- What docs/RULES.md says about its examples, proved from the definitions. With another value in an example, this file is rejected.
use Rattle.std.proofs.Common.{◌≡◌, ℕ, ◌+◌, ◌-◌, ◌*◌, ◌≤◌, ◌⊎◌, inl, inr, zero}
use Rattle.std.proofs.Common.{suc, [], ◌∷◌, Some, refl, ap, subst, arith}
use Rattle.std.specs.List.{Contains}
use Rattle.tacho_law.specs.declared.run.Run.{Run}
use Rattle.tacho_law.specs.declared.run.TheConstants.{FAR}
use Rattle.tacho_law.specs.declared.days.DutyDay.{DutyDay}
use Rattle.tacho_law.specs.declared.debt.Debt.{Debt}
use Rattle.tacho_law.specs.declared.breach.Kind.TheVariants.{B9, B10}
use Rattle.tacho_law.specs.Runs.{Before, minutes_of}
use Rattle.tacho_law.specs.Breaks.{Completes}
use Rattle.tacho_law.specs.Days.{HasPortion, HasRegularRest, HasReducedRest}
use Rattle.tacho_law.specs.Weeks.{week_start, IsInWeek, Touches}
use Rattle.tacho_law.specs.Debts.{minutes_before, share, paid_from}
use Rattle.tacho_law.specs.Order.{place_of_kind, Earlier}

-- minute n of a day of March 2024, counted from Monday the 4th; day 32 is 1 April
abbrev pub at : ℕ → ℕ → ℕ
at day minute = 28491840 + 1440 * (day - 4) + minute

-- a run from one minute to another
abbrev pub rest_between : ℕ → ℕ → Run
rest_between start past = record { start = start; past = past }

-- the member of a list of one; below, those of a list of three
pub one_member : {X : Type 0} (a x : X) → Contains (a ∷ []) x → a ≡ x
one_member a x (zero, within, e) = e
one_member a x (suc k, within, e) = absurd (omega arith)

three_members : {X : Type 0} (a b c x : X) → Contains (a ∷ b ∷ c ∷ []) x → (a ≡ x) ⊎ ((b ≡ x) ⊎ (c ≡ x))
three_members a b c x (zero, within, e) = inl e
three_members a b c x (suc zero, within, e) = inr (inl e)
three_members a b c x (suc (suc zero), within, e) = inr (inr e)
three_members a b c x (suc (suc (suc k)), within, e) = absurd (omega arith)

-- ---- weeks

-- 4 March is the first day of week 2826
pub base_starts_its_week : week_start 2826 ≡ at 4 0
base_starts_its_week = refl

-- a week ends on Sunday at 24:00
pub sunday_is_in_the_week : IsInWeek 2826 (at 10 1439)
sunday_is_in_the_week = (omega arith, omega arith)

pub monday_is_in_the_next : ¬ (IsInWeek 2826 (at 11 0))
monday_is_in_the_next (from, before) = omega arith

-- a debt of that week has to be paid by 1 April 00:00
pub deadline_is_in_april : week_start (2826 + 4) ≡ at 32 0
deadline_is_in_april = refl

-- ---- breaks

-- the rest that ends at 06:00
abbrev pub night : Run
night = rest_between 0 (at 4 360)

-- 15 minutes from 08:00 and then 30 from 10:45 are a break
pub fifteen_then_thirty : Completes
    (night ∷ rest_between (at 4 480) (at 4 495) ∷ rest_between (at 4 645) (at 4 675) ∷ [])
    (night ∷ []) (rest_between (at 4 645) (at 4 675))
fifteen_then_thirty = inr (
  omega arith,
  record {
    part = rest_between (at 4 480) (at 4 495);
    among = (1, omega arith, refl);
    enough = omega arith;
    before = omega arith;
    after = λ b among before.
        subst (λ (run : Run). Before run (rest_between (at 4 480) (at 4 495))) (one_member night b among) (omega arith);
  },
)

-- 30 minutes from 08:00 and then 15 from 11:00 are no break: the 30 minutes have no first part before them
pub thirty_at_first : ¬ (Completes
    (night ∷ rest_between (at 4 480) (at 4 510) ∷ rest_between (at 4 660) (at 4 675) ∷ [])
    (night ∷ []) (rest_between (at 4 480) (at 4 510)))
thirty_at_first (inl long) = omega arith
thirty_at_first (inr (enough, first)) =
    let before : Before first.part (rest_between (at 4 480) (at 4 510)) = first.before in
    elim (three_members night (rest_between (at 4 480) (at 4 510))
    (rest_between (at 4 660) (at 4 675)) first.part first.among) [
      | inl is ↦
          let after : Before night first.part = first.after night (0, omega arith, refl) (omega arith) in
          let e : night.past ≡ first.part.past = ap (λ (run : Run). run.past) is in
          let some : 15 ≤ minutes_of first.part = first.enough in
          omega arith
      | inr (inl is) ↦ let e : at 4 510 ≡ first.part.past = ap (λ (run : Run). run.past) is in omega arith
      | inr (inr is) ↦ let e : at 4 675 ≡ first.part.past = ap (λ (run : Run). run.past) is in omega arith
    ]

-- and the 15 minutes are too short
pub then_fifteen : ¬ (Completes (night ∷ rest_between (at 4 480) (at 4 510) ∷ rest_between (at 4 660) (at 4 675) ∷ [])
    (night ∷ []) (rest_between (at 4 660) (at 4 675)))
then_fifteen (inl long) = omega arith
then_fifteen (inr (enough, first)) = omega arith

-- ---- days

-- work from 06:00 to minute `end` of the 4th, and work again from minute `next` of the 5th
abbrev pub day_to : ℕ → ℕ → DutyDay
day_to end next = record { start = at 4 360; past = at 4 end; rest = rest_between (at 4 end) (at 5 next) }

-- work until 19:00, and again from 07:00: a portion of 660 minutes
pub portion_from_19 : HasPortion (day_to 1140 420) 660 × ¬ (HasPortion (day_to 1140 420) 661)
portion_from_19 = (omega arith, λ more. omega arith)

-- this is a regular rest
pub regular_from_19 : HasRegularRest [] (day_to 1140 420)
regular_from_19 = inl (omega arith)

-- work until 21:00: a portion of 540 minutes
pub portion_from_21 : HasPortion (day_to 1260 420) 540 × ¬ (HasPortion (day_to 1260 420) 541)
portion_from_21 = (omega arith, λ more. omega arith)

-- this is a reduced rest
pub reduced_from_21 : HasReducedRest [] (day_to 1260 420)
reduced_from_21 = record {
  portion = omega arith;
  irregular = λ regular. elim regular [
    | inl long ↦ omega arith
    | inr two ↦ let (part, (k, within, e), from, to) = two.1 in omega arith
  ];
  short = omega arith;
}

-- with a rest from 12:00 to 15:00, it is a regular rest
pub regular_in_two : HasRegularRest (rest_between (at 4 720) (at 4 900) ∷ []) (day_to 1260 420)
regular_in_two =
    inr (omega arith, (rest_between (at 4 720) (at 4 900), (0, omega arith, refl), omega arith, omega arith))

-- ---- weekly rests: the month in docs/RULES.md

-- the last run, from 31 March 17:00 on, has 420 minutes before the horizon
pub last_run_has_420 : minutes_before (at 32 0) (rest_between (at 31 1020) FAR) ≡ 420
last_run_has_420 = refl

-- it counts as a regular weekly rest
pub last_run_is_long : 2700 ≤ minutes_of (rest_between (at 31 1020) FAR)
last_run_is_long = omega arith

-- the debt of the first week, which the rest from 15 March 18:00 pays
abbrev pub first_debt : Debt
first_debt = record { week = 2826; amount = 900; deadline = at 32 0; paid_by = Some (at 15 1080) }

abbrev pub payer : Run
payer = rest_between (at 15 1080) (at 18 360)

pub payer_pays_900 : share payer first_debt ≡ 900
payer_pays_900 = refl

pub payer_pays_900_of_all : paid_from payer (first_debt ∷ []) ≡ 900
payer_pays_900_of_all = refl

-- another rest pays nothing of this debt
pub other_pays_nothing : share (rest_between (at 26 720) (at 27 960)) first_debt ≡ 0
other_pays_nothing = refl

-- the payer keeps 2700 minutes, and has room for exactly this debt
pub room_is_the_debt : 2700 + first_debt.amount ≡ minutes_before first_debt.deadline payer
room_is_the_debt = refl

-- the payer has minutes in the second and third weeks, and none in the fourth
pub payer_touches_two_weeks : Touches payer 2827 × Touches payer 2828 × ¬ (Touches payer 2829)
payer_touches_two_weeks = ((omega arith, omega arith), (omega arith, omega arith), λ (from, to). omega arith)

-- ---- the order of breaches

-- B10 is the tenth kind, after B9
pub kinds_have_places : (place_of_kind B9 ≡ 9) × (place_of_kind B10 ≡ 10)
kinds_have_places = (refl, refl)

-- so B9 comes before B10 at the same moment
pub pairs_before_debts : Earlier (record { kind = B9; moment = at 32 0; since = at 18 0; amount = 0 })
    (record { kind = B10; moment = at 32 0; since = at 4 0; amount = 1260 })
pairs_before_debts = inr (refl, inl (omega arith))
