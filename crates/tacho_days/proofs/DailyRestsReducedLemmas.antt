-- Regular and reduced daily rests, given whether there is a first part within the day (specs/RestingDays, specs/DailyRests).
use Rattle.std.proofs.Common.{◌≡◌, ℕ, ◌+◌, ◌<◌, ◌≤◌, ◌⊎◌, ◌&&◌, ◌||◌, inl, inr, Bool, true, false, not}
use Rattle.std.proofs.Common.{List, [], ◌∷◌, ◌++◌, min, length, length-append, refl, ap, subst, arith, nat_le, nat_lt}
use Rattle.std.specs.Prelude.{◌↔◌, IsTrue}
use Rattle.std.proofs.lemmas.Bool.Decides.{nat_tests}
use Rattle.std.proofs.lemmas.List.Elements.{Contains-push, Contains-append_left, Contains-push_cases}
use Rattle.tacho_law.specs.declared.run.Run.{Run}
use Rattle.tacho_law.specs.declared.days.DutyDay.{DutyDay}
use Rattle.tacho_law.specs.Exactly.{HasCount}
use Rattle.tacho_law.specs.Line.{Line}
use Rattle.tacho_law.specs.Runs.{IsRestRun, minutes_of}
use Rattle.tacho_law.specs.SoFar.{Reached}
use Rattle.tacho_law.specs.Days.{IsRegular, IsReduced, HasPortion, EarlierDay}
use Rattle.tacho_law.proofs.ExactlyLemmas.{exactly_none, exactly_add, how_many_as}
use Rattle.tacho_days.specs.DutyDays.{day_to, IsLastOf}
use Rattle.tacho_days.specs.RestingDays.{portion_of, regular_of, reduced_of}
use Rattle.tacho_days.specs.DailyRests.{HasPart, IsReducedSince}
use Rattle.tacho_days.proofs.DutyDaysLemmas.{later, rests, seen, duty_new, day_only, day_before}

-- if the test passes, the rest has the portion
pub portion_yes : (day : DutyDay) (n : ℕ) → portion_of day n ≡ true → HasPortion day n
portion_yes day n e = grind (arith, nat_tests)

-- if the test fails, it doesn't
pub portion_no : (day : DutyDay) (n : ℕ) → portion_of day n ≡ false → HasPortion day n → ⊥
portion_no day n e h =
    let f : min day.rest.past (day.start + 1440) < day.past + n = grind (arith, nat_tests) in omega arith

-- with one more thing, the number is one higher
so_many_add : {A : Type 0} (P Q : A → Type 0) (R : A → A → Type 0) (n : ℕ) (new : A) → HasCount P R n
    → Q new → ((x : A) → Q x → new ≡ x) → ((x : A) → P x → R x new) → HasCount (λ x. P x ⊎ Q x) R (n + 1)
so_many_add P Q R n new a is one later' = record {
  all = a.all ++ new ∷ [];
  exactly = exactly_add P Q R a.all new a.exactly is one later';
  count = let m : length a.all ≡ n = a.count in omega (arith, length-append a.all (new ∷ []));
}

-- without any, the number is 0
so_many_none : {A : Type 0} (P : A → Type 0) (R : A → A → Type 0) → ((x : A) → P x → ⊥) → HasCount P R 0
so_many_none P R none = record { all = []; exactly = exactly_none P R none; count = refl }

-- no reduced rest among no runs
pub reduced_none : (line : Line) (since : ℕ) → HasCount (IsReducedSince line [] since) EarlierDay 0
reduced_none line since =
    so_many_none (IsReducedSince line [] since) EarlierDay (λ day h. (let k : h.seen.0 < 0 = h.seen.1 in omega arith))

module _ (line : Line) (runs : List Run) (start place : ℕ) (reached : Reached line runs start place)
    (r : Run) (is : IsRestRun line r) (at : r.start ≡ start) where
  -- no rest of three hours is after this run yet
  pub part_none : HasPart (runs ++ r ∷ []) r.past → ⊥
  part_none h =
      let some : r.start < r.past = is.some in
      let behind : r.past ≤ h.part.start = h.behind in
      elim (Contains-push_cases runs r h.part h.among) [
        | inl was ↦
            let before : h.part.past < r.start = later line runs start place reached r is at h.part was in
            let some' : h.part.start < h.part.past = (rests line runs start place reached r is at h.part was).some in
            omega arith
        | inr same ↦ let e : r.start ≡ h.part.start = ap (λ (x : Run). x.start) same in omega arith
      ]

  -- by cases: whether this run is such a rest
  part_by : (from : ℕ) → from ≤ start → (p b : Bool) → nat_le 180 (minutes_of r) ≡ b
      → (IsTrue p ↔ HasPart runs from) → IsTrue (p || b) ↔ HasPart (runs ++ r ∷ []) from
  part_by from le true b e same = (
    λ h. let old : HasPart runs from = same.0 refl in
        record {
          part = old.part;
          among = Contains-append_left runs (r ∷ []) old.part old.among;
          enough = old.enough;
          behind = old.behind;
        },
    λ h. refl,
  )
  part_by from le false true e same = (
    λ h. record {
      part = r;
      among = Contains-push runs r;
      enough = (let k : 180 ≤ minutes_of r = grind (arith, nat_tests) in k);
      behind = omega arith;
    },
    λ h. refl,
  )
  part_by from le false false e same = (
    λ h. absurd (let f : false ≡ true = h in cc),
    λ h. elim (Contains-push_cases runs r h.part h.among) [
      | inl was ↦ same.1 (record { part = h.part; among = was; enough = h.enough; behind = h.behind })
      | inr one ↦ absurd (
          let short : minutes_of r < 180 = grind (arith, nat_tests) in
          let f : minutes_of r ≡ minutes_of h.part = ap minutes_of one in
          let g : 180 ≤ minutes_of h.part = h.enough in
          omega (arith, short, f, g))
    ],
  )

  -- as the code computes it
  pub part_more : (from : ℕ) (p : Bool) → from ≤ start → (IsTrue p ↔ HasPart runs from)
      → IsTrue (p || nat_le 180 (minutes_of r)) ↔ HasPart (runs ++ r ∷ []) from
  part_more from p le same = part_by from le p (nat_le 180 (minutes_of r)) refl same

  -- after the last run, there is no reduced rest yet
  pub reduced_after : HasCount (IsReducedSince line (runs ++ r ∷ []) r.past) EarlierDay 0
  reduced_after =
      so_many_none (IsReducedSince line (runs ++ r ∷ []) r.past) EarlierDay
      (λ day h.
      (let some : r.start < r.past = is.some in
      let behind : r.past < day.rest.start = h.behind in
      let some' : day.rest.start < day.rest.past = h.reduced.duty.neighbours.second.rests.some in
      elim (Contains-push_cases runs r day.rest h.seen) [
        | inl was ↦
            let before : day.rest.past < r.start = later line runs start place reached r is at day.rest was in
            omega arith
        | inr same ↦ let e : r.start ≡ day.rest.start = ap (λ (x : Run). x.start) same in omega arith
      ]))

  -- a run that isn't a reduced rest changes nothing
  pub reduced_keep : (since number : ℕ) → ((day : DutyDay) → r ≡ day.rest → IsReduced line day → ⊥)
      → HasCount (IsReducedSince line runs since) EarlierDay number
      → HasCount (IsReducedSince line (runs ++ r ∷ []) since) EarlierDay number
  reduced_keep since number none n =
      how_many_as (IsReducedSince line runs since) (IsReducedSince line (runs ++ r ∷ []) since) EarlierDay number
      (λ day. (
        λ h. record {
          reduced = h.reduced;
          seen = Contains-append_left runs (r ∷ []) day.rest h.seen;
          behind = h.behind;
        },
        λ h. elim (Contains-push_cases runs r day.rest h.seen) [
          | inl was ↦ record { reduced = h.reduced; seen = was; behind = h.behind }
          | inr same ↦ absurd (none day same h.reduced)
        ],
      ))
      n

  module _ (enough : 540 ≤ minutes_of r) (from : ℕ) (l : IsLastOf 540 runs from) where
    -- the day's rest is regular, given whether there is a first part
    regular_by : (a b p : Bool) → portion_of (day_to from r) 660 ≡ a → portion_of (day_to from r) 540 ≡ b
        → (IsTrue p ↔ HasPart runs from) → IsTrue (a || (b && p)) ↔ IsRegular line (day_to from r)
    regular_by true b p e f same = (λ h. inl (portion_yes (day_to from r) 660 e), λ h. refl)
    regular_by false true true e f same = (
      λ h.
          (let had : HasPart runs from = same.0 refl in
          let before : had.part.past < r.start = later line runs start place reached r is at had.part had.among in
          inr (
            portion_yes (day_to from r) 540 f,
            (
              had.part,
              record {
                rests = rests line runs start place reached r is at had.part had.among;
                enough = had.enough;
              },
              had.behind,
              omega arith,
            ),
          )),
      λ h. refl,
    )
    regular_by false true false e f same = (
      λ h. absurd (let g : false ≡ true = h in cc),
      λ h. elim h [
        | inl long ↦ absurd (portion_no (day_to from r) 660 e long)
        | inr two ↦ (
            let (part, rest, behind, ended) = two.1 in
            let some : part.start < part.past = rest.rests.some in
            let ended' : part.past ≤ r.start = ended in
            same.1 (record {
              part = part;
              among = seen line runs start place reached r is at part rest.rests (omega arith);
              enough = rest.enough;
              behind = behind;
            }))
      ],
    )
    regular_by false false p e f same = (
      λ h. absurd (let g : false ≡ true = h in cc),
      λ h. elim h [
        | inl long ↦ absurd (portion_no (day_to from r) 660 e long)
        | inr two ↦ absurd (portion_no (day_to from r) 540 f two.0)
      ],
    )

    -- the day's rest is reduced
    reduced_by : (p a b c : Bool) → regular_of p (day_to from r) ≡ a → portion_of (day_to from r) 540 ≡ b
        → nat_lt (minutes_of r) 1440 ≡ c → (IsTrue a ↔ IsRegular line (day_to from r))
        → IsTrue (not a && (b && c)) ↔ IsReduced line (day_to from r)
    reduced_by p true b c e f g same = (
      λ h. absurd (let k : false ≡ true = h in cc),
      λ h. absurd (h.irregular (same.0 refl)),
    )
    reduced_by p false true true e f g same = (
      λ h. record {
        duty = duty_new line runs start place reached r is at enough from l;
        portion = portion_yes (day_to from r) 540 f;
        irregular = λ regular. (let k : false ≡ true = same.1 regular in cc);
        short = (let k : minutes_of r < 1440 = grind (arith, nat_tests) in k);
      },
      λ h. refl,
    )
    reduced_by p false true false e f g same = (
      λ h. absurd (let k : false ≡ true = h in cc),
      λ h. absurd (
          let k : 1440 ≤ minutes_of r = grind (arith, nat_tests) in
          let s : minutes_of r < 1440 = h.short in
          omega (arith, k, s)),
    )
    reduced_by p false false c e f g same = (
      λ h. absurd (let k : false ≡ true = h in cc),
      λ h. absurd (portion_no (day_to from r) 540 f h.portion),
    )

    -- as the code computes it
    pub reduced_is : (p : Bool) → (IsTrue p ↔ HasPart runs from)
        → IsTrue (reduced_of p (day_to from r)) ↔ IsReduced line (day_to from r)
    reduced_is p same =
        reduced_by p (regular_of p (day_to from r)) (portion_of (day_to from r) 540) (nat_lt (minutes_of r) 1440)
        refl refl refl
        (regular_by (portion_of (day_to from r) 660) (portion_of (day_to from r) 540) p refl refl same)

    module _ (since number : ℕ) (w : IsLastOf 1440 runs since)
        (n : HasCount (IsReducedSince line runs since) EarlierDay number) where
      -- the reduced rests with one more
      reduced_both : IsReduced line (day_to from r) → (day : DutyDay)
          → (IsReducedSince line runs since day ⊎ (day_to from r ≡ day))
          ↔ IsReducedSince line (runs ++ r ∷ []) since day
      reduced_both new day = (
        λ h. elim h [
          | inl old ↦ record {
            reduced = old.reduced;
            seen = Contains-append_left runs (r ∷ []) day.rest old.seen;
            behind = old.behind;
          }
          | inr same ↦
              let before : w.run.past < r.start = later line runs start place reached r is at w.run w.among in
              let ends : w.run.past ≡ since = w.ends in
              subst (λ (x : DutyDay). IsReducedSince line (runs ++ r ∷ []) since x) same
              (record { reduced = new; seen = Contains-push runs r; behind = omega arith })
        ],
        λ h. elim (Contains-push_cases runs r day.rest h.seen) [
          | inl was ↦ inl (record { reduced = h.reduced; seen = was; behind = h.behind })
          | inr same ↦ inr (day_only line runs start place reached r is at enough from l day h.reduced.duty same)
        ],
      )

      -- the number with one more reduced rest
      pub reduced_more : IsReduced line (day_to from r)
          → HasCount (IsReducedSince line (runs ++ r ∷ []) since) EarlierDay (number + 1)
      reduced_more new =
          how_many_as (λ day. IsReducedSince line runs since day ⊎ (day_to from r ≡ day))
          (IsReducedSince line (runs ++ r ∷ []) since) EarlierDay (number + 1) (reduced_both new)
          (so_many_add (IsReducedSince line runs since) (λ day. day_to from r ≡ day) EarlierDay number
          (day_to from r) n refl (λ day same. same)
          (λ day h.
          day_before line runs start place reached r is at enough from l day h.reduced.duty h.seen))
