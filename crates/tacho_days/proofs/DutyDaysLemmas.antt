-- Duty days and the rests that end them, one by one (specs/DutyDays), for the passes over daily rests and daily driving.
use Rattle.std.proofs.Common.{◌≡◌, ℕ, ◌-◌, ◌<◌, ◌≤◌, inl, inr, List, [], ◌∷◌, ◌++◌, refl, sym, ap, subst, ◌∙◌, arith}
use Rattle.std.specs.List.{Contains}
use Rattle.std.proofs.lemmas.List.Elements.{Contains-push, Contains-append_left, Contains-push_cases, All-contains}
use Rattle.tacho_law.specs.declared.run.Run.{Run}
use Rattle.tacho_law.specs.declared.days.DutyDay.{DutyDay}
use Rattle.tacho_law.specs.Line.{Line}
use Rattle.tacho_law.specs.Runs.{IsRestRun, IsRestOf, Before, minutes_of}
use Rattle.tacho_law.specs.SoFar.{Reached}
use Rattle.tacho_law.specs.Days.{IsDuty, EarlierDay}
use Rattle.tacho_days.specs.DutyDays.{day_to, IsLastOf, IsBeforeFirst}

-- a duty day isn't empty, and neither is its rest
pub day_lasts : (line : Line) (day : DutyDay) → IsDuty line day
    → (day.start < day.rest.start) × (day.rest.start < day.rest.past)
day_lasts line day d =
    let before : d.last.past < day.rest.start = d.neighbours.before in
    let starts : day.start ≡ d.last.past = d.start in
    let some : day.rest.start < day.rest.past = d.neighbours.second.rests.some in
    (omega arith, some)

-- no two duty days are before each other
pub never_both : (line : Line) (x y : DutyDay) → IsDuty line x → IsDuty line y → EarlierDay x y → EarlierDay y x → ⊥
never_both line x y d e before after =
    let (s, t) = day_lasts line x d in let (u, v) = day_lasts line y e in omega arith

-- a run of less than nine hours isn't a day's rest
pub none_short : (line : Line) (r : Run) → minutes_of r < 540 → (day : DutyDay) → IsDuty line day → r ≡ day.rest → ⊥
none_short line r short day d same =
    let e : minutes_of r ≡ minutes_of day.rest = ap minutes_of same in
    let f : 540 ≤ minutes_of day.rest = d.neighbours.second.enough in
    omega (arith, e, f)

-- the first rest continues up to a later minute
pub first_on : (least : ℕ) (runs : List Run) (start place q : ℕ) → place < q → IsBeforeFirst least runs start place
    → IsBeforeFirst least runs start q
first_on least runs start place q more f = record {
  none = f.none;
  first = f.first;
  long = (let l : least ≤ place = f.long in omega arith);
}

-- the first rest isn't shorter than required
pub first_long : (least : ℕ) (runs : List Run) (start place : ℕ) → place - start < least
    → IsBeforeFirst least runs start place → ⊥
first_long least runs start place short f =
    let l : least ≤ place = f.long in
    let z : start ≡ 0 = f.first in
    omega (arith, l, z, short)

-- a rest run that starts where the runs that have ended stop
module _ (line : Line) (runs : List Run) (start place : ℕ) (reached : Reached line runs start place)
    (r : Run) (is : IsRestRun line r) (at : r.start ≡ start) where
  -- the runs that have ended are before it
  pub later : (x : Run) → Contains runs x → Before x r
  later x in' =
      let e : x.past < start = All-contains (λ (y : Run). y.past < start) runs x reached.ended in' in omega arith

  -- they are rest runs
  pub rests : (x : Run) → Contains runs x → IsRestRun line x
  rests x in' = All-contains (λ (y : Run). IsRestRun line y) runs x reached.each in'

  -- they are all rest runs before it
  pub seen : (x : Run) → IsRestRun line x → x.start < r.start → Contains runs x
  seen x is' below = reached.all x is' (omega arith)

  -- if the run has `least` minutes, it is the last rest with that many
  pub last_next : (least : ℕ) → least ≤ minutes_of r → IsLastOf least (runs ++ r ∷ []) r.past
  last_next least enough = record {
    run = r;
    among = Contains-push runs r;
    enough = enough;
    ends = refl;
    last = λ x in' long. elim (Contains-push_cases runs r x in') [
      | inl was ↦ inr (later x was)
      | inr same ↦ inl (sym same)
    ];
  }

  -- if it is shorter, the last one stays the same
  pub last_keep : (least ended : ℕ) → minutes_of r < least → IsLastOf least runs ended
      → IsLastOf least (runs ++ r ∷ []) ended
  last_keep least ended short l = record {
    run = l.run;
    among = Contains-append_left runs (r ∷ []) l.run l.among;
    enough = l.enough;
    ends = l.ends;
    last = λ x in' long. elim (Contains-push_cases runs r x in') [
      | inl was ↦ l.last x was long
      | inr same ↦ absurd (let e : minutes_of r ≡ minutes_of x = ap minutes_of same in omega (arith, e))
    ];
  }

  -- the first run isn't a day's rest
  pub none_first : runs ≡ [] → (day : DutyDay) → IsDuty line day → r ≡ day.rest → ⊥
  none_first none day d same =
      let before : d.last.past < day.rest.start = d.neighbours.before in
      let some : d.last.start < d.last.past = d.neighbours.first.rests.some in
      let e : r.start ≡ day.rest.start = ap (λ (x : Run). x.start) same in
      let in' : Contains runs d.last = seen d.last d.neighbours.first.rests (omega arith) in
      let k = subst (λ (xs : List Run). Contains xs d.last) none in' in
      let l : k.0 < 0 = k.1 in
      omega arith

  -- a rest of nine hours or more, after another one
  module _ (enough : 540 ≤ minutes_of r) (from : ℕ) (l : IsLastOf 540 runs from) where
    -- the daily rest before it
    pub last_rest : IsRestOf line 540 l.run
    last_rest = record { rests = rests l.run l.among; enough = l.enough }

    -- the rest ends a duty day
    pub duty_new : IsDuty line (day_to from r)
    duty_new = record {
      last = l.run;
      neighbours = record {
        first = last_rest;
        second = record { rests = is; enough = enough };
        before = later l.run l.among;
        between = λ c is' p q.
            (let some : c.start < c.past = is'.rests.some in
            let lasts : l.run.start < l.run.past = last_rest.rests.some in
            let p' : l.run.past < c.start = p in
            let q' : c.past < r.start = q in
            elim (l.last c (seen c is'.rests (omega arith)) is'.enough) [
              | inl same ↦ (let e : c.start ≡ l.run.start = ap (λ (x : Run). x.start) same in omega arith)
              | inr sooner ↦ (let s : c.past < l.run.start = sooner in omega arith)
            ]);
      };
      start = sym l.ends;
      past = refl;
    }

    -- this day has this start and this end
    pub duty_only : (day : DutyDay) → IsDuty line day → r ≡ day.rest → (day.start ≡ from) × (day.past ≡ r.start)
    duty_only day d same =
        let e : r.start ≡ day.rest.start = ap (λ (x : Run). x.start) same in
        let before : d.last.past < day.rest.start = d.neighbours.before in
        let some : d.last.start < d.last.past = d.neighbours.first.rests.some in
        let past : day.past ≡ day.rest.start = d.past in
        let starts : day.start ≡ d.last.past = d.start in
        let ends : l.run.past ≡ from = l.ends in
        elim (l.last d.last (seen d.last d.neighbours.first.rests (omega arith)) d.neighbours.first.enough) [
          | inl one ↦
              let f : d.last.past ≡ l.run.past = ap (λ (x : Run). x.past) one in
              (omega arith, omega arith)
          | inr sooner ↦ absurd (
              d.neighbours.between l.run last_rest sooner
              (subst (λ (x : Run). Before l.run x) same (later l.run l.among)))
        ]

    -- it is the only day with this rest
    pub day_only : (day : DutyDay) → IsDuty line day → r ≡ day.rest → day_to from r ≡ day
    day_only day d same =
        let (e, f) = duty_only day d same in
        let one : ℕ → DutyDay = λ x. record { start = x; past = r.start; rest = r } in
        let two : ℕ → DutyDay = λ x. record { start = day.start; past = x; rest = r } in
        let three : Run → DutyDay = λ x. record { start = day.start; past = day.past; rest = x } in
        ap one (sym e) ∙ (ap two (sym f) ∙ ap three same)

    -- a day whose rest is an earlier run has ended before
    pub day_before : (day : DutyDay) → IsDuty line day → Contains runs day.rest → day.rest.past ≤ from
    day_before day d in' =
        let ends : l.run.past ≡ from = l.ends in
        let lasts : l.run.start < l.run.past = last_rest.rests.some in
        elim (l.last day.rest in' d.neighbours.second.enough) [
          | inl same ↦ (let e : day.rest.past ≡ l.run.past = ap (λ (x : Run). x.past) same in omega arith)
          | inr sooner ↦ (let s : day.rest.past < l.run.start = sooner in omega arith)
        ]
