-- Collecting the rests of a week as they are seen, one by one (specs/Weeks, IsWeekOfRests).
use Rattle.std.proofs.Common.{◌≡◌, ℕ, ◌+◌, ◌<◌, ◌≤◌, ◌⊎◌, inl, inr, refl, sym, subst, arith, Bool, true, false}
use Rattle.std.proofs.Common.{List, [], ◌∷◌, ◌&&◌, leb}
use Rattle.std.specs.Prelude.{◌↔◌, not}
use Rattle.std.specs.List.{AllPairs, Contains}
use Rattle.std.proofs.lemmas.Bool.{both_ways, cases_lt, le-leb, leb-true, or_cases, or_left, or_right, and_parts}
use Rattle.std.proofs.lemmas.Bool.{and_from}
use Rattle.tacho_time.specs.declared.span.Activity.TheVariants.{Rest}
use Rattle.tacho_law.specs.declared.run.Run.{Run}
use Rattle.tacho_law.specs.declared.run.TheConstants.{FAR}
use Rattle.tacho_law.specs.Line.{Line}
use Rattle.tacho_law.specs.Limits.{first_week, weekly_rest}
use Rattle.tacho_law.specs.Runs.{AreRestRuns, Before, minutes_of}
use Rattle.tacho_law.specs.Weeks.{week_start, IsWhollyAtRest, IsWeeklyRest}
use Rattle.tacho_law.proofs.CoveringLemmas.{Covers, covered}
use Rattle.tacho_law.proofs.ExactlyLemmas.{contains_head, contains_tail, contains_cases, head_first, tail_order}
use Rattle.tacho_choice.specs.declared.week.WeekOfRests.{WeekOfRests}
use Rattle.tacho_choice.specs.declared.weekly_rests.WeeklyRests.{WeeklyRests}
use Rattle.tacho_choice.specs.Weeks.{first_week_of, last_of, is_regular, AreRestsOfWeek, HasWeek, IsWeekOfRests, week_none}
use Rattle.tacho_choice.specs.Weeks.{week_with}
use Rattle.tacho_choice.specs.Weeks.{IsPairAsked, IsInWeeks}
use Rattle.tacho_choice.proofs.ChoicesLemmas as abstract
use Rattle.tacho_choice.proofs.GatheringLemmas as gathering

-- no week is entirely at rest; this doesn't matter for where rests are
Never : ℕ → Type 0
Never w = ⊥

to_abstract : (S : Run → Type 0) (w : ℕ) (week : WeeklyRests) → AreRestsOfWeek S w week
    → abstract.IsWeek Run S first_week_of last_of is_regular Never w week
to_abstract S w week h =
    record { entering = h.entering; inside = h.inside; starting = h.starting; through = h.through }

from_abstract : (S : Run → Type 0) (w : ℕ) (week : WeeklyRests)
    → abstract.IsWeek Run S first_week_of last_of is_regular Never w week → AreRestsOfWeek S w week
from_abstract S w week h =
    record { entering = h.entering; inside = h.inside; starting = h.starting; through = h.through }

-- a rest that covers all of a week has a minute in it
has_first : (w : ℕ) (rest : Run) → HasWeek w rest → first_week_of rest ≤ w
has_first w rest h = let a : rest.start ≤ week_start w = h.0 in omega arith

has_last : (w : ℕ) (rest : Run) → HasWeek w rest → w ≤ last_of rest
has_last w rest h = let a : week_start (w + 1) ≤ rest.past = h.1 in omega arith

-- the week of no rests
pub seen_none : (S : Run → Type 0) (w : ℕ) → ((rest : Run) → S rest → ⊥) → IsWeekOfRests S w week_none
seen_none S w none = record {
  rests = from_abstract S w week_none.rests (gathering.week_none Run first_week_of last_of is_regular Never S w none);
  whole = (λ e. absurd (let k : false ≡ true = e in cc), λ x. absurd (none x.0 x.1.0));
}

-- sets of rests that agree on the rests with a minute in the week have the same description
pub seen_agree : (S T : Run → Type 0) (w : ℕ) (week : WeekOfRests)
    → ((rest : Run) → first_week_of rest ≤ w → w ≤ last_of rest → S rest ↔ T rest)
    → IsWeekOfRests S w week → IsWeekOfRests T w week
seen_agree S T w week same h = record {
  rests = from_abstract T w week.rests
      (gathering.week_agree Run first_week_of last_of is_regular Never S T w week.rests same (to_abstract S w week.rests
      h.rests));
  whole = (
    λ e. let x = h.whole.0 e in (x.0, ((same x.0 (has_first w x.0 x.1.1) (has_last w x.0 x.1.1)).0 x.1.0, x.1.1)),
    λ x. h.whole.1 (x.0, ((same x.0 (has_first w x.0 x.1.1) (has_last w x.0 x.1.1)).1 x.1.0, x.1.1)),
  );
}

-- the description with one more rest
pub seen_more : (S : Run → Type 0) (w : ℕ) (week : WeekOfRests) (x : Run) → (S x → ⊥) → first_week_of x ≤ last_of x
    → IsWeekOfRests S w week → IsWeekOfRests (λ rest. S rest ⊎ (rest ≡ x)) w (week_with w x week)
seen_more S w week x fresh order h =
    let here : Bool = leb x.start (week_start w) && leb (week_start (w + 1)) x.past in
    record {
      rests = from_abstract (λ rest. S rest ⊎ (rest ≡ x)) w (week_with w x week).rests
          (gathering.week_more Run first_week_of last_of is_regular Never S w week.rests (to_abstract S w week.rests h.rests)
          x fresh order);
      whole = (
        λ e. elim (or_cases week.whole here e) [
          | inl before ↦ let y = h.whole.0 before in (y.0, (inl y.1.0, y.1.1))
          | inr now ↦
              let both = and_parts (leb x.start (week_start w)) (leb (week_start (w + 1)) x.past) now in
              (x, (inr refl, (leb-true x.start (week_start w) both.0, leb-true (week_start (w + 1)) x.past both.1)))
        ],
        λ y. elim y.1.0 [
          | inl before ↦ or_left week.whole here (h.whole.1 (y.0, (before, y.1.1)))
          | inr same ↦
              let has : HasWeek w x = subst (HasWeek w) same y.1.1 in
              or_right week.whole here
              (and_from (leb x.start (week_start w)) (leb (week_start (w + 1)) x.past)
              (le-leb x.start (week_start w) has.0) (le-leb (week_start (w + 1)) x.past has.1))
        ],
      );
    }

-- a weekly rest in a list of runs
IsLongOf : List Run → Run → Type 0
IsLongOf runs rest = Contains runs rest × (weekly_rest ≤ minutes_of rest)

-- the description for a list of runs, taken in order
seen_of : (w : ℕ) (runs : List Run) → AllPairs Before runs → ((x : Run) → Contains runs x → x.start < x.past)
    → (week : WeekOfRests) × IsWeekOfRests (IsLongOf runs) w week
unfolding IsLongOf
seen_of w [] order some = (week_none, seen_none (IsLongOf []) w (λ rest h. let k : h.0.0 < 0 = h.0.1 in omega arith))
seen_of w (x ∷ runs) order some =
    let later = seen_of w runs (tail_order Before x runs order) (λ y h. some y (contains_tail x runs y h)) in
    let lasts : x.start < x.past = some x (contains_head x runs) in
    elim (cases_lt (minutes_of x) weekly_rest) [
      | inl short ↦ (
        later.0,
        seen_agree (IsLongOf runs) (IsLongOf (x ∷ runs)) w later.0
            (λ rest from to. (
              λ h. (contains_tail x runs rest h.0, h.1),
              λ h. elim (contains_cases x runs rest h.0) [
                | inl same ↦ absurd
                    (let l : weekly_rest ≤ minutes_of x = subst (λ (y : Run). weekly_rest ≤ minutes_of y) (sym same) h.1 in omega arith)
                | inr in' ↦ (in', h.1)
              ],
            ))
            later.1,
      )
      | inr long ↦ (
        week_with w x later.0,
        seen_agree (λ rest. IsLongOf runs rest ⊎ (rest ≡ x)) (IsLongOf (x ∷ runs)) w (week_with w x later.0)
            (λ rest from to. (
              λ h. elim h [
                | inl in' ↦ (contains_tail x runs rest in'.0, in'.1)
                | inr same ↦ subst (IsLongOf (x ∷ runs)) (sym same) (contains_head x runs, long)
              ],
              λ h. elim (contains_cases x runs rest h.0) [ inl same ↦ inr (sym same) | inr in' ↦ inl (in', h.1) ],
            ))
            (seen_more (IsLongOf runs) w later.0 x
            (λ h. let l : x.past < x.start = head_first Before x runs x order h.0 in omega arith) (omega arith) later.1),
      )
    ]

-- the description for all weekly rests of a line
pub seen_all : (line : Line) → IsInWeeks line → (w : ℕ)
    → (week : WeekOfRests) × IsWeekOfRests (IsWeeklyRest line) w week
unfolding IsLongOf
seen_all line is w =
    let are : AreRestRuns line is.runs = is.are in
    let week = seen_of w is.runs are.in_order (λ x h. ((are.each x).0 h).some) in (
      week.0,
      seen_agree (IsLongOf is.runs) (IsWeeklyRest line) w week.0
          (λ rest from to. (
            λ h. record { rests = (are.each rest).0 h.0; enough = h.1 },
            λ h. ((are.each rest).1 h.rests, h.enough),
          ))
          week.1,
    )

-- once all weekly rests of a line are seen, it is known whether the week is entirely at rest
pub seen_whole : (line : Line) (w : ℕ) (week : WeekOfRests) → week_start (w + 1) < FAR
    → IsWeekOfRests (IsWeeklyRest line) w week → (week.whole ≡ true) ↔ IsWhollyAtRest line w
seen_whole line w week below h = (
  λ e m within.
      let x = h.whole.0 e in
      let a : x.0.start ≤ week_start w = x.1.1.0 in
      let b : week_start (w + 1) ≤ x.0.past = x.1.1.1 in
      let from : week_start w ≤ m = within.0 in
      let to : m < week_start (w + 1) = within.1 in
      x.1.0.rests.rest m (omega arith) (omega arith),
  λ rest.
      let c : Covers line (week_start w) = covered line (week_start w) (omega arith)
      (rest (week_start w) (omega arith, omega arith)) in
      let from : c.run.start ≤ week_start w = c.from in
      let to : week_start w < c.run.past = c.to in
      let late : week_start (w + 1) ≤ c.run.past = elim (cases_lt c.run.past (week_start (w + 1))) [
        | inr above ↦ above
        | inl early ↦ elim c.rests.until [
          | inl far ↦ omega arith
          | inr busy ↦ absurd (busy (rest c.run.past (omega arith, early)))
        ]
      ] in
      h.whole.1 (c.run, (record { rests = c.rests; enough = omega arith }, (from, late))),
)

-- if a line is at rest until week 0 begins, each of its weekly rests has a minute in some week
pub in_weeks : (line : Line) (runs : List Run) → AreRestRuns line runs → ((m : ℕ) → m ≤ first_week → line m ≡ Rest)
    → IsInWeeks line
in_weeks line runs are resting = record {
  runs = runs;
  are = are;
  late = λ rest is. elim (cases_lt first_week rest.past) [
    | inl late ↦ late
    | inr early ↦ elim is.rests.until [
      | inl far ↦ absurd (omega arith)
      | inr busy ↦ absurd (busy (resting rest.past early))
    ]
  ];
}

-- something is required of two weeks unless one of them is entirely at rest
pub asks_is : (line : Line) (u : ℕ) (rested whole : Bool)
    → (rested ≡ true) ↔ IsWhollyAtRest line u → (whole ≡ true) ↔ IsWhollyAtRest line (u + 1)
    → IsPairAsked line u (not rested && not whole)
asks_is line u true whole f g = (λ e. absurd (let k : false ≡ true = e in cc), λ e. inl (f.0 refl))
asks_is line u false true f g = (λ e. absurd (let k : false ≡ true = e in cc), λ e. inr (g.0 refl))
asks_is line u false false f g = (
  λ e. ((λ w. both_ways false refl (f.1 w)), λ w. both_ways false refl (g.1 w)),
  λ e. absurd (let k : true ≡ false = e in cc),
)
