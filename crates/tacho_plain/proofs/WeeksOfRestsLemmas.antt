-- A week is built from the weekly rests that touch it, one by one (`week_of_rests`); weeks follow one another.
use Rattle.std.proofs.Common.{◌≡◌, ℕ, ◌+◌, ◌<◌, ◌≤◌, ◌⊎◌, inl, inr, List, [], ◌∷◌, ◌++◌}
use Rattle.std.proofs.Common.{length, get_or, take, sym, subst, arith}
use Rattle.std.specs.Prelude.{◌↔◌}
use Rattle.std.specs.List.{AllPairs, Contains}
use Rattle.std.proofs.lemmas.Bool.{cases_lt}
use Rattle.std.proofs.lemmas.List.{take_more, take_all, length-append, get_or_append_left, get_or_push}
use Rattle.std.proofs.lemmas.List.Elements.{Contains-get_or, Contains-push, Contains-append_left, Contains-push_cases}
use Rattle.tacho_law.specs.declared.run.Run.{Run}
use Rattle.tacho_law.specs.Line.{Line}
use Rattle.tacho_law.specs.Runs.{Before, AreRestsOf}
use Rattle.tacho_law.specs.Weeks.{week_start, IsWeeklyRest}
use Rattle.tacho_choice.specs.declared.week.WeekOfRests.{WeekOfRests}
use Rattle.tacho_choice.specs.Weeks.{IsInWeeks, IsWeekOfRests, week_none, week_with}
use Rattle.tacho_choice.proofs.SeenLemmas.{seen_none, seen_more, seen_agree}
use Rattle.tacho_plain.specs.Choices.{AreWeeksOf}
use Rattle.tacho_periods.proofs.KeptLemmas.{seen_before}
use Rattle.tacho_periods.proofs.RunsLemmas.{no_run}

module _ (rests : List Run) (w : ℕ) where
  -- the week, from the first n rests
  abbrev pub SeenWeek : ℕ → WeekOfRests → Type 0
  SeenWeek n week = IsWeekOfRests (λ rest. Contains (take n rests) rest) w week

  -- from no rest
  pub seen_week_none : SeenWeek 0 week_none
  seen_week_none = seen_none (λ rest. Contains (take 0 rests) rest) w (λ rest (k, within, is). omega arith)

  -- from one rest more
  module _ (i : ℕ) (within : i < length rests) where
    one_more : (rest : Run) → (Contains (take i rests) rest ⊎ (rest ≡ get_or rests i no_run))
        ↔ Contains (take (i + 1) rests) rest
    one_more rest = rw (take_more rests i no_run within) (
      λ h. elim h [
        | inl old ↦ Contains-append_left (take i rests) (get_or rests i no_run ∷ []) rest old
        | inr same ↦
            subst (λ (x : Run). Contains (take i rests ++ get_or rests i no_run ∷ []) x)
            (sym same) (Contains-push (take i rests) (get_or rests i no_run))
      ],
      λ h. elim (Contains-push_cases (take i rests) (get_or rests i no_run) rest h) [
        | inl old ↦ inl old
        | inr same ↦ inr (sym same)
      ],
    )

    pub seen_week_more : (week : WeekOfRests) → AllPairs Before rests
        → ((rest : Run) → Contains rests rest → rest.start < rest.past)
        → SeenWeek i week → SeenWeek (i + 1) (week_with w (get_or rests i no_run) week)
    seen_week_more week order some seen =
        let x : Run = get_or rests i no_run in
        let lasts : x.start < x.past = some x (Contains-get_or rests i no_run within) in
        seen_agree (λ rest. Contains (take i rests) rest ⊎ (rest ≡ x)) (λ rest. Contains (take (i + 1) rests) rest) w
        (week_with w x week) (λ rest from to. one_more rest)
        (seen_more (λ rest. Contains (take i rests) rest) w week x
        (λ h. (let apart : x.past < x.start =
        seen_before Run Before (λ rest. Contains rests rest) rests i no_run within order x h in
        omega arith))
        (omega arith) seen)

  -- from all rests that touch it
  pub seen_week_all : (line : Line) (weekly : List Run) (n : ℕ) (week : WeekOfRests) → AreRestsOf line 1440 weekly
      → IsInWeeks line → ((rest : Run) → Contains rests rest
      ↔ (Contains weekly rest × (rest.start < week_start (w + 1)) × (week_start w < rest.past)))
      → length rests ≤ n → SeenWeek n week → IsWeekOfRests (IsWeeklyRest line) w week
  seen_week_all line weekly n week are is each all seen =
      seen_agree (λ rest. Contains (take n rests) rest) (IsWeeklyRest line) w week
      (λ rest from to.
      rw (take_all n rests all) (
        λ h. (are.each rest).0 ((each rest).0 h).0,
        λ weekly_rest.
            (let late : 5760 < rest.past = is.late rest weekly_rest in
            (each rest).1 ((are.each rest).1 weekly_rest, omega arith, omega arith)),
      ))
      seen

-- the weeks from a number on, before the first one
pub weeks_none : (line : Line) (first : ℕ) → first ≤ 6788 → AreWeeksOf line first []
weeks_none line first early = record { each = λ i within. absurd (omega arith); early = omega arith }

-- one week more
pub weeks_more : (line : Line) (first next : ℕ) (weeks : List WeekOfRests) (week : WeekOfRests) → next ≤ 6787
    → first + length weeks ≡ next → IsWeekOfRests (IsWeeklyRest line) next week → AreWeeksOf line first weeks
    → AreWeeksOf line first (weeks ++ week ∷ [])
weeks_more line first next weeks week early count is are =
    let size : length (weeks ++ week ∷ []) ≡ length weeks + 1 = length-append weeks (week ∷ []) in
    record {
      each = λ i within. elim (cases_lt i (length weeks)) [
        | inl lt ↦
            subst (λ (x : WeekOfRests). IsWeekOfRests (IsWeeklyRest line) (first + i) x)
            (sym (get_or_append_left weeks (week ∷ []) week_none i lt)) (are.each i lt)
        | inr ge ↦
            let at : length weeks ≡ i = omega arith in
            let here : next ≡ first + i = omega arith in
            subst (λ (x : WeekOfRests). IsWeekOfRests (IsWeeklyRest line) (first + i) x)
            (sym (get_or_push weeks week week_none i at))
            (subst (λ (w : ℕ). IsWeekOfRests (IsWeeklyRest line) w week) here is)
      ];
      early = omega arith;
    }
