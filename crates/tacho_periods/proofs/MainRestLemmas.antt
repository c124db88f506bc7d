-- The main rest of a week is the best of the weekly rests that start in it (`is_main`).
use Rattle.std.proofs.Common.{◌≡◌, ℕ, ◌+◌, ◌<◌, ◌≤◌, inl, inr, Bool, true, false, List}
use Rattle.std.proofs.Common.{length, get_or, take, refl, sym, ap, subst, ◌∙◌, arith}
use Rattle.std.specs.Prelude.{◌↔◌, IsTrue, not}
use Rattle.std.specs.List.{All, AllPairs, Contains}
use Rattle.std.proofs.lemmas.Bool.{cases_lt}
use Rattle.std.proofs.lemmas.List.{get_or_default, take_more, take_all}
use Rattle.std.proofs.lemmas.List.Elements.{All-push, All-contains}
use Rattle.tacho_law.specs.declared.run.Run.{Run}
use Rattle.tacho_law.specs.Runs.{IsRestRun, Before, minutes_of, AreRestsOf}
use Rattle.tacho_law.specs.Line.{Line}
use Rattle.tacho_law.specs.Weeks.{IsInWeek}
use Rattle.tacho_law.specs.Debts.{minutes_before, IsCandidate, IsMainRest}
use Rattle.tacho_periods.proofs.RunsLemmas.{no_run}
use Rattle.tacho_periods.specs.MainRests.{IsBetter}
use Rattle.tacho_periods.proofs.RunsLemmas.{rests_are}
use Rattle.tacho_law.proofs.MainRestLemmas.{one_week}

-- one more element satisfies `P`
pub all_more : {A : Type 0} (P : A → Type 0) (xs : List A) (i : ℕ) (d : A)
    → i < length xs → All P (take i xs) → P (get_or xs i d) → All P (take (i + 1) xs)
all_more P xs i d within all holds = rw (take_more xs i d within) (All-push P (take i xs) (get_or xs i d) all holds)

-- if all elements up to the end satisfy `P`, each of the list does
pub all_seen : {A : Type 0} (P : A → Type 0) (xs : List A) (i : ℕ)
    → length xs ≤ i → All P (take i xs) → (x : A) → Contains xs x → P x
all_seen P xs i end all x in' = All-contains P xs x (subst (λ (ys : List _). All P ys) (take_all i xs end) all) in'

-- in an ordered list, runs with the same start are equal
pub one_start : (runs : List Run) → All (λ (x : Run). x.start < x.past) runs → AllPairs Before runs
    → (a b : Run) → Contains runs a → Contains runs b → a.start ≡ b.start → a ≡ b
one_start runs some order a b (i, within, is) (k, within', is') same =
    let e : get_or runs i no_run ≡ a = get_or_default runs i no_run a within ∙ is in
    let f : get_or runs k no_run ≡ b = get_or_default runs k no_run b within' ∙ is' in
    let s : (get_or runs i no_run).start ≡ a.start = ap (λ (x : Run). x.start) e in
    let t : (get_or runs k no_run).start ≡ b.start = ap (λ (x : Run). x.start) f in
    let one : (get_or runs i no_run).start < (get_or runs i no_run).past = some i no_run within in
    let two : (get_or runs k no_run).start < (get_or runs k no_run).past = some k no_run within' in
    elim (cases_lt i k) [
      | inl lt ↦ absurd (
          let h : (get_or runs i no_run).past < (get_or runs k no_run).start = order i k no_run lt within' in
          omega arith)
      | inr ge ↦ elim (cases_lt k i) [
        | inl lt ↦ absurd (
            let h : (get_or runs k no_run).past < (get_or runs i no_run).start = order k i no_run lt within in
            omega arith)
        | inr le ↦ let g : i ≡ k = omega arith in sym e ∙ (ap (λ (n : ℕ). get_or runs n no_run) g ∙ f)
      ]
    ]

-- a run has at most as many minutes before a minute as in all
pub known_most : (end : ℕ) (run : Run) → minutes_before end run ≤ minutes_of run
known_most end run = omega arith

-- the negated test passes iff `P` does not hold
pub not_test : (P : Type 0) (b : Bool) → (IsTrue b ↔ P) → (IsTrue (not b) → P → ⊥) × ((P → ⊥) → IsTrue (not b))
not_test P true e = (λ h p. (let f : false ≡ true = h in cc), λ n. absurd (n (e.0 refl)))
not_test P false e = (λ h p. (let f : false ≡ true = e.1 p in cc), λ n. refl)

module _ (line : Line) (weekly : List Run) (are : AreRestsOf line 1440 weekly)
    (horizon : ℕ) (rest : Run) (is : IsRestRun line rest) where
  -- a run with enough minutes before the horizon is a weekly rest
  among : (run : Run) → IsRestRun line run → 1440 ≤ minutes_before horizon run → Contains weekly run
  among run r enough =
      (are.each run).1
      (record {
        rests = r;
        enough = let m : minutes_before horizon run ≤ minutes_of run = known_most horizon run in omega arith;
      })

  -- a rest that no rest of its week is better than is the main rest
  pub main_yes : (w : ℕ) → IsInWeek w rest.start → 1440 ≤ minutes_before horizon rest
      → ((other : Run) → Contains weekly other → IsInWeek w other.start → IsBetter horizon other rest → ⊥)
      → IsMainRest line horizon w rest
  main_yes w week enough none = record {
    candidate = record { rests = is; week = week; enough = enough };
    best = λ other c earlier. elim (cases_lt (minutes_before horizon other) (minutes_before horizon rest)) [
      | inl fewer ↦ fewer
      | inr enough' ↦
          absurd (none other (among other c.rests c.enough) c.week
          (elim (cases_lt (minutes_before horizon rest) (minutes_before horizon other)) [
            | inl more ↦ inl more
            | inr same ↦
                inr (let e : minutes_before horizon rest ≡ minutes_before horizon other = omega arith in e, earlier)
          ]))
    ];
    first = λ other c later. elim (cases_lt (minutes_before horizon rest) (minutes_before horizon other)) [
      | inl more ↦ absurd (none other (among other c.rests c.enough) c.week (inl more))
      | inr fewer ↦ fewer
    ];
  }

  -- no rest of the week is better than its main rest
  pub main_best : (w : ℕ) → IsMainRest line horizon w rest → (other : Run)
      → Contains weekly other → IsInWeek w other.start → IsBetter horizon other rest → ⊥
  main_best w main other in' week better =
      let enough : 1440 ≤ minutes_before horizon rest = main.candidate.enough in
      let many : minutes_before horizon rest ≤ minutes_before horizon other = elim better [
        | inl more ↦ omega arith
        | inr same ↦ let e : minutes_before horizon rest ≡ minutes_before horizon other = same.0 in omega arith
      ] in
      let c : IsCandidate line horizon w other =
      record { rests = ((are.each other).0 in').rests; week = week; enough = omega arith } in
      elim (cases_lt other.start rest.start) [
        | inl earlier ↦
            let fewer : minutes_before horizon other < minutes_before horizon rest = main.best other c earlier in
            omega arith
        | inr not_earlier ↦ elim (cases_lt rest.start other.start) [
          | inl later ↦
              let fewer : minutes_before horizon other ≤ minutes_before horizon rest = main.first other c later in
              elim better [
                | inl more ↦ omega arith
                | inr same ↦ let s : other.start < rest.start = same.1 in omega arith
              ]
          | inr not_later ↦
              let same : other ≡ rest =
              one_start weekly (rests_are line 1440 weekly are).some are.in_order
              other rest in' (among rest is enough) (omega arith) in
              let e : minutes_before horizon other ≡ minutes_before horizon rest = ap (minutes_before horizon) same in
              elim better [ inl more ↦ omega arith | inr s ↦ let f : other.start < rest.start = s.1 in omega arith ]
        ]
      ]

  -- a main rest is that of the week in which it starts
  pub main_in : (w v : ℕ) → IsMainRest line horizon w rest → IsInWeek v rest.start → IsMainRest line horizon v rest
  main_in w v main week =
      subst (λ (u : ℕ). IsMainRest line horizon u rest) (one_week w v rest.start main.candidate.week week) main
