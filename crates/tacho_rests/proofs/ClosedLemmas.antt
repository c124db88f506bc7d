-- A closed week: its main rest, what it owes, and the turns of its rests (specs/Paying, closed).
use Rattle.std.proofs.Common.{◌≡◌, ◌≢◌, ℕ, suc, ◌+◌, ◌-◌, ◌<◌, ◌≤◌, ◌⊎◌, inl, inr, Bool, true, false, Option, None}
use Rattle.std.proofs.Common.{Some, List, [], ◌∷◌, ◌++◌, length, refl, sym, ap, subst, ◌∙◌, arith, min, nat_le, nat_lt}
use Rattle.std.proofs.Common.{if◌then◌else◌}
use Rattle.std.specs.Prelude.{MatchOption}
use Rattle.std.specs.Option.{option_map_or}
use Rattle.std.specs.List.{AllPairs, Contains}
use Rattle.std.proofs.lemmas.Bool.{cases_lt}
use Rattle.std.proofs.lemmas.Bool.Decides.{nat_tests}
use Rattle.std.proofs.lemmas.List.{append-nil, append_assoc}
use Rattle.std.proofs.lemmas.List.Elements.{Contains-push, Contains-append_left, Contains-push_cases}
use Rattle.std.proofs.lemmas.List.Sums.{sum_by-cons}
use Rattle.tacho_law.specs.declared.run.Run.{Run}
use Rattle.tacho_law.specs.declared.run.TheConstants.{FAR}
use Rattle.tacho_law.specs.declared.debt.Debt.{Debt}
use Rattle.tacho_law.specs.Runs.{IsRestRun, AreRestRuns, minutes_of}
use Rattle.tacho_law.specs.Line.{Line}
use Rattle.tacho_law.specs.Weeks.{week_start, IsInWeek}
use Rattle.tacho_law.specs.Debts.{minutes_before, share, paid_from, IsCandidate, IsMainRest, Owes, EarlierWeek}
use Rattle.tacho_law.specs.ByRuns.{AfterRun}
use Rattle.tacho_law.specs.MainRests.{IsKept}
use Rattle.tacho_law.proofs.ExactlyLemmas.{contains_head, contains_tail, head_first, tail_order}
use Rattle.tacho_law.proofs.DebtsLemmas.{separate}
use Rattle.tacho_law.proofs.ByRunsLemmas.{one_run}
use Rattle.tacho_law.proofs.MainRestLemmas.{one_week}
use Rattle.tacho_rests.specs.Turns.{OwesBefore, AreDebtsBefore, StartsBefore, AreTurns, IsNewDebt, IsWeekOf, IsMainOf}
use Rattle.tacho_rests.specs.Turns.{IsOwedOf}
use Rattle.tacho_rests.specs.Paying.{push_few, takes, pay_all, longer, longest_rest, debt_for, is_main, turn, turns}
use Rattle.tacho_rests.proofs.TurnsLemmas.{before_turn, first_is, turns_pay, turns_add, turns_end}
use Rattle.tacho_rests.proofs.PayingLemmas.{IsOpen, shares_none, pay_turns, skip_turns}

-- if there is room, an item is appended
pub push_room : {A : Type 0} (most : ℕ) (xs : List A) (x : A) → length xs < most → push_few most xs x ≡ xs ++ x ∷ []
push_room most xs x room = let e : nat_lt (length xs) most ≡ true = grind (arith, nat_tests) in rw e refl

either : (b : Bool) (xs ys : List Debt) (n : ℕ) → length xs ≡ n → length ys ≡ n → length (if b then xs else ys) ≡ n
either true xs ys n e f = e
either false xs ys n e f = f

-- a turn doesn't change the number of debts
pub length_pay : (rest : Run) (end spent : ℕ) (debts : List Debt) → length (pay_all rest end spent debts) ≡ length debts
length_pay rest end spent [] = refl
length_pay rest end spent (debt ∷ debts) =
    either (takes rest end spent debt)
    (record debt { paid_by = Some rest.start } ∷ pay_all rest end (spent + debt.amount) debts)
    (debt ∷ pay_all rest end spent debts) (suc (length debts))
    (ap suc (length_pay rest end (spent + debt.amount) debts)) (ap suc (length_pay rest end spent debts))

-- the longest of these rests, if one of them has a day or more
record IsLongest (end : ℕ) (rests : List Run) (main : Run) : Type 0 where
  among : Contains rests main
  enough : 1440 ≤ minutes_before end main
  best : (other : Run) → Contains rests other → other.start < main.start
      → minutes_before end other < minutes_before end main
  first : (other : Run) → Contains rests other → main.start ≤ other.start
      → minutes_before end other ≤ minutes_before end main

IsBest : ℕ → List Run → Option Run → Type 0
IsBest end seen main = MatchOption main ((run : Run) → Contains seen run → minutes_before end run < 1440)
    (λ m. IsLongest end seen m)

best_first : (end : ℕ) (seen : List Run) (rest : Run) (b : Bool) → nat_le 1440 (minutes_before end rest) ≡ b
    → ((x : Run) → Contains seen x → x.start < rest.start)
    → ((run : Run) → Contains seen run → minutes_before end run < 1440)
    → IsBest end (seen ++ rest ∷ []) (if b then Some rest else None)
unfolding IsBest
best_first end seen rest true e before none =
    let enough : 1440 ≤ minutes_before end rest = grind (arith, nat_tests) in
    record {
      among = Contains-push seen rest;
      enough = enough;
      best = λ other in' sooner. elim (Contains-push_cases seen rest other in') [
        | inl old ↦ let few : minutes_before end other < 1440 = none other old in omega arith
        | inr is ↦ absurd (let f : rest.start ≡ other.start = ap (λ (r : Run). r.start) is in omega arith)
      ];
      first = λ other in' later. elim (Contains-push_cases seen rest other in') [
        | inl old ↦ absurd (let f : other.start < rest.start = before other old in omega arith)
        | inr is ↦ subst (λ (r : Run). minutes_before end r ≤ minutes_before end rest) is (omega arith)
      ];
    }
best_first end seen rest false e before none = λ run in'. elim (Contains-push_cases seen rest run in') [
  | inl old ↦ none run old
  | inr is ↦ subst (λ (r : Run). minutes_before end r < 1440) is (let few : minutes_before end rest < 1440 =
      grind (arith, nat_tests) in few)
]

best_next : (end : ℕ) (seen : List Run) (main rest : Run) (b : Bool)
    → nat_lt (minutes_before end main) (minutes_before end rest) ≡ b
    → ((x : Run) → Contains seen x → x.start < rest.start)
    → IsLongest end seen main → IsBest end (seen ++ rest ∷ []) (if b then Some rest else Some main)
unfolding IsBest
best_next end seen main rest true e before is =
    let more : minutes_before end main < minutes_before end rest = grind (arith, nat_tests) in
    let enough : 1440 ≤ minutes_before end main = is.enough in
    record {
      among = Contains-push seen rest;
      enough = omega arith;
      best = λ other in' sooner. elim (Contains-push_cases seen rest other in') [
        | inl old ↦ elim (cases_lt other.start main.start) [
          | inl lt ↦ let few : minutes_before end other < minutes_before end main = is.best other old lt in omega arith
          | inr ge ↦ let few : minutes_before end other ≤ minutes_before end main = is.first other old ge in omega arith
        ]
        | inr same ↦ absurd (let f : rest.start ≡ other.start = ap (λ (r : Run). r.start) same in omega arith)
      ];
      first = λ other in' later. elim (Contains-push_cases seen rest other in') [
        | inl old ↦ absurd (let f : other.start < rest.start = before other old in omega arith)
        | inr same ↦ subst (λ (r : Run). minutes_before end r ≤ minutes_before end rest) same (omega arith)
      ];
    }
best_next end seen main rest false e before is =
    let fewer : minutes_before end rest ≤ minutes_before end main = grind (arith, nat_tests) in
    record {
      among = Contains-append_left seen (rest ∷ []) main is.among;
      enough = is.enough;
      best = λ other in' sooner. elim (Contains-push_cases seen rest other in') [
        | inl old ↦ is.best other old sooner
        | inr same ↦ absurd (let f : rest.start ≡ other.start = ap (λ (r : Run). r.start) same in
            let g : main.start < rest.start = before main is.among in
            omega arith)
      ];
      first = λ other in' later. elim (Contains-push_cases seen rest other in') [
        | inl old ↦ is.first other old later
        | inr same ↦ subst (λ (r : Run). minutes_before end r ≤ minutes_before end main) same fewer
      ];
    }

-- with one more rest
best_more : (end : ℕ) (seen : List Run) (main : Option Run) (rest : Run)
    → ((x : Run) → Contains seen x → x.start < rest.start) → IsBest end seen main
    → IsBest end (seen ++ rest ∷ []) (longer end main rest)
unfolding IsBest
best_more end seen None rest before is = best_first end seen rest (nat_le 1440 (minutes_before end rest)) refl before is
best_more end seen (Some main) rest before is =
    best_next end seen main rest (nat_lt (minutes_before end main) (minutes_before end rest)) refl before is

-- with all rests
best_all : (end : ℕ) (seen rests : List Run) (main : Option Run) → AllPairs StartsBefore rests
    → ((x y : Run) → Contains seen x → Contains rests y → x.start < y.start) → IsBest end seen main
    → IsBest end (seen ++ rests) (longest_rest end main rests)
best_all end seen [] main order before is = subst (λ (xs : List Run). IsBest end xs main) (sym (append-nil seen)) is
best_all end seen (rest ∷ rests) main order before is =
    subst (λ (xs : List Run). IsBest end xs (longest_rest end (longer end main rest) rests))
    (append_assoc seen (rest ∷ []) rests)
    (best_all end (seen ++ rest ∷ []) rests (longer end main rest) (tail_order StartsBefore rest rests order)
    (λ x y in' in''. elim (Contains-push_cases seen rest x in') [
      | inl old ↦ before x y old (contains_tail rest rests y in'')
      | inr same ↦ subst (λ (r : Run). r.start < y.start) same (head_first StartsBefore rest rests y order in'')
    ])
    (best_more end seen main rest (λ x in'. before x rest in' (contains_head rest rests)) is))

best_of : (end : ℕ) (rests : List Run) → AllPairs StartsBefore rests → IsBest end rests (longest_rest end None rests)
unfolding IsBest
best_of end rests order = best_all end [] rests None order (λ x y (k, within, is) in'. absurd (omega arith))
    (λ x (k, within, is). absurd (omega arith))

-- a week whose rests are all here
module _ (line : Line) (horizon end w b e : ℕ) (rests : List Run) (debts : List Debt)
    (t : AreTurns line horizon b e rests debts) (of : IsWeekOf line w b e)
    (known : (run : Run) → Contains rests run → min run.past end ≡ min run.past horizon) where
  -- each candidate of the week is among the rests
  here : (run : Run) → IsCandidate line horizon w run → Contains rests run
  here run c =
      let in' : (b ≤ run.start) × (run.start < e) = of.whole run c.rests c.week in
      let enough : 1440 ≤ minutes_before horizon run = c.enough in
      (t.each run).1 (c.rests, omega arith, in'.0, in'.1)

  as_known : (run : Run) → Contains rests run → minutes_before end run ≡ minutes_before horizon run
  as_known run in' = let k : min run.past end ≡ min run.past horizon = known run in' in omega arith

  main_of : (main : Option Run) → IsBest end rests main → IsMainOf line horizon w main
  unfolding IsBest
  main_of None none = λ run is.
      (let in' : Contains rests run = here run is.candidate in
      let few : minutes_before end run < 1440 = none run in' in
      let same : minutes_before end run ≡ minutes_before horizon run = as_known run in' in
      let enough : 1440 ≤ minutes_before horizon run = is.candidate.enough in
      omega arith)
  main_of (Some main) is =
      let rests' : IsRestRun line main × (540 ≤ minutes_of main) × (b ≤ main.start) × (main.start < e) =
      (t.each main).0 is.among in
      let same : minutes_before end main ≡ minutes_before horizon main = as_known main is.among in
      let enough : 1440 ≤ minutes_before end main = is.enough in
      record {
        candidate = record { rests = rests'.0; week = of.within main rests'.0 rests'.2 rests'.3; enough = omega arith };
        best = λ other c sooner.
            let in' : Contains rests other = here other c in
            let few : minutes_before end other < minutes_before end main = is.best other in' sooner in
            let same' : minutes_before end other ≡ minutes_before horizon other = as_known other in' in
            omega arith;
        first = λ other c later.
            let in' : Contains rests other = here other c in
            let few : minutes_before end other ≤ minutes_before end main = is.first other in' (omega arith) in
            let same' : minutes_before end other ≡ minutes_before horizon other = as_known other in' in
            omega arith;
      }

  -- the rest that is found is the main rest
  pub main_found : IsMainOf line horizon w (longest_rest end None rests)
  main_found = main_of (longest_rest end None rests) (best_of end rests t.in_order)

-- a week has one main rest
one_main : (line : Line) (horizon w : ℕ) (runs : List Run) → AreRestRuns line runs → (a b : Run)
    → IsMainRest line horizon w a → IsMainRest line horizon w b → a ≡ b
one_main line horizon w runs are a b p q = elim (cases_lt a.start b.start) [
  | inl lt ↦ absurd (
      let x : minutes_before horizon a < minutes_before horizon b = q.best a p.candidate lt in
      let y : minutes_before horizon b ≤ minutes_before horizon a = p.first b q.candidate lt in
      omega arith)
  | inr ge ↦ elim (cases_lt b.start a.start) [
    | inl lt ↦ absurd (
        let x : minutes_before horizon b < minutes_before horizon a = p.best b q.candidate lt in
        let y : minutes_before horizon a ≤ minutes_before horizon b = q.first a p.candidate lt in
        omega arith)
    | inr le ↦ one_run line horizon runs are a b p.candidate.rests q.candidate.rests (omega arith)
  ]
]

-- the week is over: the last rest run starts in a later week
pub record IsWeekOver (line : Line) (w : ℕ) : Type 0 where
  pub last : Run
  pub is : IsRestRun line last
  pub no_end : last.past ≡ FAR
  pub after : week_start (w + 1) ≤ last.start

debt_if : (line : Line) (horizon w : ℕ) (runs : List Run) → AreRestRuns line runs → IsWeekOver line w → (main : Run)
    → IsMainRest line horizon w main → (b : Bool) → nat_lt (minutes_of main) 2700 ≡ b
    → IsOwedOf line horizon w
    (if b then Some
    (record { week = w; amount = 2700 - minutes_of main; deadline = week_start (w + 4); paid_by = None }) else None)
debt_if line horizon w runs are over main is true e =
    let short : minutes_of main < 2700 = grind (arith, nat_tests) in (
      refl,
      refl,
      record {
        main = main;
        last = over.last;
        is = is;
        some = omega arith;
        lacks = omega arith;
        last_run = over.is;
        no_end = over.no_end;
        ended = over.after;
      },
      refl,
    )
debt_if line horizon w runs are over main is false e = λ amount owes.
    (let long : 2700 ≤ minutes_of main = grind (arith, nat_tests) in
    let same : owes.main ≡ main = one_main line horizon w runs are owes.main main owes.is is in
    let minutes : minutes_of owes.main ≡ minutes_of main = ap minutes_of same in
    let lacks : minutes_of owes.main + amount ≡ 2700 = owes.lacks in
    let some : 0 < amount = owes.some in
    omega arith)

pub debt_found : (line : Line) (horizon w : ℕ) (runs : List Run) → AreRestRuns line runs → IsWeekOver line w
    → (main : Option Run) → IsMainOf line horizon w main → IsOwedOf line horizon w (debt_for w main)
debt_found line horizon w runs are over None none = λ amount owes. none owes.main owes.is
debt_found line horizon w runs are over (Some main) is =
    debt_if line horizon w runs are over main is (nat_lt (minutes_of main) 2700) refl

-- a rest pays nothing of debts if it pays nothing of each
paid_none : (rest : Run) (debts : List Debt) → ((debt : Debt) → Contains debts debt → share rest debt ≡ 0)
    → paid_from rest debts ≡ 0
paid_none rest [] none = refl
paid_none rest (debt ∷ debts) none =
    let one : share rest debt ≡ 0 = none debt (0, omega arith, refl) in
    let others : paid_from rest debts ≡ 0 = paid_none rest debts (λ d in'. none d (suc in'.0, omega arith, in'.2)) in
    let sum : paid_from rest (debt ∷ debts) ≡ share rest debt + paid_from rest debts =
    sum_by-cons (share rest) debt debts in
    omega arith

pub in_left : {A : Type 0} (xs ys : List A) (x : A) → Contains xs x → Contains (xs ++ ys) x
in_left xs ys x in' = Contains-append_left xs ys x in'

pub in_right : {A : Type 0} (xs ys : List A) (x : A) → Contains ys x → Contains (xs ++ ys) x
in_right [] ys x in' = in'
in_right (z ∷ xs) ys x in' =
    let rest : Contains (xs ++ ys) x = in_right xs ys x in' in (suc rest.0, omega arith, rest.2)

-- the turn of the first rest, in a week that has all its rests
one_start : (main : Option Run) (a b : Run) → is_main main a ≡ true → is_main main b ≡ true → a.start ≡ b.start
one_start None a b e f = absurd (let g : false ≡ true = e in cc)
one_start (Some m) a b e f =
    let g : m.start ≡ a.start = grind (arith, nat_tests) in
    let h : m.start ≡ b.start = grind (arith, nat_tests) in
    omega arith

-- debts of different weeks are at most as many as the weeks
pub few_weeks : (debts : List Debt) (a b : ℕ) → AllPairs EarlierWeek debts
    → ((debt : Debt) → Contains debts debt → (a ≤ debt.week) × (debt.week < b)) → a ≤ b → length debts + a ≤ b
few_weeks [] a b order of from = omega arith
few_weeks (x ∷ xs) a b order of from =
    let first : (a ≤ x.week) × (x.week < b) = of x (contains_head x xs) in
    let low : a ≤ x.week = first.0 in
    let high : x.week < b = first.1 in
    let others : length xs + (x.week + 1) ≤ b =
    few_weeks xs (x.week + 1) b (tail_order EarlierWeek x xs order) (λ debt in'.
    (let after : x.week < debt.week = head_first EarlierWeek x xs debt order in' in
    (omega arith, (of debt (contains_tail x xs debt in')).1))) (omega arith) in
    omega arith

-- the second part of an ordered list is ordered
pub order_right : (xs ys : List Debt) → AllPairs EarlierWeek (xs ++ ys) → AllPairs EarlierWeek ys
order_right [] ys order = order
order_right (x ∷ xs) ys order = order_right xs ys (tail_order EarlierWeek x (xs ++ ys) order)

module _ (line : Line) (horizon end w : ℕ) (runs : List Run) (are : AreRestRuns line runs) (main : Option Run)
    (of_week : IsMainOf line horizon w main) (owed : Option Debt) (owes : IsOwedOf line horizon w owed)
    (due : List Debt) (come : (debt : Debt) → Contains due debt → debt.deadline ≤ week_start w) where
  -- a rest is the main rest of the week, or isn't
  kept_as : (rest : Run) → IsRestRun line rest → IsInWeek w rest.start → (main' : Option Run)
      → IsMainOf line horizon w main' → (i : Bool) → is_main main' rest ≡ i
      → ((i ≡ true) × IsMainRest line horizon w rest) ⊎ ((i ≡ false) × ((v : ℕ) → IsMainRest line horizon v rest → ⊥))
  kept_as rest rests week None none true e = absurd (let f : false ≡ true = e in cc)
  kept_as rest rests week None none false e =
      inr (
        refl,
        λ v is. none rest
            (subst (λ (u : ℕ). IsMainRest line horizon u rest) (one_week v w rest.start is.candidate.week week) is),
      )
  kept_as rest rests week (Some m) is true e =
      let same : m.start ≡ rest.start = grind (arith, nat_tests) in
      inl (
        refl,
        subst (λ (r : Run). IsMainRest line horizon w r)
            (one_run line horizon runs are m rest is.candidate.rests rests same) is,
      )
  kept_as rest rests week (Some m) is false e = inr (
    refl,
    λ v is'.
        (let other : IsMainRest line horizon w rest =
        subst (λ (u : ℕ). IsMainRest line horizon u rest) (one_week v w rest.start is'.candidate.week week) is' in
        let same : m ≡ rest = one_main line horizon w runs are m rest is other in
        let start : m.start ≡ rest.start = ap (λ (r : Run). r.start) same in
        let differ : m.start ≢ rest.start = grind (arith, nat_tests) in
        differ start),
  )

  module _ (b e : ℕ) (rest : Run) (left : List Run) (queue : List Debt)
      (t : AreTurns line horizon b e (rest ∷ left) (due ++ queue)) (week : IsInWeek w rest.start)
      (known : min rest.past end ≡ min rest.past horizon) where
    rests : IsRestRun line rest
    rests = (first_is line horizon runs are b e rest left (due ++ queue) t).0

    k : AreDebtsBefore line horizon rest.start (due ++ queue)
    k = before_turn line horizon runs are b e rest left (due ++ queue) t

    untouched : (debt : Debt) → Contains (due ++ queue) debt → share rest debt ≡ 0
    untouched debt in' = shares_none line horizon rest.start [] (due ++ queue) rest (omega arith) k.done debt in'

    is_open : (debt : Debt) → Contains queue debt → IsOpen line horizon rest debt
    is_open debt in' =
        let all : Contains (due ++ queue) debt = in_right due queue debt in' in
        let o : OwesBefore line horizon rest.start debt.week debt.amount =
        (k.owed debt.week debt.amount).1 (debt, all, refl, refl) in
        record {
          some = o.owes.some;
          main = o.main;
          is = o.is;
          before = separate line o.main rest o.is.candidate.rests rests o.before;
          untouched = untouched debt all;
        }

    -- what the rest pays in its turn
    pays : (kept : ℕ) → IsKept line horizon rest kept
        → AfterRun line horizon rest [] (due ++ queue) (due ++ pay_all rest end kept queue)
    pays kept is =
        let none : paid_from rest due ≡ 0 =
        paid_none rest due (λ debt in'. untouched debt (in_left due queue debt in')) in
        let same : kept + paid_from rest due ≡ kept = omega arith in
        skip_turns line horizon end rest rests kept is known [] due queue (pay_all rest end kept queue)
        (λ debt in'. (let d : debt.deadline ≤ week_start w = come debt in' in
        let l : week_start w ≤ rest.start = week.0 in
        omega arith))
        (subst (λ (n : ℕ). AfterRun line horizon rest due queue (pay_all rest end n queue)) same
        (pay_turns line horizon end rest rests kept is known due queue is_open))

    -- a rest is the main rest of only one week
    same_week : (v : ℕ) → IsMainRest line horizon v rest → v ≡ w
    same_week v is = one_week v w rest.start is.candidate.week week

    -- the turn of the main rest
    turn_main : IsMainRest line horizon w rest → length queue < 4 → (owed' : Option Debt)
        → IsOwedOf line horizon w owed'
        → AreTurns line horizon (rest.start + 1) e left
        (due ++ option_map_or (λ (debt : Debt). push_few 4 (pay_all rest end 2700 queue) debt) owed'
        (pay_all rest end 2700 queue))
    turn_main is room None none =
        turns_pay line horizon runs are b e rest left (due ++ queue) t (due ++ pay_all rest end 2700 queue)
        (pays 2700 (inl (refl, (w, is))))
        (λ v amount is' owes'. none amount (subst (λ (u : ℕ). Owes line horizon u amount) (same_week v is') owes'))
    turn_main is room (Some debt) (unpaid, of, o, deadline) =
        let after : List Debt = pay_all rest end 2700 queue in
        let l : length after ≡ length queue = length_pay rest end 2700 queue in
        let more : push_few 4 after debt ≡ after ++ debt ∷ [] = push_room 4 after debt (omega arith) in
        let new : IsNewDebt line horizon rest debt = record {
          is = subst (λ (u : ℕ). IsMainRest line horizon u rest) (sym of) is;
          owes = subst (λ (u : ℕ). Owes line horizon u debt.amount) (sym of) o;
          deadline = deadline ∙ ap (λ (u : ℕ). week_start (u + 4)) (sym of);
        } in
        subst (λ (ds : List Debt). AreTurns line horizon (rest.start + 1) e left (due ++ ds)) (sym more)
        (subst (λ (ds : List Debt). AreTurns line horizon (rest.start + 1) e left ds)
        (append_assoc due after (debt ∷ []))
        (turns_add line horizon runs are b e rest left (due ++ queue) t (due ++ after) (pays 2700 (inl (refl, (w, is))))
        debt unpaid new
        (λ v amount is' owes'. (
          same_week v is' ∙ sym of,
          (let one : owes'.main ≡ o.main =
              one_main line horizon w runs are owes'.main o.main
              (subst (λ (u : ℕ). IsMainRest line horizon u owes'.main) (same_week v is') owes'.is) o.is in
              let minutes : minutes_of owes'.main ≡ minutes_of o.main = ap minutes_of one in
              let a : minutes_of owes'.main + amount ≡ 2700 = owes'.lacks in
              let a' : minutes_of o.main + debt.amount ≡ 2700 = o.lacks in
              omega arith),
        ))))

    turn_step : (i : Bool) → is_main main rest ≡ i → (i ≡ true → length queue < 4)
        → AreTurns line horizon (rest.start + 1) e left
        (due ++ (if i then option_map_or (λ (debt : Debt). push_few 4 (pay_all rest end 2700 queue) debt) owed
        (pay_all rest end 2700 queue) else pay_all rest end 540 queue))
    turn_step true i room = elim (kept_as rest rests week main of_week true i) [
      | inl is ↦ turn_main is.1 (room refl) owed owes
      | inr is ↦ absurd (let f : true ≡ false = is.0 in cc)
    ]
    turn_step false i room = elim (kept_as rest rests week main of_week false i) [
      | inl is ↦ absurd (let f : false ≡ true = is.0 in cc)
      | inr is ↦ turns_pay line horizon runs are b e rest left (due ++ queue) t (due ++ pay_all rest end 540 queue)
          (pays 540 (inr (refl, is.1))) (λ v amount is' owes'. is.1 v is')
    ]

  -- after the turn of the main rest, no more room is needed
  room_next : (rest later : Run) (queue : List Debt) (i : Bool) → is_main main rest ≡ i → rest.start < later.start
      → is_main main later ≡ true → length queue < 4
      → length (if i then option_map_or (λ (debt : Debt). push_few 4 (pay_all rest end 2700 queue) debt) owed
      (pay_all rest end 2700 queue) else pay_all rest end 540 queue) < 4
  room_next rest later queue true e after is room =
      absurd (let s : rest.start ≡ later.start = one_start main rest later e is in omega arith)
  room_next rest later queue false e after is room =
      let l : length (pay_all rest end 540 queue) ≡ length queue = length_pay rest end 540 queue in omega arith

  -- the turns of all rests of the week
  pub turns_all : (b e : ℕ) (left : List Run) (queue : List Debt) → AreTurns line horizon b e left (due ++ queue)
      → ((run : Run) → Contains left run → IsInWeek w run.start × (min run.past end ≡ min run.past horizon))
      → ((run : Run) → Contains left run → is_main main run ≡ true → length queue < 4)
      → AreDebtsBefore line horizon e (due ++ turns end main owed left queue)
  turns_all b e [] queue t of room = turns_end line horizon b e (due ++ queue) t
  turns_all b e (rest ∷ left) queue t of room =
      let head : Contains (rest ∷ left) rest = contains_head rest left in
      let here : IsInWeek w rest.start × (min rest.past end ≡ min rest.past horizon) = of rest head in
      turns_all (rest.start + 1) e left (turn end main owed rest queue)
      (turn_step b e rest left queue t here.0 here.1 (is_main main rest) refl (room rest head))
      (λ run in'. of run (contains_tail rest left run in'))
      (λ run in' is. room_next rest run queue (is_main main rest) refl
      (head_first StartsBefore rest left run t.in_order in') is (room run (contains_tail rest left run in') is))
