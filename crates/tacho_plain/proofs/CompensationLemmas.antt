-- Debts by week have the amounts and the payers of the definition (`rests`).
use Rattle.std.proofs.Common.{◌≡◌, ℕ, ◌+◌, ◌<◌, ◌≤◌, inl, inr, List, [], ◌∷◌, ◌++◌, length, length-append}
use Rattle.std.proofs.Common.{get_or, take, refl, sym, ap, subst, ◌∙◌, arith, Option, None, Some, min}
use Rattle.std.specs.Prelude.{◌↔◌, slice_get, MatchOption}
use Rattle.std.specs.List.{AllPairs, Contains}
use Rattle.std.proofs.lemmas.Bool.{cases_lt}
use Rattle.std.proofs.lemmas.List.{get_or_default, get_or_append_left, get_or_push}
use Rattle.std.proofs.lemmas.List.{get_or-take, length-take-le, take-append-le}
use Rattle.std.proofs.Math.Seq.{take-append_seam}
use Rattle.std.proofs.lemmas.Option.{get_or_from_slice_get, slice_get-get_or, slice_get_within}
use Rattle.std.proofs.lemmas.List.Elements.{Contains-push, Contains-append_left, Contains-push_cases, Contains-get_or}
use Rattle.std.proofs.lemmas.List.Quantifiers.{all_pairs_push}
use Rattle.tacho_law.specs.declared.run.Run.{Run}
use Rattle.tacho_law.specs.declared.run.TheConstants.{FAR}
use Rattle.tacho_law.specs.declared.debt.Debt.{Debt}
use Rattle.tacho_law.specs.Runs.{IsRestRun, Before, minutes_of, AreRestsOf}
use Rattle.tacho_law.specs.Line.{Line}
use Rattle.tacho_law.specs.Weeks.{week_start}
use Rattle.tacho_law.specs.Debts.{minutes_before, paid_from, IsMainRest, Owes}
use Rattle.tacho_law.specs.Debts.{CanPay, Pays, IsSettled, EarlierWeek, AreDebts}
use Rattle.tacho_periods.proofs.RunsLemmas.{no_run}
use Rattle.tacho_law.proofs.DebtsLemmas.{separate, can_alike}
use Rattle.tacho_plain.specs.RestBreaches.{IsLastRun, IsDebtOf}
use Rattle.tacho_periods.proofs.RunsLemmas.{rests_are}
use Rattle.tacho_law.proofs.MainRestLemmas.{one_week}
use Rattle.tacho_periods.proofs.MainRestLemmas.{one_start, known_most}
use Rattle.tacho_periods.proofs.RoomLemmas.{kept_least}

-- facts about weekly rests
module _ (line : Line) (weekly : List Run) (are : AreRestsOf line 1440 weekly) (horizon : ℕ) where
  -- a main rest is one of the weekly rests
  pub main_among : (w : ℕ) (main : Run) → IsMainRest line horizon w main → Contains weekly main
  main_among w main is = (are.each main).1 (record {
    rests = is.candidate.rests;
    enough =
        let m : minutes_before horizon main ≤ minutes_of main = known_most horizon main in
        let e : 1440 ≤ minutes_before horizon main = is.candidate.enough in
        omega arith;
  })

  -- a week has one main rest
  pub main_only : (w : ℕ) (a b : Run) → IsMainRest line horizon w a → IsMainRest line horizon w b → a ≡ b
  main_only w a b p q = elim (cases_lt a.start b.start) [
    | inl lt ↦ absurd (
        let x : minutes_before horizon a < minutes_before horizon b = q.best a p.candidate lt in
        let y : minutes_before horizon b ≤ minutes_before horizon a = p.first b q.candidate lt in
        omega arith)
    | inr ge ↦ elim (cases_lt b.start a.start) [
      | inl lt ↦ absurd (
          let x : minutes_before horizon b < minutes_before horizon a = p.best b q.candidate lt in
          let y : minutes_before horizon a ≤ minutes_before horizon b = q.first a p.candidate lt in
          omega arith)
      | inr le ↦
          one_start weekly (rests_are line 1440 weekly are).some are.in_order
          a b (main_among w a p) (main_among w b q) (omega arith)
    ]
  ]

  -- the minutes of a main rest and the amount that its week owes are together 45 hours
  pub owes_lacks : (w amount : ℕ) (main : Run) → IsMainRest line horizon w main
      → Owes line horizon w amount → minutes_of main + amount ≡ 2700
  owes_lacks w amount main is owes =
      ap (λ (x : Run). minutes_of x + amount) (main_only w main owes.main is owes.is) ∙ owes.lacks

-- the last run of a line is unique
pub last_only : (line : Line) (last other : Run) → IsLastRun line last
    → IsRestRun line other → other.past ≡ FAR → other.start ≡ last.start
last_only line last other is rests no_end =
    let a : last.past ≡ FAR = is.no_end in
    let b : last.start ≤ 68374080 = is.early in
    let c : other.start < other.past = rests.some in
    elim (cases_lt other.start last.start) [
      | inl lt ↦ absurd (let s : other.past < last.start = separate line other last rests is.rests lt in omega arith)
      | inr ge ↦ elim (cases_lt last.start other.start) [
        | inl lt ↦ absurd (let s : last.past < other.start = separate line last other is.rests rests lt in omega arith)
        | inr le ↦ omega arith
      ]
    ]

-- the rests that may pay a debt: those that have a minute between the main rest's end and the deadline
module _ (line : Line) (daily weekly : List Run) (are : AreRestsOf line 540 daily)
    (of_weeks : AreRestsOf line 1440 weekly) (horizon : ℕ) (earlier : List Debt)
    (debt : Debt) (main : Run) (is : IsMainRest line horizon debt.week main) where
  -- a rest with at least nine hours before the horizon is one of the daily rests
  daily_among : (run : Run) → IsRestRun line run → 540 ≤ minutes_before horizon run → Contains daily run
  daily_among run rests enough =
      (are.each run).1
      (record {
        rests = rests;
        enough = let m : minutes_before horizon run ≤ minutes_of run = known_most horizon run in omega arith;
      })

  -- a rest that can pay is one of the rests that may pay
  pub payer_among : (run : Run) → 0 < debt.amount → CanPay line horizon earlier debt run
      → Contains daily run × (run.start < debt.deadline) × (main.past < run.past)
  payer_among run some can =
      let same : main ≡ can.main = main_only line weekly of_weeks horizon debt.week main can.main is can.is in
      let ended : main.past ≡ can.main.past = ap (λ (x : Run). x.past) same in
      let after : can.main.past < run.start = can.after in
      let lasts : run.start < run.past = can.rests.some in
      let fits : can.room.kept + paid_from run earlier + debt.amount ≤ minutes_before (min horizon debt.deadline) run =
      can.room.room in
      let nine : 540 ≤ can.room.kept = kept_least line horizon run can.room.kept can.room.keeps in
      let before : minutes_before (min horizon debt.deadline) run ≤ minutes_before horizon run = omega arith in
      (daily_among run can.rests (omega arith), omega arith, omega arith)

  -- such a rest comes after the main rest
  pub payer_after : (run : Run) → Contains daily run → main.past < run.past → Before main run
  payer_after run in' late =
      let rests : IsRestRun line run = ((are.each run).0 in').rests in
      let main_rests : IsRestRun line main = is.candidate.rests in
      let lasts : main.start < main.past = main_rests.some in
      let main_in' : Contains daily main = daily_among main main_rests (
      let e : 1440 ≤ minutes_before horizon main = is.candidate.enough in
      omega arith) in
      elim (cases_lt main.start run.start) [
        | inl sooner ↦ separate line main run main_rests rests sooner
        | inr ge ↦ elim (cases_lt run.start main.start) [
          | inl later ↦
              absurd (let s : run.past < main.start = separate line run main rests main_rests later in omega arith)
          | inr le ↦ absurd (
              let same : run ≡ main =
              one_start daily (rests_are line 540 daily are).some
              are.in_order run main in' main_in' (omega arith) in
              let e : run.past ≡ main.past = ap (λ (x : Run). x.past) same in
              omega arith)
        ]
      ]

-- in an ordered list of rests, a rest that is before the one at i was seen before it
pub sooner_seen : (rests : List Run) → AllPairs Before rests → (i : ℕ)
    → i < length rests → (get_or rests i no_run).start < (get_or rests i no_run).past
    → (run : Run) → run.start < run.past → Contains rests run
    → Before run (get_or rests i no_run) → Contains (take i rests) run
sooner_seen rests order i within some run lasts (k, within', is) before =
    let e : get_or rests k no_run ≡ run = get_or_default rests k no_run run within' ∙ is in
    let s : (get_or rests k no_run).start ≡ run.start = ap (λ (x : Run). x.start) e in
    let p : (get_or rests k no_run).past ≡ run.past = ap (λ (x : Run). x.past) e in
    let l : length (take i rests) ≡ i = length-take-le i rests (omega arith) in
    elim (cases_lt k i) [
      | inl lt ↦ (k, omega arith, get_or-take i rests k run lt ∙ is)
      | inr ge ↦ absurd (elim (cases_lt i k) [
        | inl lt ↦
            let o : (get_or rests i no_run).past < (get_or rests k no_run).start = order i k no_run lt within' in
            omega arith
        | inr le ↦
            let same : i ≡ k = omega arith in
            let f : (get_or rests i no_run).start ≡ (get_or rests k no_run).start =
            ap (λ (n : ℕ). (get_or rests n no_run).start) same in
            omega arith
      ])
    ]

-- a debt is settled with the payer that was found for it
pub settled_as : (line : Line) (horizon : ℕ) (earlier : List Debt) (debt : Debt) (payer : Option ℕ)
    → MatchOption payer ((run : Run) → CanPay line horizon earlier debt run → ⊥)
    (λ start. Pays line horizon earlier debt start)
    → IsSettled line horizon earlier (record debt { paid_by = payer })
settled_as line horizon earlier debt None none =
    λ run can.
    none run
    (can_alike line horizon earlier (record debt { paid_by = None }) debt
    run (record { week = refl; amount = refl; deadline = refl }) can)
settled_as line horizon earlier debt (Some start) pays = record {
  payer = pays.payer;
  is = pays.is;
  can =
      can_alike line horizon earlier debt (record debt { paid_by = Some start })
      pays.payer (record { week = refl; amount = refl; deadline = refl }) pays.can;
  first = λ run before can.
      pays.first run before
      (can_alike line horizon earlier (record debt { paid_by = Some start })
      debt run (record { week = refl; amount = refl; deadline = refl }) can);
}

-- the debts of the main rests that were seen, each settled after those before it
pub record AreSettled (line : Line) (horizon : ℕ) (seen : List Run) (debts : List Debt) : Type 0 where
  pub owed : (w amount : ℕ)
      → ((main : Run) × Contains seen main × IsMainRest line horizon w main × Owes line horizon w amount)
      ↔ ((debt : Debt) × Contains debts debt × (debt.week ≡ w) × (debt.amount ≡ amount))
  pub deadlines : (debt : Debt) → Contains debts debt → debt.deadline ≡ week_start (debt.week + 4)
  pub in_order : AllPairs EarlierWeek debts
  pub settled : (i : ℕ) (debt : Debt) → slice_get debts i ≡ Some debt → IsSettled line horizon (take i debts) debt

-- before the first rest
pub settled_none : (line : Line) (horizon : ℕ) → AreSettled line horizon [] []
settled_none line horizon = record {
  owed = λ w amount. (
    λ (main, (k, within, same), is, owes).
        absurd (omega arith),
    λ (debt, (k, within, same), week, much). absurd (omega arith),
  );
  deadlines = λ debt (k, within, same). absurd (omega arith);
  in_order = λ i j d below within. absurd (omega arith);
  settled = λ i debt at. absurd (let within : i < 0 = slice_get_within [] i debt at in omega arith);
}

-- the next rest
module _ (line : Line) (horizon : ℕ) (weekly : List Run) (are : AreRestsOf line 1440 weekly)
    (seen : List Run) (debts : List Debt) (rest : Run) (r : AreSettled line horizon seen debts) where
  -- it leaves no debt
  pub settled_skip : ((w amount : ℕ) → IsMainRest line horizon w rest → Owes line horizon w amount → ⊥)
      → AreSettled line horizon (seen ++ rest ∷ []) debts
  settled_skip none = record {
    owed = λ w amount. (
      λ (main, in', is, owes). elim (Contains-push_cases seen rest main in') [
        | inl old ↦ (r.owed w amount).0 (main, old, is, owes)
        | inr same ↦ absurd (none w amount (subst (λ (x : Run). IsMainRest line horizon w x) (sym same) is) owes)
      ],
      λ h. (
          let (main, in', is, owes) = (r.owed w amount).1 h in
          (main, Contains-append_left seen (rest ∷ []) main in', is, owes)),
    );
    deadlines = r.deadlines;
    in_order = r.in_order;
    settled = r.settled;
  }

  -- it leaves a debt
  pub settled_add : ((run : Run) → Contains seen run → Before run rest) → IsRestRun line rest
      → (debt : Debt) → IsDebtOf line horizon rest debt → IsSettled line horizon debts debt
      → AreSettled line horizon (seen ++ rest ∷ []) (debts ++ debt ∷ [])
  settled_add before rests debt of paid = record {
    owed = λ w amount. (
      λ (main, in', is, owes). elim (Contains-push_cases seen rest main in') [
        | inl old ↦
            let (other, in'', week, much) = (r.owed w amount).0 (main, old, is, owes) in
            (other, Contains-append_left debts (debt ∷ []) other in'', week, much)
        | inr same ↦
            let is' : IsMainRest line horizon w rest = subst (λ (x : Run). IsMainRest line horizon w x) (sym same) is in
            let week : debt.week ≡ w = one_week debt.week w rest.start of.is.candidate.week is'.candidate.week in
            let a : minutes_of rest + debt.amount ≡ 2700 =
            owes_lacks line weekly are horizon debt.week debt.amount rest of.is of.owes in
            let b : minutes_of rest + amount ≡ 2700 = owes_lacks line weekly are horizon w amount rest is' owes in
            (debt, Contains-push debts debt, week, omega arith)
      ],
      λ (other, in', week, much). elim (Contains-push_cases debts debt other in') [
        | inl old ↦ (
            let (main, in'', is, owes) = (r.owed w amount).1 (other, old, week, much) in
            (main, Contains-append_left seen (rest ∷ []) main in'', is, owes))
        | inr same ↦
            let e : debt.week ≡ w = ap (λ (x : Debt). x.week) same ∙ week in
            let f : debt.amount ≡ amount = ap (λ (x : Debt). x.amount) same ∙ much in (
              rest,
              Contains-push seen rest,
              subst (λ (v : ℕ). IsMainRest line horizon v rest) e of.is,
              subst (λ (n : ℕ). Owes line horizon w n) f
                  (subst (λ (v : ℕ). Owes line horizon v debt.amount) e of.owes),
            )
      ],
    );
    deadlines = λ other in'. elim (Contains-push_cases debts debt other in') [
      | inl old ↦ r.deadlines other old
      | inr same ↦ subst (λ (x : Debt). x.deadline ≡ week_start (x.week + 4)) same of.deadline
    ];
    in_order = all_pairs_push EarlierWeek debts debt r.in_order (λ k d within.
        (let other : Debt = get_or debts k d in
        let (main, in', is, owes) =
        (r.owed other.week other.amount).1 (other, Contains-get_or debts k d within, refl, refl) in
        let b : main.past < rest.start = before main in' in
        let lasts : main.start < main.past = is.candidate.rests.some in
        let low : week_start other.week ≤ main.start = is.candidate.week.0 in
        let high : rest.start < week_start (debt.week + 1) = of.is.candidate.week.1 in
        elim (cases_lt other.week debt.week) [
          | inl lt ↦ lt
          | inr ge ↦ absurd (
              let same : other.week ≡ debt.week = omega arith in
              let one : main ≡ rest =
              main_only line weekly are horizon debt.week main rest
              (subst (λ (w : ℕ). IsMainRest line horizon w main) same is) of.is in
              let e : main.start ≡ rest.start = ap (λ (x : Run). x.start) one in
              omega arith)
        ]));
    settled = λ i other at. elim (cases_lt i (length debts)) [
      | inl lt ↦
          let e : get_or debts i other ≡ other =
          sym (get_or_append_left debts (debt ∷ []) other i lt)
          ∙ get_or_from_slice_get (debts ++ debt ∷ []) i other other at in
          let at' : slice_get debts i ≡ Some other = slice_get-get_or debts i other lt ∙ ap Some e in
          subst (λ (ds : List Debt). IsSettled line horizon ds other)
          (sym (take-append-le i debts (debt ∷ []) (omega arith))) (r.settled i other at')
      | inr ge ↦
          let within : i < length (debts ++ debt ∷ []) = slice_get_within (debts ++ debt ∷ []) i other at in
          let l : length (debts ++ debt ∷ []) ≡ length debts + 1 = length-append debts (debt ∷ []) in
          let here : i ≡ length debts = omega arith in
          let e : debt ≡ other =
          sym (get_or_push debts debt other i (sym here))
          ∙ get_or_from_slice_get (debts ++ debt ∷ []) i other other at in
          let t : take i (debts ++ debt ∷ []) ≡ debts =
          ap (λ (n : ℕ). take n (debts ++ debt ∷ [])) here ∙ take-append_seam debts (debt ∷ []) in
          subst (λ (ds : List Debt). IsSettled line horizon ds other) (sym t)
          (subst (λ (x : Debt). IsSettled line horizon debts x) e paid)
    ];
  }

-- after the last rest, these are the debts
pub settled_all : (line : Line) (horizon : ℕ) (weekly : List Run) → AreRestsOf line 1440 weekly
    → (debts : List Debt) → AreSettled line horizon weekly debts → AreDebts line horizon debts
settled_all line horizon weekly are debts r = record {
  are_owed = record {
    owed = λ w amount. (
      λ owes. (r.owed w amount).0 (owes.main, main_among line weekly are horizon w owes.main owes.is, owes.is, owes),
      λ h. ((r.owed w amount).1 h).3,
    );
    deadlines = r.deadlines;
    in_order = r.in_order;
  };
  settled = r.settled;
}
