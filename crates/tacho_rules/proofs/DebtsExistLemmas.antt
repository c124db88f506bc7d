-- There is a list of the debts, with their payers, and of the breaches of debts that nothing pays.
use Rattle.std.proofs.Common.{◌≡◌, ℕ, ◌+◌, ◌-◌, ◌<◌, ◌≤◌, ◌⊎◌, inl, inr, Option, None, Some, List, [], ◌∷◌, ◌++◌, refl}
use Rattle.std.proofs.Common.{sym, ap, subst, ◌∙◌, arith, min}
use Rattle.std.specs.List.{All, AllPairs, Contains}
use Rattle.std.proofs.lemmas.Bool.{cases_lt}
use Rattle.tacho_law.specs.declared.run.Run.{Run}
use Rattle.tacho_law.specs.declared.run.TheConstants.{FAR}
use Rattle.tacho_law.specs.declared.debt.Debt.{Debt}
use Rattle.tacho_law.specs.declared.breach.Kind.TheVariants.{B10}
use Rattle.tacho_law.specs.declared.breach.Breach.{Breach}
use Rattle.tacho_law.specs.Line.{Line}
use Rattle.tacho_law.specs.Exactly.{AreExactly}
use Rattle.tacho_law.specs.Runs.{IsRestRun, AreRestRuns, Before, minutes_of}
use Rattle.tacho_law.specs.Weeks.{week_start}
use Rattle.tacho_law.specs.Debts.{minutes_before, IsCandidate, IsMainRest, Owes, Keeps, paid_from, CanPay, EarlierWeek, AreOwed, AreDebts}
use Rattle.tacho_law.specs.ByRuns.{AfterRun, AfterRuns}
use Rattle.tacho_law.specs.Breaches.{IsB10}
use Rattle.tacho_law.proofs.ByRunsLemmas.{paid_by_turns}
use Rattle.tacho_law.proofs.ExactlyLemmas.{contains_head, contains_tail, contains_cases, head_first, tail_order, at_index}
use Rattle.tacho_rules.proofs.FiniteLemmas.{Decided, decide_both, decide_if, decide_as, decide_lt, decide_le, decide_eq}
use Rattle.tacho_rules.proofs.FiniteLemmas.{decide_some, decide_all, IsFinite, no_member, finite_one, finite_as}
use Rattle.tacho_rules.proofs.FiniteLemmas.{finite_of, finite_when, finite_where, finite_below, finite_in, listed}
use Rattle.tacho_rules.proofs.RunsExistLemmas.{IsQuiet, one_start, finite_runs}
use Rattle.tacho_rules.proofs.HoursExistLemmas.{IsTold, finite_told, told_only}

decide_none : (o : Option ℕ) → Decided (o ≡ None)
decide_none None = inl refl
decide_none (Some m) = inr (λ e. cc)

-- the week, amount, deadline and payer determine a debt
debt_is : (d : Debt) (amount deadline : ℕ) → amount ≡ d.amount → deadline ≡ d.deadline → d.paid_by ≡ None
    → record { week = d.week; amount = amount; deadline = deadline; paid_by = None } ≡ d
debt_is d amount deadline e f p =
    let one : ℕ → Debt = λ x. record { week = d.week; amount = x; deadline = deadline; paid_by = None } in
    let two : ℕ → Debt = λ x. record { week = d.week; amount = d.amount; deadline = x; paid_by = None } in
    let three : Option ℕ → Debt = λ x. record { week = d.week; amount = d.amount; deadline = d.deadline; paid_by = x } in
    ap one e ∙ ap two f ∙ ap three (sym p)

-- in an ordered list of debts, the week determines the debt
pub one_debt : (debts : List Debt) (a b : Debt) → AllPairs EarlierWeek debts → Contains debts a → Contains debts b
    → a.week ≡ b.week → a ≡ b
one_debt [] a b order p q e = absurd (no_member a p)
one_debt (d ∷ debts) a b order p q e = elim (contains_cases d debts a p) [
  | inl same ↦ elim (contains_cases d debts b q) [
    | inl again ↦ sym same ∙ again
    | inr later ↦ absurd (
        let l : d.week < b.week = head_first EarlierWeek d debts b order later in
        let f : d.week ≡ a.week = ap (λ (x : Debt). x.week) same in
        omega (arith, l, f, e))
  ]
  | inr in' ↦ elim (contains_cases d debts b q) [
    | inl same ↦ absurd (
        let l : d.week < a.week = head_first EarlierWeek d debts a order in' in
        let f : d.week ≡ b.week = ap (λ (x : Debt). x.week) same in
        omega (arith, l, f, e))
    | inr later ↦ one_debt debts a b (tail_order EarlierWeek d debts order) in' later e
  ]
]

module _ (line : Line) (base horizon : ℕ) (quiet : IsQuiet line base horizon) where
  -- ---- main rests

  decide_candidate : (w : ℕ) (run : Run) → IsRestRun line run → Decided (IsCandidate line horizon w run)
  decide_candidate w run is = decide_as (λ h. record { rests = is; week = h.0; enough = h.1 }) (λ c. (c.week, c.enough))
      (decide_both (decide_both (decide_le (week_start w) run.start) (decide_lt run.start (week_start (w + 1))))
      (decide_le 1440 (minutes_before horizon run)))

  finite_candidates : (w : ℕ) → IsFinite (IsCandidate line horizon w)
  finite_candidates w =
      finite_as (λ run. IsRestRun line run × IsCandidate line horizon w run) (IsCandidate line horizon w)
      (λ run. (λ h. h.1, λ c. (c.rests, c)))
      (finite_where (IsRestRun line) (IsCandidate line horizon w) (finite_runs line base horizon quiet) (decide_candidate w))

  decide_main : (w : ℕ) (run : Run) → IsRestRun line run → Decided (IsMainRest line horizon w run)
  decide_main w run is =
      decide_as (λ h. record { candidate = h.0; best = h.1.0; first = h.1.1 }) (λ m. (m.candidate, (m.best, m.first)))
      (decide_both (decide_candidate w run is)
      (decide_both
      (decide_all (IsCandidate line horizon w)
      (λ other. other.start < run.start → minutes_before horizon other < minutes_before horizon run) (finite_candidates w)
      (λ other c. decide_if (decide_lt other.start run.start)
      (decide_lt (minutes_before horizon other) (minutes_before horizon run))))
      (decide_all (IsCandidate line horizon w)
      (λ other. run.start < other.start → minutes_before horizon other ≤ minutes_before horizon run) (finite_candidates w)
      (λ other c. decide_if (decide_lt run.start other.start)
      (decide_le (minutes_before horizon other) (minutes_before horizon run))))))

  one_main : (w : ℕ) (a b : Run) → IsMainRest line horizon w a → IsMainRest line horizon w b → a ≡ b
  one_main w a b p q = elim (cases_lt a.start b.start) [
    | inl l ↦ absurd (
        let e = q.best a p.candidate l in
        let f = p.first b q.candidate l in
        omega (arith, e, f))
    | inr l ↦ elim (cases_lt b.start a.start) [
      | inl k ↦ absurd (
          let e = p.best b q.candidate k in
          let f = q.first a p.candidate k in
          omega (arith, e, f))
      | inr k ↦ one_start line base horizon quiet a b p.candidate.rests q.candidate.rests (omega (arith, l, k))
    ]
  ]

  -- a run is a main rest only of weeks that begin by its start
  early_week : (w : ℕ) (run : Run) → IsMainRest line horizon w run → w < run.start + 1
  early_week w run m = let l : week_start w ≤ run.start = m.candidate.week.0 in omega (arith, l)

  is_main : (run : Run) → IsRestRun line run → Decided ((w : ℕ) × IsMainRest line horizon w run)
  is_main run is = decide_as (λ h. (h.0, h.1.1)) (λ h. (h.0, (early_week h.0 run h.1, h.1)))
      (decide_some (λ (w : ℕ). w < run.start + 1) (λ w. IsMainRest line horizon w run) (finite_below (run.start + 1))
      (λ w l. decide_main w run is))

  -- ---- what can pay

  finite_keeps : (run : Run) → IsRestRun line run → IsFinite (λ kept. Keeps line horizon run kept)
  finite_keeps run is = elim (is_main run is) [
    | inl m ↦ finite_one (λ kept. Keeps line horizon run kept) 2700
        (record { main = λ w m'. refl; other = λ none. absurd (none m.0 m.1) }) (λ kept k. sym (k.main m.0 m.1))
    | inr none ↦ finite_one (λ kept. Keeps line horizon run kept) 540
        (record { main = λ w m. absurd (none (w, m)); other = λ never. refl })
        (λ kept k. sym (k.other (λ w m. none (w, m))))
  ]

  decide_can : (earlier : List Debt) (debt : Debt) (run : Run) → IsRestRun line run
      → Decided (CanPay line horizon earlier debt run)
  decide_can earlier debt run is =
      decide_as
      (λ h. record {
        main = h.0.0;
        is = h.0.1.1.0;
        rests = is;
        after = h.0.1.1.1;
        room = record { kept = h.1.0; keeps = h.1.1.0; room = h.1.1.1 };
      })
      (λ c. ((c.main, (c.is.candidate.rests, (c.is, c.after))), (c.room.kept, (c.room.keeps, c.room.room))))
      (decide_both
      (decide_some (IsRestRun line) (λ main. IsMainRest line horizon debt.week main × Before main run)
      (finite_runs line base horizon quiet)
      (λ main r. decide_both (decide_main debt.week main r) (decide_lt main.past run.start)))
      (decide_some (λ kept. Keeps line horizon run kept)
      (λ kept. kept + paid_from run earlier + debt.amount ≤ minutes_before (min horizon debt.deadline) run)
      (finite_keeps run is)
      (λ kept k.
      decide_le (kept + paid_from run earlier + debt.amount) (minutes_before (min horizon debt.deadline) run))))

  -- ---- what is owed

  -- a debt that is owed, without a payer
  record IsOwed (debt : Debt) : Type 0 where
    owes : Owes line horizon debt.week debt.amount
    deadline : debt.deadline ≡ week_start (debt.week + 4)
    unpaid : debt.paid_by ≡ None

  debt_of : ℕ → Run → Debt
  debt_of w main =
      record { week = w; amount = 2700 - minutes_of main; deadline = week_start (w + 4); paid_by = None }

  HasEnded : ℕ → Type 0
  HasEnded w = (last : Run) × (IsRestRun line last × ((last.past ≡ FAR) × (week_start (w + 1) ≤ last.start)))

  abbrev IsReduction : Run → ℕ → Type 0
  IsReduction main w = IsMainRest line horizon w main × ((minutes_of main < 2700) × HasEnded w)

  owed_of : (main : Run) (w : ℕ) → IsReduction main w → IsOwed (debt_of w main)
  unfolding debt_of HasEnded
  owed_of main w h =
      let l : minutes_of main < 2700 = h.1.0 in
      record {
        owes = record {
          main = main;
          last = h.1.1.0;
          is = h.0;
          some = omega (arith, l);
          lacks = omega (arith, l);
          last_run = h.1.1.1.0;
          no_end = h.1.1.1.1.0;
          ended = h.1.1.1.1.1;
        };
        deadline = refl;
        unpaid = refl;
      }

  owed_is : (debt : Debt) → (is : IsOwed debt) → debt_of debt.week is.owes.main ≡ debt
  unfolding debt_of
  owed_is debt is =
      let e = is.owes.lacks in
      debt_is debt (2700 - minutes_of is.owes.main) (week_start (debt.week + 4)) (omega (arith, e)) (sym is.deadline) is.unpaid

  reduction_is : (debt : Debt) → (is : IsOwed debt) → IsReduction is.owes.main debt.week
  unfolding HasEnded
  reduction_is debt is =
      let e = is.owes.lacks in
      let l = is.owes.some in
      (is.owes.is, (omega (arith, e, l), (is.owes.last, (is.owes.last_run, (is.owes.no_end, is.owes.ended)))))

  decide_reduction : (main : Run) (w : ℕ) → IsRestRun line main → Decided (IsReduction main w)
  unfolding HasEnded
  decide_reduction main w is =
      decide_both (decide_main w main is)
      (decide_both (decide_lt (minutes_of main) 2700)
      (decide_some (IsRestRun line) (λ last. (last.past ≡ FAR) × (week_start (w + 1) ≤ last.start))
      (finite_runs line base horizon quiet)
      (λ last r. decide_both (decide_eq last.past FAR) (decide_le (week_start (w + 1)) last.start))))

  finite_owed : IsFinite IsOwed
  finite_owed =
      finite_as
      (λ debt. (main : Run) × IsRestRun line main
      × ((w : ℕ) × (w < main.start + 1) × (IsReduction main w × (debt_of w main ≡ debt))))
      IsOwed
      (λ debt. (
        λ h. subst IsOwed h.2.2.1 (owed_of h.0 h.2.0 h.2.2.0),
        λ is. (
          is.owes.main,
          is.owes.is.candidate.rests,
          (
            debt.week,
            early_week debt.week is.owes.main is.owes.is,
            (reduction_is debt is, owed_is debt is),
          ),
        ),
      ))
      (finite_of (IsRestRun line)
      (λ main debt. (w : ℕ) × (w < main.start + 1) × (IsReduction main w × (debt_of w main ≡ debt)))
      (finite_runs line base horizon quiet)
      (λ main is. finite_of (λ (w : ℕ). w < main.start + 1) (λ w debt. IsReduction main w × (debt_of w main ≡ debt))
      (finite_below (main.start + 1))
      (λ w l. finite_when (IsReduction main w) (λ debt. debt_of w main ≡ debt) (decide_reduction main w is)
      (λ r. finite_one (λ debt. debt_of w main ≡ debt) (debt_of w main) refl (λ debt e. e)))))

  owed_order : (a b : Debt) → IsOwed a → IsOwed b → (a ≡ b) ⊎ (EarlierWeek a b ⊎ EarlierWeek b a)
  owed_order a b p q = elim (cases_lt a.week b.week) [
    | inl l ↦ inr (inl l)
    | inr l ↦ elim (cases_lt b.week a.week) [
      | inl k ↦ inr (inr k)
      | inr k ↦
          let e : a.week ≡ b.week = omega (arith, l, k) in
          let main : p.owes.main ≡ q.owes.main = one_main b.week p.owes.main q.owes.main
          (subst (λ (w : ℕ). IsMainRest line horizon w p.owes.main) e p.owes.is) q.owes.is in
          inl (sym (owed_is a p) ∙ ap (λ (w : ℕ). debt_of w p.owes.main) e ∙ ap (λ (run : Run). debt_of b.week run) main
          ∙ owed_is b q)
    ]
  ]

  owed_list : (debts : List Debt) × AreExactly IsOwed EarlierWeek debts
  owed_list = listed IsOwed EarlierWeek owed_order (λ a b c p q r e f. (omega (arith, e, f))) finite_owed

  are_owed : AreOwed line horizon owed_list.0
  are_owed =
      let debts = owed_list.0 in
      let are : AreExactly IsOwed EarlierWeek debts = owed_list.1 in
      record {
        owed = λ w amount. (
          λ owes.
              let debt : Debt = record { week = w; amount = amount; deadline = week_start (w + 4); paid_by = None } in
              (debt, (are.each debt).1 (record { owes = owes; deadline = refl; unpaid = refl }), refl, refl),
          λ h.
              let is : IsOwed h.0 = (are.each h.0).0 h.1 in
              subst (λ (n : ℕ). Owes line horizon w n) h.3 (subst (λ (v : ℕ). Owes line horizon v h.0.amount) h.2 is.owes),
        );
        deadlines = λ debt h. ((are.each debt).0 h).deadline;
        in_order = are.in_order;
      }

  unpaid : All (λ (debt : Debt). debt.paid_by ≡ None) owed_list.0
  unpaid k d within = (at_index IsOwed EarlierWeek owed_list.0 owed_list.1 k d within).unpaid

  -- ---- who pays

  after_run : (run : Run) → IsRestRun line run → (debts earlier : List Debt)
      → (after : List Debt) × AfterRun line horizon run earlier debts after
  after_run run is [] earlier = ([], tt)
  after_run run is (debt ∷ debts) earlier =
      elim (decide_both (decide_none debt.paid_by) (decide_can earlier debt run is)) [
        | inl h ↦
            let paid : Debt = record debt { paid_by = Some run.start } in
            let others = after_run run is debts (earlier ++ paid ∷ []) in
            (paid ∷ others.0, (inl (record { unpaid = h.0; can = h.1 }, refl), others.1))
        | inr none ↦
            let others = after_run run is debts (earlier ++ debt ∷ []) in
            (debt ∷ others.0, (inr (λ h. none (h.unpaid, h.can), refl), others.1))
      ]

  after_runs : (runs : List Run) → ((run : Run) → Contains runs run → IsRestRun line run) → (debts : List Debt)
      → (after : List Debt) × AfterRuns line horizon runs debts after
  after_runs [] each debts = (debts, refl)
  after_runs (run ∷ runs) each debts =
      let one = after_run run (each run (contains_head run runs)) debts [] in
      let others = after_runs runs (λ x h. each x (contains_tail run runs x h)) one.0 in
      (others.0, (one.0, one.1, others.1))

  pub debts_of : (runs : List Run) → AreRestRuns line runs → (debts : List Debt) × AreDebts line horizon debts
  debts_of runs are =
      let paid = after_runs runs (λ run h. (are.each run).0 h) owed_list.0 in (
        paid.0,
        (paid_by_turns line horizon runs paid.0 are).0
            (record { owed = owed_list.0; are_owed = are_owed; unpaid = unpaid; paid = paid.1 }),
      )

  -- ---- debts that nothing pays

  pub finite_b10 : (debts : List Debt) → IsFinite (λ (breach : Breach). (breach.kind ≡ B10) × IsB10 horizon debts breach)
  finite_b10 debts =
      finite_as
      (λ breach. (debt : Debt) × Contains debts debt × (((debt.paid_by ≡ None) × (debt.deadline ≤ horizon))
      × IsTold B10 debt.deadline (week_start debt.week) 0 debt.amount breach))
      (λ breach. (breach.kind ≡ B10) × IsB10 horizon debts breach)
      (λ breach. (
        λ h.
            let t = h.2.1 in
            let e = t.1.1.1 in (
              t.0,
              record {
                debt = h.0;
                owed = h.1;
                unpaid = h.2.0.0;
                due = h.2.0.1;
                moment = t.1.0;
                since = t.1.1.0;
                amount = omega (arith, e);
              },
            ),
        λ h.
            let is = h.1 in
            let e = is.amount in
            (is.debt, is.owed, ((is.unpaid, is.due), (h.0, (is.moment, (is.since, omega (arith, e)))))),
      ))
      (finite_of (λ debt. Contains debts debt)
      (λ debt breach. ((debt.paid_by ≡ None) × (debt.deadline ≤ horizon))
      × IsTold B10 debt.deadline (week_start debt.week) 0 debt.amount breach)
      (finite_in debts)
      (λ debt h. finite_when ((debt.paid_by ≡ None) × (debt.deadline ≤ horizon))
      (IsTold B10 debt.deadline (week_start debt.week) 0 debt.amount)
      (decide_both (decide_none debt.paid_by) (decide_le debt.deadline horizon))
      (λ c. finite_told B10 debt.deadline (week_start debt.week) 0 debt.amount)))

  pub b10_only : (debts : List Debt) → AllPairs EarlierWeek debts → (x y : Breach) → x.kind ≡ B10 → y.kind ≡ B10
      → IsB10 horizon debts x → IsB10 horizon debts y → x.since ≡ y.since → x ≡ y
  b10_only debts order x y e f p q same =
      let a = p.since in
      let b = q.since in
      let c = p.amount in
      let d = q.amount in
      let one : p.debt ≡ q.debt = one_debt debts p.debt q.debt order p.owed q.owed (omega (arith, a, b, same)) in
      told_only B10 q.debt.deadline (week_start q.debt.week) 0 q.debt.amount x y
      (subst (λ (debt : Debt). IsTold B10 debt.deadline (week_start debt.week) 0 debt.amount x) one
      (e, (p.moment, (p.since, omega (arith, c)))))
      (f, (q.moment, (q.since, omega (arith, d))))
