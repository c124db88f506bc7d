-- The turns of rests over the debts of a line (specs/Turns).
use Rattle.std.proofs.Common.{◌≡◌, ℕ, ◌+◌, ◌<◌, ◌≤◌, ◌⊎◌, inl, inr, Option, None, Some, List, [], ◌∷◌, ◌++◌, map}
use Rattle.std.proofs.Common.{length, get_or, refl, sym, ap, subst, ◌∙◌, arith, min}
use Rattle.std.specs.List.{AllPairs, Contains}
use Rattle.std.proofs.lemmas.Bool.{cases_lt}
use Rattle.std.proofs.lemmas.List.{append-nil, append_assoc}
use Rattle.std.proofs.lemmas.List.Elements.{Contains-push, Contains-append_left, Contains-push_cases, Contains-get_or}
use Rattle.std.proofs.lemmas.List.Quantifiers.{all_pairs_push}
use Rattle.tacho_law.specs.declared.run.Run.{Run}
use Rattle.tacho_law.specs.declared.debt.Debt.{Debt}
use Rattle.tacho_law.specs.Runs.{IsRestRun, AreRestRuns, minutes_of}
use Rattle.tacho_law.specs.Line.{Line}
use Rattle.tacho_law.specs.Weeks.{week_start}
use Rattle.tacho_law.specs.Debts.{minutes_before, paid_from, IsMainRest, Owes, Keeps, CanPay, AreDebts, EarlierWeek}
use Rattle.tacho_law.specs.ByRuns.{AfterRun, IsDone, AreDone}
use Rattle.tacho_law.proofs.ExactlyLemmas.{contains_head, contains_tail, contains_cases, head_first, tail_order}
use Rattle.tacho_law.proofs.DebtsLemmas.{Alike}
use Rattle.tacho_law.proofs.ByRunsLemmas.{bare, bare_alike, bare_at, bare_length, bare_match, one_run, agree_same}
use Rattle.tacho_law.proofs.ByRunsLemmas.{run_done, run_bare, are_settled}
use Rattle.tacho_rests.specs.Turns.{OwesBefore, AreDebtsBefore, StartsBefore, AreTurns, IsNewDebt}

-- a rest keeps at least nine hours
pub kept_least : (line : Line) (horizon : ℕ) (rest : Run) (kept : ℕ) → Keeps line horizon rest kept → 540 ≤ kept
kept_least line horizon rest kept keeps = elim (cases_lt kept 540) [
  | inl fewer ↦ absurd (let e : kept ≡ 540 = keeps.other (λ w main. let f : kept ≡ 2700 = keeps.main w main in
      omega arith) in omega arith)
  | inr enough ↦ enough
]

-- a run of fewer than nine hours pays nothing
pub short_pays_none : (line : Line) (horizon : ℕ) (earlier : List Debt) (debt : Debt) (run : Run) → minutes_of run < 540
    → CanPay line horizon earlier debt run → ⊥
short_pays_none line horizon earlier debt run short can =
    let least : 540 ≤ can.room.kept = kept_least line horizon run can.room.kept can.room.keeps in
    let fits : can.room.kept + paid_from run earlier + debt.amount
    ≤ minutes_before (min horizon debt.deadline) run = can.room.room in
    let most : minutes_before (min horizon debt.deadline) run ≤ minutes_of run = omega arith in
    omega arith

-- no run of nine hours starts from minute b to before c
abbrev pub Quiet : Line → ℕ → ℕ → Type 0
Quiet line b c = (run : Run) → IsRestRun line run → b ≤ run.start → run.start < c → minutes_of run < 540

-- so nothing is paid there
done_quiet : (line : Line) (horizon b c : ℕ) (earlier : List Debt) (debt : Debt) (p : Option ℕ) → b ≤ c → Quiet line b c
    → IsDone line horizon b earlier debt p → IsDone line horizon c earlier debt p
done_quiet line horizon b c earlier debt None from quiet nobody = λ run before can. elim (cases_lt run.start b) [
  | inl sooner ↦ nobody run sooner can
  | inr here ↦ short_pays_none line horizon earlier debt run (quiet run can.rests here before) can
]
done_quiet line horizon b c earlier debt (Some start) from quiet (early, pays) = (omega arith, pays)

-- likewise for all debts
are_done_quiet : (line : Line) (horizon b c : ℕ) (earlier debts : List Debt) → b ≤ c → Quiet line b c
    → AreDone line horizon b earlier debts → AreDone line horizon c earlier debts
are_done_quiet line horizon b c earlier [] from quiet done = tt
are_done_quiet line horizon b c earlier (debt ∷ debts) from quiet (one, others) = (
  done_quiet line horizon b c earlier debt debt.paid_by from quiet one,
  are_done_quiet line horizon b c (earlier ++ debt ∷ []) debts from quiet others,
)

-- likewise with one more debt
are_done_push : (line : Line) (horizon b : ℕ) (earlier debts : List Debt) (debt : Debt)
    → AreDone line horizon b earlier debts → IsDone line horizon b (earlier ++ debts) debt debt.paid_by
    → AreDone line horizon b earlier (debts ++ debt ∷ [])
are_done_push line horizon b earlier [] debt done one =
    (subst (λ (ds : List Debt). IsDone line horizon b ds debt debt.paid_by) (append-nil earlier) one, tt)
are_done_push line horizon b earlier (x ∷ xs) debt (first, others) one = (
  first,
  are_done_push line horizon b (earlier ++ x ∷ []) xs debt others
      (subst (λ (ds : List Debt). IsDone line horizon b ds debt debt.paid_by) (sym (append_assoc earlier (x ∷ []) xs))
      one),
)

-- a main rest has a day or more
main_long : (line : Line) (horizon w : ℕ) (main : Run) → IsMainRest line horizon w main → 1440 ≤ minutes_of main
main_long line horizon w main is =
    let enough : 1440 ≤ minutes_before horizon main = is.candidate.enough in
    let most : minutes_before horizon main ≤ minutes_of main = omega arith in
    omega arith

-- if no run of nine hours starts, the debts stay the same
pub kept_until : (line : Line) (horizon b c : ℕ) (debts : List Debt) → b ≤ c → Quiet line b c
    → AreDebtsBefore line horizon b debts → AreDebtsBefore line horizon c debts
kept_until line horizon b c debts from quiet k = record {
  owed = λ w amount. (
    λ o. (k.owed w amount).0 (record {
      main = o.main;
      is = o.is;
      before = elim (cases_lt o.main.start b) [
        | inl sooner ↦ sooner
        | inr here ↦ absurd (
            let long : 1440 ≤ minutes_of o.main = main_long line horizon w o.main o.is in
            let short : minutes_of o.main < 540 = quiet o.main o.is.candidate.rests here o.before in
            omega arith)
      ];
      owes = o.owes;
    }),
    λ h. (let o : OwesBefore line horizon b w amount = (k.owed w amount).1 h in
        let before : o.main.start < b = o.before in
        record { main = o.main; is = o.is; before = omega arith; owes = o.owes }),
  );
  deadlines = k.deadlines;
  in_order = k.in_order;
  done = are_done_quiet line horizon b c [] debts from quiet k.done;
}

-- debts that are equal except for their payers
module _ (line : Line) (horizon b : ℕ) (xs ys : List Debt) (same : map bare xs ≡ map bare ys) where
  bare_deadlines : ((debt : Debt) → Contains xs debt → debt.deadline ≡ week_start (debt.week + 4)) → (debt : Debt)
      → Contains ys debt → debt.deadline ≡ week_start (debt.week + 4)
  bare_deadlines h debt in' =
      let old : (other : Debt) × Contains xs other × Alike debt other = bare_match ys xs (sym same) debt in' in
      old.2.deadline ∙ h old.0 old.1 ∙ ap (λ (w : ℕ). week_start (w + 4)) (sym old.2.week)

  bare_order : AllPairs EarlierWeek xs → AllPairs EarlierWeek ys
  bare_order h = λ i j d below within.
      let longer : length xs ≡ length ys = bare_length xs ys same in
      let first : Alike (get_or xs i d) (get_or ys i d) =
      bare_alike (get_or xs i d) (get_or ys i d) (bare_at xs ys i d same) in
      let second : Alike (get_or xs j d) (get_or ys j d) =
      bare_alike (get_or xs j d) (get_or ys j d) (bare_at xs ys j d same) in
      let e : (get_or xs i d).week ≡ (get_or ys i d).week = first.week in
      let e' : (get_or xs j d).week ≡ (get_or ys j d).week = second.week in
      let order : (get_or xs i d).week < (get_or xs j d).week = h i j d below (omega arith) in
      omega arith

  bare_there : (w amount : ℕ) → ((debt : Debt) × Contains xs debt × (debt.week ≡ w) × (debt.amount ≡ amount))
      → (debt : Debt) × Contains ys debt × (debt.week ≡ w) × (debt.amount ≡ amount)
  bare_there w amount (debt, in', week, much) =
      let new : (other : Debt) × Contains ys other × Alike debt other = bare_match xs ys same debt in' in
      (new.0, new.1, sym new.2.week ∙ week, sym new.2.amount ∙ much)

-- the turn of a run
module _ (line : Line) (horizon : ℕ) (runs : List Run) (are : AreRestRuns line runs) (run : Run)
    (rests : IsRestRun line run) (before after : List Debt)
    (k : AreDebtsBefore line horizon run.start before) (turn : AfterRun line horizon run [] before after) where
  same : map bare before ≡ map bare after
  same = run_bare line horizon run [] before after turn

  done : AreDone line horizon (run.start + 1) [] after
  done = run_done line horizon runs are run [] [] before after rests (agree_same run.start []) turn k.done

  -- a main rest that starts at or before this run is this run or an earlier one
  by_then : (w amount : ℕ) (o : OwesBefore line horizon (run.start + 1) w amount)
      → (o.main ≡ run) ⊎ OwesBefore line horizon run.start w amount
  by_then w amount o =
      let before : o.main.start < run.start + 1 = o.before in
      elim (cases_lt o.main.start run.start) [
        | inl sooner ↦ inr (record { main = o.main; is = o.is; before = sooner; owes = o.owes })
        | inr here ↦ inl (one_run line horizon runs are o.main run o.is.candidate.rests rests (omega arith))
      ]

  later : (w amount : ℕ) → OwesBefore line horizon run.start w amount → OwesBefore line horizon (run.start + 1) w amount
  later w amount o =
      let before : o.main.start < run.start = o.before in
      record { main = o.main; is = o.is; before = omega arith; owes = o.owes }

  -- a run that leaves no debt
  pub kept_turn : ((w amount : ℕ) → IsMainRest line horizon w run → Owes line horizon w amount → ⊥)
      → AreDebtsBefore line horizon (run.start + 1) after
  kept_turn none = record {
    owed = λ w amount. (
      λ o. elim (by_then w amount o) [
        | inl is ↦ absurd (none w amount (subst (λ (x : Run). IsMainRest line horizon w x) is o.is) o.owes)
        | inr sooner ↦ bare_there line horizon run.start before after same w amount ((k.owed w amount).0 sooner)
      ],
      λ h. later w amount ((k.owed w amount).1 (bare_there line horizon run.start after before (sym same) w amount h)),
    );
    deadlines = bare_deadlines line horizon run.start before after same k.deadlines;
    in_order = bare_order line horizon run.start before after same k.in_order;
    done = done;
  }

  -- a run that leaves a debt
  pub kept_add : (debt : Debt) → debt.paid_by ≡ None → IsNewDebt line horizon run debt
      → ((w amount : ℕ) → IsMainRest line horizon w run → Owes line horizon w amount
      → (w ≡ debt.week) × (amount ≡ debt.amount))
      → AreDebtsBefore line horizon (run.start + 1) (after ++ debt ∷ [])
  kept_add debt unpaid new only = record {
    owed = λ w amount. (
      λ o. elim (by_then w amount o) [
        | inl is ↦ let e : (w ≡ debt.week) × (amount ≡ debt.amount) =
            only w amount (subst (λ (x : Run). IsMainRest line horizon w x) is o.is) o.owes in
            (debt, Contains-push after debt, sym e.0, sym e.1)
        | inr sooner ↦
            let h : (x : Debt) × Contains after x × (x.week ≡ w) × (x.amount ≡ amount) =
            bare_there line horizon run.start before after same w amount ((k.owed w amount).0 sooner) in
            (h.0, Contains-append_left after (debt ∷ []) h.0 h.1, h.2, h.3)
      ],
      λ (x, in', week, much). elim (Contains-push_cases after debt x in') [
        | inl old ↦ later w amount
            ((k.owed w amount).1
            (bare_there line horizon run.start after before (sym same) w amount (x, old, week, much)))
        | inr is ↦
            let e : debt.week ≡ w = ap (λ (d : Debt). d.week) is ∙ week in
            let f : debt.amount ≡ amount = ap (λ (d : Debt). d.amount) is ∙ much in
            subst (λ (v : ℕ). OwesBefore line horizon (run.start + 1) v amount) e
            (subst (λ (n : ℕ). OwesBefore line horizon (run.start + 1) debt.week n) f
            (record { main = run; is = new.is; before = omega arith; owes = new.owes }))
      ],
    );
    deadlines = λ x in'. elim (Contains-push_cases after debt x in') [
      | inl old ↦ bare_deadlines line horizon run.start before after same k.deadlines x old
      | inr is ↦ subst (λ (d : Debt). d.deadline ≡ week_start (d.week + 4)) is new.deadline
    ];
    in_order = all_pairs_push EarlierWeek after debt (bare_order line horizon run.start before after same k.in_order)
        (λ i d within.
        (let x : Debt = get_or after i d in
        let o : OwesBefore line horizon run.start x.week x.amount = (k.owed x.week x.amount).1
        (bare_there line horizon run.start after before (sym same) x.week x.amount
        (x, Contains-get_or after i d within, refl, refl)) in
        let sooner : o.main.start < run.start = o.before in
        let low : week_start x.week ≤ o.main.start = o.is.candidate.week.0 in
        let high : run.start < week_start (debt.week + 1) = new.is.candidate.week.1 in
        elim (cases_lt x.week debt.week) [
          | inl lt ↦ lt
          | inr ge ↦ absurd (
              let here : x.week ≡ debt.week = omega arith in
              let is : IsMainRest line horizon debt.week o.main =
              subst (λ (w : ℕ). IsMainRest line horizon w o.main) here o.is in
              let more : minutes_before horizon o.main < minutes_before horizon run =
              new.is.best o.main is.candidate sooner in
              let fewer : minutes_before horizon run ≤ minutes_before horizon o.main =
              is.first run new.is.candidate sooner in
              omega arith)
        ]));
    done = are_done_push line horizon (run.start + 1) [] after debt done
        (subst (λ (p : Option ℕ). IsDone line horizon (run.start + 1) after debt p) (sym unpaid)
        (λ x before can.
        (let w : IsMainRest line horizon debt.week can.main = can.is in
        let e : can.main.past < x.start = can.after in
        let some : can.main.start < can.main.past = w.candidate.rests.some in
        let sooner : can.main.start < run.start = omega arith in
        let more : minutes_before horizon can.main < minutes_before horizon run =
        new.is.best can.main w.candidate sooner in
        let fewer : minutes_before horizon run ≤ minutes_before horizon can.main =
        w.first run new.is.candidate sooner in
        omega arith)));
  }

-- the first of the remaining rests
module _ (line : Line) (horizon : ℕ) (runs : List Run) (are : AreRestRuns line runs) (b e : ℕ) (run : Run)
    (left : List Run) (before : List Debt) (t : AreTurns line horizon b e (run ∷ left) before) where
  pub first_is : IsRestRun line run × (540 ≤ minutes_of run) × (b ≤ run.start) × (run.start < e)
  first_is = (t.each run).0 (contains_head run left)

  -- no rest of nine hours starts before it
  quiet : Quiet line b run.start
  quiet x rests from below = elim (cases_lt (minutes_of x) 540) [
    | inl short ↦ short
    | inr long ↦
        elim (contains_cases run left x ((t.each x).1 (
          rests,
          long,
          from,
          let last : run.start < e = first_is.3 in
              omega arith,
        ))) [
          | inl is ↦ absurd (let same : run.start ≡ x.start = ap (λ (r : Run). r.start) is in omega arith)
          | inr later ↦ absurd
              (let after : run.start < x.start = head_first StartsBefore run left x t.in_order later in omega arith)
        ]
  ]

  -- the debts up to its turn
  pub before_turn : AreDebtsBefore line horizon run.start before
  before_turn = kept_until line horizon b run.start before first_is.2 quiet t.kept

  -- the remaining rests after its turn
  others : (after : List Debt) → AreDebtsBefore line horizon (run.start + 1) after
      → AreTurns line horizon (run.start + 1) e left after
  others after k = record {
    kept = k;
    each = λ x. (
      λ in'.
          let of : IsRestRun line x × (540 ≤ minutes_of x) × (b ≤ x.start) × (x.start < e) =
          (t.each x).0 (contains_tail run left x in') in
          let after' : run.start < x.start = head_first StartsBefore run left x t.in_order in' in
          (of.0, of.1, omega arith, of.3),
      λ (rests, long, from, below).
          (let low : b ≤ run.start = first_is.2 in
          elim (contains_cases run left x ((t.each x).1 (rests, long, omega arith, below))) [
            | inl is ↦ absurd (let same : run.start ≡ x.start = ap (λ (r : Run). r.start) is in omega arith)
            | inr later ↦ later
          ]),
    );
    in_order = tail_order StartsBefore run left t.in_order;
    below = let last : run.start < e = first_is.3 in omega arith;
  }

  -- the turn of a run that leaves no debt
  pub turns_pay : (after : List Debt) → AfterRun line horizon run [] before after
      → ((w amount : ℕ) → IsMainRest line horizon w run → Owes line horizon w amount → ⊥)
      → AreTurns line horizon (run.start + 1) e left after
  turns_pay after turn none =
      others after (kept_turn line horizon runs are run first_is.0 before after before_turn turn none)

  -- the turn of a run that leaves a debt
  pub turns_add : (after : List Debt) → AfterRun line horizon run [] before after → (debt : Debt) → debt.paid_by ≡ None
      → IsNewDebt line horizon run debt
      → ((w amount : ℕ) → IsMainRest line horizon w run → Owes line horizon w amount
      → (w ≡ debt.week) × (amount ≡ debt.amount))
      → AreTurns line horizon (run.start + 1) e left (after ++ debt ∷ [])
  turns_add after turn debt unpaid new only =
      others (after ++ debt ∷ [])
      (kept_add line horizon runs are run first_is.0 before after before_turn turn debt unpaid new only)

-- no rest of nine hours remains
no_more : (line : Line) (horizon b e : ℕ) (debts : List Debt) → AreTurns line horizon b e [] debts → Quiet line b e
no_more line horizon b e debts t x rests from below = elim (cases_lt (minutes_of x) 540) [
  | inl short ↦ short
  | inr long ↦ absurd (let in' : Contains [] x = (t.each x).1 (rests, long, from, below) in
      let k : in'.0 < 0 = in'.1 in
      omega arith)
]

-- after the last turn
pub turns_end : (line : Line) (horizon b e : ℕ) (debts : List Debt) → AreTurns line horizon b e [] debts
    → AreDebtsBefore line horizon e debts
turns_end line horizon b e debts t = kept_until line horizon b e debts t.below (no_more line horizon b e debts t) t.kept

-- after the last run, these are the debts of the line
pub kept_all : (line : Line) (horizon b : ℕ) (debts : List Debt) → ((run : Run) → IsRestRun line run → run.start < b)
    → AreDebtsBefore line horizon b debts → AreDebts line horizon debts
kept_all line horizon b debts all k = record {
  are_owed = record {
    owed = λ w amount. (
      λ owes. (k.owed w amount).0
          (record { main = owes.main; is = owes.is; before = all owes.main owes.is.candidate.rests; owes = owes }),
      λ h. ((k.owed w amount).1 h).owes,
    );
    deadlines = k.deadlines;
    in_order = k.in_order;
  };
  settled = are_settled line horizon b [] debts all k.done;
}
