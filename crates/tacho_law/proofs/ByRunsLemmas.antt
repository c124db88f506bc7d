-- Debts paid run by run (specs/ByRuns) have the payers of the definition (specs/Debts), and only these (`laws::paid_by_runs`).
use Rattle.std.proofs.Common.{◌≡◌, ℕ, zero, suc, ◌+◌, ◌<◌, ◌≤◌, ◌⊎◌, ◌↔◌, inl, inr, nat_lt}
use Rattle.std.proofs.Common.{if◌then◌else◌, Option, None, Some, List, [], ◌∷◌, ◌++◌, map}
use Rattle.std.proofs.Common.{length, get_or, take, refl, sym, ap, ap₂, subst, ◌∙◌, arith}
use Rattle.std.specs.Prelude.{slice_get, MatchOption}
use Rattle.std.specs.List.{All, AllPairs, Contains}
use Rattle.std.proofs.Math.ListN.{get_or-map}
use Rattle.std.proofs.lemmas.Bool.{cases_lt}
use Rattle.std.proofs.lemmas.Bool.Decides.{nat_tests}
use Rattle.std.proofs.lemmas.List.{append-nil, append_assoc, map-append, length-map}
use Rattle.std.proofs.lemmas.List.Elements.{All-map, Contains-get_or}
use Rattle.std.proofs.lemmas.List.Sums.{sum_by-cons, sum_by_push}
use Rattle.tacho_law.specs.declared.run.Run.{Run}
use Rattle.tacho_law.specs.declared.debt.Debt.{Debt}
use Rattle.tacho_law.specs.Runs.{IsRestRun, AreRestRuns, Before}
use Rattle.tacho_law.specs.Line.{Line}
use Rattle.tacho_law.specs.Weeks.{week_start}
use Rattle.tacho_law.specs.Debts.{share, paid_from, CanPay, Pays, IsSettled, AreOwed, AreDebts}
use Rattle.tacho_law.specs.ByRuns.{CanTake, IsTurn, AfterRun, AfterRuns, ArePaidByRuns, IsDone, AreDone}
use Rattle.tacho_law.proofs.ExactlyLemmas.{at_index, contains_head, contains_tail}
use Rattle.tacho_law.proofs.ExactlyLemmas.{contains_cases, head_first, tail_order}
use Rattle.tacho_law.proofs.DebtsLemmas.{Alike, separate, can_alike, Settled, settled_head, settled_tail, settled}

-- a debt without its payer
abbrev pub bare : Debt → Debt
bare debt = record debt { paid_by = None }

-- debts that are equal without their payers are alike
pub bare_alike : (a b : Debt) → bare a ≡ bare b → Alike a b
bare_alike a b e = record {
  week = ap (λ (debt : Debt). debt.week) e;
  amount = ap (λ (debt : Debt). debt.amount) e;
  deadline = ap (λ (debt : Debt). debt.deadline) e;
}

-- if two lists are equal without payers, so are their debts at each place
pub bare_at : (xs ys : List Debt) (k : ℕ) (d : Debt) → map bare xs ≡ map bare ys
    → bare (get_or xs k d) ≡ bare (get_or ys k d)
bare_at xs ys k d same =
    sym (get_or-map bare xs k d) ∙ ap (λ (ds : List Debt). get_or ds k (bare d)) same ∙ get_or-map bare ys k d

-- if two lists are equal without payers, they have the same length
pub bare_length : (xs ys : List Debt) → map bare xs ≡ map bare ys → length xs ≡ length ys
bare_length xs ys same = sym (length-map xs bare) ∙ ap (λ (ds : List Debt). length ds) same ∙ length-map ys bare

-- if two lists are equal without payers, each debt of one has a debt alike in the other
pub bare_match : (xs ys : List Debt) → map bare xs ≡ map bare ys → (debt : Debt)
    → Contains xs debt → (other : Debt) × Contains ys other × Alike debt other
bare_match xs ys same debt (k, within, is) =
    let longer : length xs ≡ length ys = bare_length xs ys same in
    let here : bare debt ≡ bare (get_or ys k debt) = ap bare (sym is) ∙ bare_at xs ys k debt same in
    (get_or ys k debt, Contains-get_or ys k debt (omega arith), bare_alike debt (get_or ys k debt) here)

-- changing payers doesn't change what is owed
owed_alike : (line : Line) (horizon : ℕ) (xs ys : List Debt)
    → map bare xs ≡ map bare ys → AreOwed line horizon xs → AreOwed line horizon ys
owed_alike line horizon xs ys same a = record {
  owed = λ w amount. (
    λ owes.
        let old : (debt : Debt) × Contains xs debt × (debt.week ≡ w) × (debt.amount ≡ amount) =
        (a.owed w amount).0 owes in
        let new : (other : Debt) × Contains ys other × Alike old.0 other = bare_match xs ys same old.0 old.1 in
        (new.0, new.1, sym new.2.week ∙ old.2, sym new.2.amount ∙ old.3),
    λ old.
        let new : (other : Debt) × Contains xs other × Alike old.0 other = bare_match ys xs (sym same) old.0 old.1 in
        (a.owed w amount).1 (new.0, new.1, sym new.2.week ∙ old.2, sym new.2.amount ∙ old.3),
  );
  deadlines = λ debt in'.
      let old : (other : Debt) × Contains xs other × Alike debt other = bare_match ys xs (sym same) debt in' in
      old.2.deadline ∙ a.deadlines old.0 old.1 ∙ ap (λ (w : ℕ). week_start (w + 4)) (sym old.2.week);
  in_order = λ i j d below within.
      let longer : length xs ≡ length ys = bare_length xs ys same in
      let first : Alike (get_or xs i d) (get_or ys i d) =
      bare_alike (get_or xs i d) (get_or ys i d) (bare_at xs ys i d same) in
      let second : Alike (get_or xs j d) (get_or ys j d) =
      bare_alike (get_or xs j d) (get_or ys j d) (bare_at xs ys j d same) in
      let e : (get_or xs i d).week ≡ (get_or ys i d).week = first.week in
      let e' : (get_or xs j d).week ≡ (get_or ys j d).week = second.week in
      let order : (get_or xs i d).week < (get_or xs j d).week = a.in_order i j d below (omega arith) in
      omega arith;
}

-- one run starts before the other
Sooner : Run → Run → Type 0
Sooner a b = a.start < b.start

-- a run pays nothing of a debt that a later run pays
pub other_share : (run : Run) (debt : Debt) (s : ℕ) → run.start < s → share run (record debt { paid_by = Some s }) ≡ 0
other_share run debt s later = grind (arith, nat_tests)

-- a run that can pay a debt after these earlier debts can also do so after others, of which it pays as much
can_beside : (line : Line) (horizon : ℕ) (earlier others : List Debt) (debt : Debt) (run : Run)
    → paid_from run earlier ≡ paid_from run others
    → CanPay line horizon earlier debt run → CanPay line horizon others debt run
can_beside line horizon earlier others debt run same c = record {
  main = c.main;
  is = c.is;
  rests = c.rests;
  after = c.after;
  room = record {
    kept = c.room.kept;
    keeps = c.room.keeps;
    room = rw same at c.room.room;
  };
}

-- a run that can pay a debt can also pay one that is alike, after others of which it pays as much
can_move : (line : Line) (horizon : ℕ) (earlier others : List Debt) (a b : Debt) (run : Run)
    → paid_from run earlier ≡ paid_from run others → Alike a b
    → CanPay line horizon earlier a run → CanPay line horizon others b run
can_move line horizon earlier others a b run same e c =
    can_alike line horizon others a b run e (can_beside line horizon earlier others a run same c)

-- two runs of an ordered list that start at the same minute are equal
same_run : (runs : List Run) (a b : Run) → AllPairs Sooner runs
    → Contains runs a → Contains runs b → a.start ≡ b.start → a ≡ b
unfolding Sooner
same_run [] a b order (k, within, is) g e = absurd (omega arith)
same_run (x ∷ xs) a b order f g e =
    elim (contains_cases x xs a f) [
      | inl first ↦ elim (contains_cases x xs b g) [
        | inl other ↦ sym first ∙ other
        | inr later ↦ absurd (
            let after : x.start < b.start = head_first Sooner x xs b order later in
            let s : x.start ≡ a.start = ap (λ (run : Run). run.start) first in
            omega arith)
      ]
      | inr later ↦ elim (contains_cases x xs b g) [
        | inl other ↦ absurd (
            let after : x.start < a.start = head_first Sooner x xs a order later in
            let s : x.start ≡ b.start = ap (λ (run : Run). run.start) other in
            omega arith)
        | inr later' ↦ same_run xs a b (tail_order Sooner x xs order) later later' e
      ]
    ]

-- the rest runs that start at minute b or later
record AreLeft (line : Line) (b : ℕ) (runs : List Run) : Type 0 where
  order : AllPairs Sooner runs
  each : (run : Run) → Contains runs run → IsRestRun line run × (b ≤ run.start)
  all : (run : Run) → IsRestRun line run → (run.start < b) ⊎ Contains runs run

-- from minute 0 on, these are all rest runs
all_left : (line : Line) (runs : List Run) → AreRestRuns line runs → AreLeft line 0 runs
unfolding Sooner
all_left line runs are = record {
  order = λ i j d below within.
      let one : (get_or runs i d).start < (get_or runs i d).past =
      (at_index (IsRestRun line) Before runs are i d (omega arith)).some in
      let before : (get_or runs i d).past < (get_or runs j d).start = are.in_order i j d below within in
      omega arith;
  each = λ run in'. ((are.each run).0 in', omega arith);
  all = λ run rests. inr ((are.each run).1 rests);
}

-- the first of the remaining runs is a rest run and starts at b or later
first_left : (line : Line) (b : ℕ) (run : Run) (runs : List Run)
    → AreLeft line b (run ∷ runs) → IsRestRun line run × (b ≤ run.start)
first_left line b run runs a = a.each run (contains_head run runs)

-- no other rest run starts between b and the first remaining run
none_between : (line : Line) (b : ℕ) (run : Run) (runs : List Run) → AreLeft line b (run ∷ runs)
    → (other : Run) → IsRestRun line other → other.start < run.start → other.start < b
unfolding Sooner
none_between line b run runs a other rests sooner = elim (a.all other rests) [
  | inl before ↦ before
  | inr in' ↦ elim (contains_cases run runs other in') [
    | inl same ↦ absurd (let e : run.start ≡ other.start = ap (λ (x : Run). x.start) same in omega arith)
    | inr later ↦
        absurd (let after : run.start < other.start = head_first Sooner run runs other a.order later in omega arith)
  ]
]

-- the other runs are the remaining ones after the start of the first
others_left : (line : Line) (b : ℕ) (run : Run) (runs : List Run)
    → AreLeft line b (run ∷ runs) → AreLeft line (run.start + 1) runs
unfolding Sooner
others_left line b run runs a = record {
  order = tail_order Sooner run runs a.order;
  each = λ other in'.
      let after : run.start < other.start = head_first Sooner run runs other a.order in' in
      ((a.each other (contains_tail run runs other in')).0, omega arith);
  all = λ other rests. elim (a.all other rests) [
    | inl before ↦ inl (let from : b ≤ run.start = (first_left line b run runs a).1 in omega arith)
    | inr in' ↦ elim (contains_cases run runs other in') [
      | inl same ↦ inl (let e : run.start ≡ other.start = ap (λ (x : Run). x.start) same in omega arith)
      | inr later ↦ inr later
    ]
  ];
}

-- if no run remains, each rest run started before b
none_left : (line : Line) (b : ℕ) → AreLeft line b [] → (run : Run) → IsRestRun line run → run.start < b
none_left line b a run rests = elim (a.all run rests) [
  | inl before ↦ before
  | inr (k, within, is) ↦ absurd (omega arith)
]

-- the payer of a debt is settled: this run, or none
abbrev IsSettledBy : Line → ℕ → List Debt → Debt → Option ℕ → Type 0
IsSettledBy line horizon earlier debt p =
    MatchOption p ((run : Run) → CanPay line horizon earlier debt run → ⊥)
    (λ start. Pays line horizon earlier debt start)

-- before the first run's turn, nothing is paid
none_done : (line : Line) (horizon : ℕ) (earlier debts : List Debt)
    → All (λ (debt : Debt). debt.paid_by ≡ None) debts → AreDone line horizon 0 earlier debts
none_done line horizon earlier [] unpaid = tt
none_done line horizon earlier (debt ∷ debts) unpaid =
    let none : debt.paid_by ≡ None = unpaid 0 debt (omega arith) in
    let nobody : IsDone line horizon 0 earlier debt None = λ run before can. absurd (omega arith) in (
      subst (λ (p : Option ℕ). IsDone line horizon 0 earlier debt p) (sym none) nobody,
      none_done line horizon (earlier ++ debt ∷ []) debts (λ k d within. unpaid (suc k) d (omega arith)),
    )

-- if no rest run starts from b to before c, a debt's payer at b is that at c
done_until : (line : Line) (horizon b c : ℕ) (earlier : List Debt) (debt : Debt) (p : Option ℕ)
    → b ≤ c → ((run : Run) → IsRestRun line run → run.start < c → run.start < b)
    → IsDone line horizon b earlier debt p → IsDone line horizon c earlier debt p
done_until line horizon b c earlier debt None from none nobody = λ run before can.
    nobody run (none run can.rests before) can
done_until line horizon b c earlier debt (Some start) from none (early, pays) = (omega arith, pays)

-- likewise for all debts
are_done_until : (line : Line) (horizon b c : ℕ) (earlier debts : List Debt)
    → b ≤ c → ((run : Run) → IsRestRun line run → run.start < c → run.start < b)
    → AreDone line horizon b earlier debts → AreDone line horizon c earlier debts
are_done_until line horizon b c earlier [] from none done = tt
are_done_until line horizon b c earlier (debt ∷ debts) from none (one, others) = (
  done_until line horizon b c earlier debt debt.paid_by from none one,
  are_done_until line horizon b c (earlier ++ debt ∷ []) debts from none others,
)

-- after the last run, a debt is settled
done_settled : (line : Line) (horizon b : ℕ) (earlier : List Debt) (debt : Debt) (p : Option ℕ)
    → ((run : Run) → IsRestRun line run → run.start < b) → IsDone line horizon b earlier debt p
    → IsSettledBy line horizon earlier debt p
done_settled line horizon b earlier debt None all nobody = λ run can. nobody run (all run can.rests) can
done_settled line horizon b earlier debt (Some start) all (early, pays) = pays

-- after the last run, each debt is settled, given those before it
pub are_settled : (line : Line) (horizon b : ℕ) (earlier debts : List Debt)
    → ((run : Run) → IsRestRun line run → run.start < b) → AreDone line horizon b earlier debts
    → (i : ℕ) (debt : Debt) → slice_get debts i ≡ Some debt → IsSettled line horizon (earlier ++ take i debts) debt
are_settled line horizon b earlier [] all done i debt is = absurd (let none : None ≡ Some debt = is in cc)
are_settled line horizon b earlier (x ∷ xs) all (one, others) zero debt is =
    let same : x ≡ debt = (let e : Some x ≡ Some debt = is in cc) in
    subst (λ (ds : List Debt). IsSettled line horizon ds debt) (sym (append-nil earlier))
    (subst (λ (d : Debt). IsSettled line horizon earlier d) same
    (done_settled line horizon b earlier x x.paid_by all one))
are_settled line horizon b earlier (x ∷ xs) all (one, others) (suc i) debt is =
    subst (λ (ds : List Debt). IsSettled line horizon ds debt) (append_assoc earlier (x ∷ []) (take i xs))
    (are_settled line horizon b (earlier ++ x ∷ []) xs all others i debt is)

-- runs that start before minute b pay the same of both lists
pub Agree : ℕ → List Debt → List Debt → Type 0
Agree b earlier others = (run : Run) → run.start < b → paid_from run earlier ≡ paid_from run others

-- a list agrees with itself
pub agree_same : (b : ℕ) (debts : List Debt) → Agree b debts debts
unfolding Agree
agree_same b debts run sooner = refl

module _ (line : Line) (horizon : ℕ) (runs : List Run) (are : AreRestRuns line runs) where
  -- rest runs of a line that start at the same minute are equal
  pub one_run : (a b : Run) → IsRestRun line a → IsRestRun line b → a.start ≡ b.start → a ≡ b
  one_run a b r s e = same_run runs a b (all_left line runs are).order ((are.each a).1 r) ((are.each b).1 s) e

  -- a debt that a run's turn leaves as it is
  stays_done : (run : Run) (earlier others : List Debt) (debt : Debt) (p : Option ℕ)
      → IsRestRun line run → Agree run.start earlier others
      → (p ≡ None → CanPay line horizon others debt run → ⊥)
      → IsDone line horizon run.start earlier debt p → IsDone line horizon (run.start + 1) others debt p
  unfolding Agree
  stays_done run earlier others debt None rests agree cannot nobody = λ x before can.
      elim (cases_lt x.start run.start) [
        | inl sooner ↦ nobody x sooner (can_beside line horizon others earlier debt x (sym (agree x sooner)) can)
        | inr here ↦
            cannot refl
            (subst (λ (y : Run). CanPay line horizon others debt y)
            (one_run x run can.rests rests (omega arith)) can)
      ]
  stays_done run earlier others debt (Some start) rests agree cannot (early, pays) =
      let is : pays.payer.start ≡ start = pays.is in (
        omega arith,
        record {
          payer = pays.payer;
          is = pays.is;
          can = can_beside line horizon earlier others debt pays.payer (agree pays.payer (omega arith)) pays.can;
          first = λ x before can.
              let before' : x.past < pays.payer.start = before in
              let some : x.start < x.past = can.rests.some in
              pays.first x before (can_beside line horizon others earlier debt x (sym (agree x (omega arith))) can);
        },
      )

  -- a debt that a run pays in its turn
  taken_done : (run : Run) (earlier others : List Debt) (debt : Debt) → Agree run.start earlier others
      → CanTake line horizon run others debt → IsDone line horizon run.start earlier debt debt.paid_by
      → IsDone line horizon (run.start + 1) others (record debt { paid_by = Some run.start }) (Some run.start)
  unfolding Agree
  taken_done run earlier others debt agree takes done =
      let nobody : IsDone line horizon run.start earlier debt None =
      subst (λ (p : Option ℕ). IsDone line horizon run.start earlier debt p) takes.unpaid done in
      let same : Alike debt (record debt { paid_by = Some run.start }) =
      record { week = refl; amount = refl; deadline = refl } in
      let back : Alike (record debt { paid_by = Some run.start }) debt =
      record { week = refl; amount = refl; deadline = refl } in (
        omega arith,
        record {
          payer = run;
          is = refl;
          can = can_alike line horizon others debt (record debt { paid_by = Some run.start }) run same takes.can;
          first = λ x before can.
              let before' : x.past < run.start = before in
              let some : x.start < x.past = can.rests.some in
              nobody x (omega arith)
              (can_move line horizon others earlier (record debt { paid_by = Some run.start })
              debt x (sym (agree x (omega arith))) back can);
        },
      )

  -- a debt after a run's turn
  turn_done : (run : Run) (earlier others : List Debt) (before after : Debt)
      → IsRestRun line run → Agree run.start earlier others
      → IsTurn line horizon run others before after → IsDone line horizon run.start earlier before before.paid_by
      → IsDone line horizon (run.start + 1) others after after.paid_by
  turn_done run earlier others before after rests agree (inl (takes, is)) done =
      subst (λ (d : Debt). IsDone line horizon (run.start + 1) others d d.paid_by)
      (sym is) (taken_done run earlier others before agree takes done)
  turn_done run earlier others before after rests agree (inr (not_takes, is)) done =
      subst (λ (d : Debt). IsDone line horizon (run.start + 1) others d d.paid_by) (sym is)
      (stays_done run earlier others before before.paid_by rests agree
      (λ none can. not_takes (record { unpaid = none; can = can })) done)

  -- a run's turn doesn't change what earlier runs pay of a debt
  same_share : (run : Run) (others : List Debt) (before after : Debt) (x : Run) → x.start < run.start
      → IsTurn line horizon run others before after → share x before ≡ share x after
  same_share run others before after x sooner (inl (takes, is)) =
      ap (λ (p : Option ℕ). share x (record before { paid_by = p })) takes.unpaid
      ∙ sym (other_share x before run.start sooner) ∙ ap (λ (d : Debt). share x d) (sym is)
  same_share run others before after x sooner (inr (not_takes, is)) = ap (λ (d : Debt). share x d) (sym is)

  -- the lists still agree with one more debt after its turn
  turn_agrees : (run : Run) (earlier others : List Debt) (before after : Debt) → Agree run.start earlier others
      → IsTurn line horizon run others before after → Agree run.start (earlier ++ before ∷ []) (others ++ after ∷ [])
  unfolding Agree
  turn_agrees run earlier others before after agree turn x sooner =
      sum_by_push (share x) earlier before
      ∙ ap₂ (λ (m n : ℕ). m + n) (agree x sooner) (same_share run others before after x sooner turn)
      ∙ sym (sum_by_push (share x) others after)

  -- all debts after a run's turn
  pub run_done : (run : Run) (earlier others before after : List Debt)
      → IsRestRun line run → Agree run.start earlier others
      → AfterRun line horizon run others before after → AreDone line horizon run.start earlier before
      → AreDone line horizon (run.start + 1) others after
  run_done run earlier others [] [] rests agree turns done = tt
  run_done run earlier others [] (after ∷ afters) rests agree turns done = absurd turns
  run_done run earlier others (before ∷ befores) [] rests agree turns done = absurd turns
  run_done run earlier others (before ∷ befores) (after ∷ afters) rests agree (turn, turns) (one, more) = (
    turn_done run earlier others before after rests agree turn one,
    run_done run (earlier ++ before ∷ []) (others ++ after ∷ []) befores afters
        rests (turn_agrees run earlier others before after agree turn) turns more,
  )

  -- after the turns of all runs the debts are settled
  runs_settle : (b : ℕ) (rest : List Run) (before after : List Debt) → AreLeft line b rest
      → AreDone line horizon b [] before → AfterRuns line horizon rest before after
      → (i : ℕ) (debt : Debt) → slice_get after i ≡ Some debt → IsSettled line horizon (take i after) debt
  unfolding Agree
  runs_settle b [] before after left done same =
      are_settled line horizon b [] after (none_left line b left)
      (subst (λ (ds : List Debt). AreDone line horizon b [] ds) same done)
  runs_settle b (run ∷ rest) before after left done (between, turn, turns) =
      let first : IsRestRun line run × (b ≤ run.start) = first_left line b run rest left in
      let until : AreDone line horizon run.start [] before =
      are_done_until line horizon b run.start [] before first.1 (none_between line b run rest left) done in
      runs_settle (run.start + 1) rest between after (others_left line b run rest left)
      (run_done run [] [] before between first.0 (λ x sooner. refl) turn until) turns

-- a run's turn changes only payers
pub run_bare : (line : Line) (horizon : ℕ) (run : Run) (earlier before after : List Debt)
    → AfterRun line horizon run earlier before after → map bare before ≡ map bare after
run_bare line horizon run earlier [] [] turns = refl
run_bare line horizon run earlier [] (after ∷ afters) turns = absurd turns
run_bare line horizon run earlier (before ∷ befores) [] turns = absurd turns
run_bare line horizon run earlier (before ∷ befores) (after ∷ afters) (turn, turns) =
    let same : bare before ≡ bare after = elim turn [
      | inl (takes, is) ↦ ap bare (sym is)
      | inr (not_takes, is) ↦ ap bare (sym is)
    ] in
    ap₂ (λ (d : Debt) (ds : List Debt). d ∷ ds) same
    (run_bare line horizon run (earlier ++ after ∷ []) befores afters turns)

-- likewise for the turns of several runs
runs_bare : (line : Line) (horizon : ℕ) (runs : List Run) (before after : List Debt)
    → AfterRuns line horizon runs before after → map bare before ≡ map bare after
runs_bare line horizon [] before after same = ap (λ (ds : List Debt). map bare ds) same
runs_bare line horizon (run ∷ runs) before after (between, turn, turns) =
    run_bare line horizon run [] before between turn ∙ runs_bare line horizon runs between after turns

-- debts paid run by run are the debts of the definition
from_runs : (line : Line) (horizon : ℕ) (runs : List Run) (debts : List Debt)
    → AreRestRuns line runs → ArePaidByRuns line horizon runs debts → AreDebts line horizon debts
from_runs line horizon runs debts are a = record {
  are_owed = owed_alike line horizon a.owed debts (runs_bare line horizon runs a.owed debts a.paid) a.are_owed;
  settled =
      runs_settle line horizon runs are 0 runs a.owed debts (all_left line runs are)
      (none_done line horizon [] a.owed a.unpaid) a.paid;
}

-- the payer, if it starts before minute b; else none
abbrev payer_until : ℕ → Option ℕ → Option ℕ
payer_until b None = None
payer_until b (Some s) = if nat_lt s b then Some s else None

-- a payer that starts before b is shown
payer_shown : (b s : ℕ) → s < b → payer_until b (Some s) ≡ Some s
payer_shown b s below = grind (arith, nat_tests)

-- a payer that starts at b or later is hidden
payer_hidden : (b s : ℕ) → b ≤ s → payer_until b (Some s) ≡ None
payer_hidden b s from = grind (arith, nat_tests)

-- a debt as it is before the turns of the runs that start at b or later
abbrev shown : ℕ → Debt → Debt
shown b debt = record debt { paid_by = payer_until b debt.paid_by }

-- before the first turn, no debt has a payer
none_shown : (debt : Debt) (p : Option ℕ) → payer_until 0 p ≡ None
none_shown debt None = refl
none_shown debt (Some s) = payer_hidden 0 s (omega arith)

-- after a run's own turn, what it pays of a debt doesn't change
shown_share : (run : Run) (debt : Debt) (p : Option ℕ)
    → share run (record debt { paid_by = payer_until (run.start + 1) p }) ≡ share run (record debt { paid_by = p })
shown_share run debt None = refl
shown_share run debt (Some s) = elim (cases_lt s (run.start + 1)) [
  | inl before ↦ ap (λ (p : Option ℕ). share run (record debt { paid_by = p })) (payer_shown (run.start + 1) s before)
  | inr behind ↦
      ap (λ (p : Option ℕ). share run (record debt { paid_by = p })) (payer_hidden (run.start + 1) s behind)
      ∙ sym (other_share run debt s (omega arith))
]

-- likewise for all debts
shown_paid : (run : Run) (debts : List Debt) → paid_from run (map (shown (run.start + 1)) debts) ≡ paid_from run debts
shown_paid run [] = refl
shown_paid run (debt ∷ debts) =
    sum_by-cons (share run) (shown (run.start + 1) debt) (map (shown (run.start + 1)) debts)
    ∙ ap₂ (λ (m n : ℕ). m + n) (shown_share run debt debt.paid_by) (shown_paid run debts)
    ∙ sym (sum_by-cons (share run) debt debts)

-- if no rest run starts from b to before c, the payer shown is the same
payer_same : (line : Line) (horizon b c : ℕ) (earlier : List Debt) (debt : Debt) (p : Option ℕ)
    → b ≤ c → ((run : Run) → IsRestRun line run → run.start < c → run.start < b)
    → IsSettledBy line horizon earlier debt p → payer_until b p ≡ payer_until c p
payer_same line horizon b c earlier debt None from none s = refl
payer_same line horizon b c earlier debt (Some start) from none pays = elim (cases_lt start b) [
  | inl before ↦ payer_shown b start before ∙ sym (payer_shown c start (omega arith))
  | inr behind ↦ elim (cases_lt start c) [
    | inl between ↦ absurd (
        let is : pays.payer.start ≡ start = pays.is in
        let sooner : pays.payer.start < b = none pays.payer pays.can.rests (omega arith) in
        omega arith)
    | inr later ↦ payer_hidden b start behind ∙ sym (payer_hidden c start later)
  ]
]

-- likewise for all debts
shown_same : (line : Line) (horizon b c : ℕ) (earlier debts : List Debt)
    → b ≤ c → ((run : Run) → IsRestRun line run → run.start < c → run.start < b)
    → Settled line horizon earlier debts → map (shown b) debts ≡ map (shown c) debts
shown_same line horizon b c earlier [] from none s = refl
shown_same line horizon b c earlier (debt ∷ debts) from none s =
    ap₂ (λ (p : Option ℕ) (ds : List Debt). record debt { paid_by = p } ∷ ds)
    (payer_same line horizon b c earlier debt debt.paid_by from none (settled_head line horizon earlier debt debts s))
    (shown_same line horizon b c (earlier ++ debt ∷ []) debts from
    none (settled_tail line horizon earlier debt debts s))

-- after the last run's turn, the payer shown is the debt's payer
payer_last : (line : Line) (horizon b : ℕ) (earlier : List Debt) (debt : Debt) (p : Option ℕ)
    → ((run : Run) → IsRestRun line run → run.start < b)
    → IsSettledBy line horizon earlier debt p → payer_until b p ≡ p
payer_last line horizon b earlier debt None all s = refl
payer_last line horizon b earlier debt (Some start) all pays =
    let is : pays.payer.start ≡ start = pays.is in
    let before : pays.payer.start < b = all pays.payer pays.can.rests in
    payer_shown b start (omega arith)

-- likewise for all debts
shown_last : (line : Line) (horizon b : ℕ) (earlier debts : List Debt)
    → ((run : Run) → IsRestRun line run → run.start < b)
    → Settled line horizon earlier debts → map (shown b) debts ≡ debts
shown_last line horizon b earlier [] all s = refl
shown_last line horizon b earlier (debt ∷ debts) all s =
    ap₂ (λ (p : Option ℕ) (ds : List Debt). record debt { paid_by = p } ∷ ds)
    (payer_last line horizon b earlier debt debt.paid_by all (settled_head line horizon earlier debt debts s))
    (shown_last line horizon b (earlier ++ debt ∷ []) debts all (settled_tail line horizon earlier debt debts s))

-- without payers, the debts shown are the same
shown_bare : (b : ℕ) (debts : List Debt) → map bare debts ≡ map bare (map (shown b) debts)
shown_bare b [] = refl
shown_bare b (debt ∷ debts) = ap (λ (ds : List Debt). bare debt ∷ ds) (shown_bare b debts)

module _ (line : Line) (horizon : ℕ) (runs : List Run) (are : AreRestRuns line runs) where
  -- a run's turn takes a settled debt as shown before it to the debt as shown after it
  settled_turn : (run : Run) (earlier : List Debt) (debt : Debt) (p : Option ℕ) → IsRestRun line run
      → IsSettledBy line horizon earlier debt p
      → IsTurn line horizon run (map (shown (run.start + 1)) earlier)
      (record debt { paid_by = payer_until run.start p }) (record debt { paid_by = payer_until (run.start + 1) p })
  settled_turn run earlier debt None rests nobody =
      inr (
        λ takes.
            nobody run
            (can_move line horizon (map (shown (run.start + 1)) earlier) earlier (bare debt) debt run
            (shown_paid run earlier) (record { week = refl; amount = refl; deadline = refl }) takes.can),
        refl,
      )
  settled_turn run earlier debt (Some start) rests pays =
      let is : pays.payer.start ≡ start = pays.is in
      elim (cases_lt start run.start) [
        | inl sooner ↦ inr (
          λ takes. absurd (
              let paid : payer_until run.start (Some start) ≡ Some start = payer_shown run.start start sooner in
              let unpaid : payer_until run.start (Some start) ≡ None = takes.unpaid in
              cc),
          ap (λ (p : Option ℕ). record debt { paid_by = p })
              (payer_shown (run.start + 1) start (omega arith) ∙ sym (payer_shown run.start start sooner)),
        )
        | inr not_sooner ↦ elim (cases_lt run.start start) [
          | inl later ↦ inr (
            λ takes. pays.first run (separate line run pays.payer rests pays.can.rests (omega arith))
                (can_move line horizon (map (shown (run.start + 1)) earlier) earlier
                (record debt { paid_by = payer_until run.start (Some start) }) debt run
                (shown_paid run earlier) (record { week = refl; amount = refl; deadline = refl }) takes.can),
            ap (λ (p : Option ℕ). record debt { paid_by = p })
                (payer_hidden (run.start + 1) start (omega arith) ∙ sym (payer_hidden run.start start (omega arith))),
          )
          | inr not_later ↦
              let here : start ≡ run.start = omega arith in
              let same : pays.payer ≡ run =
              one_run line horizon runs are pays.payer run pays.can.rests rests (is ∙ here) in
              inl (
                record {
                  unpaid = payer_hidden run.start start (omega arith);
                  can =
                      can_move line horizon earlier (map (shown (run.start + 1)) earlier) debt
                      (record debt { paid_by = payer_until run.start (Some start) }) run
                      (sym (shown_paid run earlier)) (record { week = refl; amount = refl; deadline = refl })
                      (subst (λ (x : Run). CanPay line horizon earlier debt x) same pays.can);
                },
                ap (λ (p : Option ℕ). record debt { paid_by = p })
                    (payer_shown (run.start + 1) start (omega arith) ∙ ap Some here),
              )
        ]
      ]

  -- likewise for all settled debts
  settled_turns : (run : Run) (earlier debts : List Debt) → IsRestRun line run → Settled line horizon earlier debts
      → AfterRun line horizon run (map (shown (run.start + 1)) earlier)
      (map (shown run.start) debts) (map (shown (run.start + 1)) debts)
  settled_turns run earlier [] rests s = tt
  settled_turns run earlier (debt ∷ debts) rests s = (
    settled_turn run earlier debt debt.paid_by rests (settled_head line horizon earlier debt debts s),
    subst (λ (ds : List Debt).
        AfterRun line horizon run ds (map (shown run.start) debts) (map (shown (run.start + 1)) debts))
        (map-append (shown (run.start + 1)) earlier (debt ∷ []))
        (settled_turns run (earlier ++ debt ∷ []) debts rests (settled_tail line horizon earlier debt debts s)),
  )

  -- likewise for the turns of all remaining runs
  settled_runs : (b : ℕ) (rest : List Run) (debts : List Debt) → AreLeft line b rest
      → Settled line horizon [] debts → AfterRuns line horizon rest (map (shown b) debts) debts
  settled_runs b [] debts left s = shown_last line horizon b [] debts (none_left line b left) s
  settled_runs b (run ∷ rest) debts left s =
      let first : IsRestRun line run × (b ≤ run.start) = first_left line b run rest left in
      let same : map (shown b) debts ≡ map (shown run.start) debts =
      shown_same line horizon b run.start [] debts first.1 (none_between line b run rest left) s in (
        map (shown (run.start + 1)) debts,
        subst (λ (ds : List Debt). AfterRun line horizon run [] ds (map (shown (run.start + 1)) debts))
            (sym same) (settled_turns run [] debts first.0 s),
        settled_runs (run.start + 1) rest debts (others_left line b run rest left) s,
      )

-- debts of the definition are those that are paid run by run
to_runs : (line : Line) (horizon : ℕ) (runs : List Run) (debts : List Debt)
    → AreRestRuns line runs → AreDebts line horizon debts → ArePaidByRuns line horizon runs debts
to_runs line horizon runs debts are a = record {
  owed = map (shown 0) debts;
  are_owed = owed_alike line horizon debts (map (shown 0) debts) (shown_bare 0 debts) a.are_owed;
  unpaid = All-map (λ (debt : Debt). debt.paid_by ≡ None) (shown 0) debts (λ k d within.
      none_shown (get_or debts k d) (get_or debts k d).paid_by);
  paid = settled_runs line horizon runs are 0 runs debts (all_left line runs are) (settled line horizon debts a);
}

-- debts paid run by run are exactly the debts of the definition
pub paid_by_turns : (line : Line) (horizon : ℕ) (runs : List Run) (debts : List Debt)
    → AreRestRuns line runs → (ArePaidByRuns line horizon runs debts ↔ AreDebts line horizon debts)
paid_by_turns line horizon runs debts are = (from_runs line horizon runs debts are, to_runs line horizon runs debts are)
