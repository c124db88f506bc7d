-- What is known of the rests and the debts so far, week by week (specs/Turns, IsSoFar).
use Rattle.std.proofs.Common.{◌≡◌, ℕ, zero, suc, ◌+◌, ◌-◌, ◌*◌, ◌<◌, ◌≤◌, ◌⊎◌, inl, inr, Bool, true, false, Option}
use Rattle.std.proofs.Common.{None, List, [], ◌∷◌, ◌++◌, length, get_or, refl, sym, ap, subst, ◌∙◌, arith, min, nat_le}
use Rattle.std.proofs.Common.{if◌then◌else◌}
use Rattle.std.specs.List.{AllPairs, Contains}
use Rattle.std.proofs.lemmas.Bool.{cases_lt}
use Rattle.std.proofs.lemmas.Bool.Decides.{nat_tests}
use Rattle.std.proofs.lemmas.List.{append_assoc}
use Rattle.std.proofs.lemmas.List.Elements.{Contains-push, Contains-append_left, Contains-push_cases, Contains-get_or}
use Rattle.std.proofs.lemmas.List.Quantifiers.{all_pairs_push}
use Rattle.tacho_law.specs.declared.run.Run.{Run}
use Rattle.tacho_law.specs.declared.run.TheConstants.{FAR}
use Rattle.tacho_law.specs.declared.debt.Debt.{Debt}
use Rattle.tacho_law.specs.Runs.{IsRestRun, minutes_of}
use Rattle.tacho_law.specs.Line.{Line}
use Rattle.tacho_law.specs.Weeks.{week_start, IsInWeek}
use Rattle.tacho_law.specs.Debts.{EarlierWeek, AreDebts}
use Rattle.tacho_law.proofs.ExactlyLemmas.{contains_head, contains_tail, head_first, tail_order}
use Rattle.tacho_law.proofs.DebtsLemmas.{separate}
use Rattle.tacho_law.proofs.ByRunsLemmas.{one_run}
use Rattle.tacho_pass.specs.Heard.{IsNext, IsLineTo}
use Rattle.tacho_rests.specs.Turns.{OwesBefore, AreDebtsBefore, StartsBefore, AreTurns, IsWeekOf, IsMainOf, IsOwedOf}
use Rattle.tacho_rests.specs.Turns.{IsSoFar}
use Rattle.tacho_rests.specs.Paying.{push_few, longest_rest, debt_for, due_of, open_of, close_debts}
use Rattle.tacho_rests.proofs.TurnsLemmas.{Quiet, kept_until, kept_all}
use Rattle.tacho_rests.proofs.ClosedLemmas.{push_room, main_found, debt_found, turns_all, few_weeks, order_right}
use Rattle.tacho_rests.proofs.ClosedLemmas.{IsWeekOver, in_right}

-- at most 19 rests of nine hours start in a week
few_rests : (line : Line) (rests : List Run) (a b : ℕ) → AllPairs StartsBefore rests
    → ((run : Run) → Contains rests run
    → IsRestRun line run × (540 ≤ minutes_of run) × (a ≤ run.start) × (run.start < b))
    → a ≤ b + 540
    → 541 * length rests + a ≤ b + 540
few_rests line [] a b order of from = omega arith
few_rests line (x ∷ xs) a b order of from =
    let first : IsRestRun line x × (540 ≤ minutes_of x) × (a ≤ x.start) × (x.start < b) = of x (contains_head x xs) in
    let low : a ≤ x.start = first.2 in
    let high : x.start < b = first.3 in
    let long : 540 ≤ minutes_of x = first.1 in
    let others : 541 * length xs + (x.start + 541) ≤ b + 540 =
    few_rests line xs (x.start + 541) b (tail_order StartsBefore x xs order) (λ run in'.
    (let is : IsRestRun line run × (540 ≤ minutes_of run) × (a ≤ run.start) × (run.start < b) =
    of run (contains_tail x xs run in') in
    let after : x.start < run.start = head_first StartsBefore x xs run order in' in
    let apart : x.past < run.start = separate line x run first.0 is.0 after in
    (is.0, is.1, omega arith, is.3))) (omega arith) in
    omega arith

-- splitting ordered debts into those that are due and the others
none_due : (by : ℕ) (debts : List Debt) → ((debt : Debt) → Contains debts debt → by < debt.deadline)
    → (due_of by debts ≡ []) × (open_of by debts ≡ debts)
none_due by [] later = (refl, refl)
none_due by (x ∷ xs) later =
    let first : by < x.deadline = later x (0, omega arith, refl) in
    let e : nat_le x.deadline by ≡ false = grind (arith, nat_tests) in
    let others : (due_of by xs ≡ []) × (open_of by xs ≡ xs) =
    none_due by xs (λ d in'. later d (suc in'.0, omega arith, in'.2)) in
    (rw e others.0, rw e (ap (λ (ds : List Debt). x ∷ ds) others.1))

split_if : (by : ℕ) (x : Debt) (xs : List Debt) (b : Bool) → nat_le x.deadline by ≡ b → AllPairs EarlierWeek (x ∷ xs)
    → ((debt : Debt) → Contains (x ∷ xs) debt → debt.deadline ≡ week_start (debt.week + 4))
    → due_of by xs ++ open_of by xs ≡ xs
    → (if b then x ∷ due_of by xs else due_of by xs) ++ (if b then open_of by xs else x ∷ open_of by xs) ≡ x ∷ xs
split_if by x xs true e order deadlines others = ap (λ (ds : List Debt). x ∷ ds) others
split_if by x xs false e order deadlines others =
    let late : by < x.deadline = grind (arith, nat_tests) in
    let none : (due_of by xs ≡ []) × (open_of by xs ≡ xs) = none_due by xs (λ d in'.
    (let after : x.week < d.week = head_first EarlierWeek x xs d order in' in
    let one : x.deadline ≡ week_start (x.week + 4) = deadlines x (contains_head x xs) in
    let two : d.deadline ≡ week_start (d.week + 4) = deadlines d (contains_tail x xs d in') in
    omega arith)) in
    rw (none.0, none.1) refl

pub split_due : (by : ℕ) (debts : List Debt) → AllPairs EarlierWeek debts
    → ((debt : Debt) → Contains debts debt → debt.deadline ≡ week_start (debt.week + 4))
    → due_of by debts ++ open_of by debts ≡ debts
split_due by [] order deadlines = refl
split_due by (x ∷ xs) order deadlines = split_if by x xs (nat_le x.deadline by) refl order deadlines
    (split_due by xs (tail_order EarlierWeek x xs order) (λ d in'. deadlines d (contains_tail x xs d in')))

-- each debt is on the right side
due_if : (by : ℕ) (x : Debt) (ds : List Debt) (b : Bool) → nat_le x.deadline by ≡ b
    → ((debt : Debt) → Contains ds debt → debt.deadline ≤ by) → (debt : Debt) → Contains (if b then x ∷ ds else ds) debt
    → debt.deadline ≤ by
due_if by x ds true e all debt (zero, within, is) =
    subst (λ (d : Debt). d.deadline ≤ by) is (let f : x.deadline ≤ by = grind (arith, nat_tests) in f)
due_if by x ds true e all debt (suc k, within, is) = all debt (k, omega arith, is)
due_if by x ds false e all debt in' = all debt in'

pub all_due : (by : ℕ) (debts : List Debt) (debt : Debt) → Contains (due_of by debts) debt → debt.deadline ≤ by
all_due by [] debt (k, within, is) = absurd (omega arith)
all_due by (x ∷ xs) debt in' = due_if by x (due_of by xs) (nat_le x.deadline by) refl (all_due by xs) debt in'

open_if : (by : ℕ) (x : Debt) (ds : List Debt) (b : Bool) → nat_le x.deadline by ≡ b
    → ((debt : Debt) → Contains ds debt → by < debt.deadline) → (debt : Debt) → Contains (if b then ds else x ∷ ds) debt
    → by < debt.deadline
open_if by x ds false e all debt (zero, within, is) =
    subst (λ (d : Debt). by < d.deadline) is (let f : by < x.deadline = grind (arith, nat_tests) in f)
open_if by x ds false e all debt (suc k, within, is) = all debt (k, omega arith, is)
open_if by x ds true e all debt in' = all debt in'

all_open : (by : ℕ) (debts : List Debt) (debt : Debt) → Contains (open_of by debts) debt → by < debt.deadline
all_open by [] debt (k, within, is) = absurd (omega arith)
all_open by (x ∷ xs) debt in' = open_if by x (open_of by xs) (nat_le x.deadline by) refl (all_open by xs) debt in'

come_both : (w : ℕ) (due debts : List Debt) → ((debt : Debt) → Contains due debt → debt.deadline ≤ week_start w)
    → (debt : Debt) → Contains (due ++ due_of (week_start w) debts) debt → debt.deadline ≤ week_start w
come_both w [] debts come debt in' = all_due (week_start w) debts debt in'
come_both w (x ∷ due) debts come debt (zero, within, is) = come debt (0, omega arith, is)
come_both w (x ∷ due) debts come debt (suc k, within, is) =
    come_both w due debts (λ d in'. come d (suc in'.0, omega arith, in'.2)) debt (k, omega arith, is)

-- a line up to its horizon
module _ (line : Line) (horizon : ℕ) (last : Run) (l : IsLineTo line horizon last) where
  -- the open debts at the start of a week are those of the three weeks before
  few_open : (w : ℕ) (due debts : List Debt) → AreDebtsBefore line horizon (week_start w) (due ++ debts)
      → length (open_of (week_start w) debts) < 4
  few_open w due debts k =
      let order : AllPairs EarlierWeek debts = order_right due debts k.in_order in
      let deadlines : (debt : Debt) → Contains debts debt → debt.deadline ≡ week_start (debt.week + 4) =
      λ debt in'. k.deadlines debt (in_right due debts debt in') in
      let split : due_of (week_start w) debts ++ open_of (week_start w) debts ≡ debts =
      split_due (week_start w) debts order deadlines in
      let order' : AllPairs EarlierWeek (open_of (week_start w) debts) =
      order_right (due_of (week_start w) debts) (open_of (week_start w) debts)
      (subst (λ (ds : List Debt). AllPairs EarlierWeek ds) (sym split) order) in
      let few : length (open_of (week_start w) debts) + (w - 3) ≤ w =
      few_weeks (open_of (week_start w) debts) (w - 3) w order' (λ debt in'.
      (let among : Contains debts debt =
      subst (λ (ds : List Debt). Contains ds debt) split
      (in_right (due_of (week_start w) debts) (open_of (week_start w) debts) debt in') in
      let late : week_start w < debt.deadline = all_open (week_start w) debts debt in' in
      let deadline : debt.deadline ≡ week_start (debt.week + 4) = deadlines debt among in
      let o : OwesBefore line horizon (week_start w) debt.week debt.amount =
      (k.owed debt.week debt.amount).1 (debt, in_right due debts debt among, refl, refl) in
      let before : o.main.start < week_start w = o.before in
      let week : week_start debt.week ≤ o.main.start = o.is.candidate.week.0 in
      (omega arith, omega arith))) (omega arith) in
      omega arith

  -- a week is closed with all its rests
  pub close_week : (e w : ℕ) (rests : List Run) (due debts : List Debt) (end : ℕ) (over : Bool)
      → IsSoFar line horizon e w rests due debts
      → ((run : Run) → IsRestRun line run → IsInWeek w run.start → run.start < e)
      → ((run : Run) → Contains rests run → min run.past end ≡ min run.past horizon)
      → ((main : Option Run) → IsMainOf line horizon w main
      → IsOwedOf line horizon w (if over then debt_for w main else None))
      → AreDebtsBefore line horizon e ((due ++ due_of (week_start w) debts) ++ close_debts end over w rests debts)
  close_week e w rests due debts end over s whole known owed =
      let t : AreTurns line horizon (week_start w) e rests (due ++ debts) = s.turns in
      let high : e ≤ week_start (w + 1) = s.high in
      let order : AllPairs EarlierWeek debts = order_right due debts t.kept.in_order in
      let split : due_of (week_start w) debts ++ open_of (week_start w) debts ≡ debts =
      split_due (week_start w) debts order (λ debt in'. t.kept.deadlines debt (in_right due debts debt in')) in
      let same : due ++ debts ≡ (due ++ due_of (week_start w) debts) ++ open_of (week_start w) debts =
      ap (λ (ds : List Debt). due ++ ds) (sym split)
      ∙ sym (append_assoc due (due_of (week_start w) debts) (open_of (week_start w) debts)) in
      let t' : AreTurns line horizon (week_start w) e rests
      ((due ++ due_of (week_start w) debts) ++ open_of (week_start w) debts) =
      subst (λ (ds : List Debt). AreTurns line horizon (week_start w) e rests ds) same t in
      let of : IsWeekOf line w (week_start w) e = record {
        within = λ run rests' from below. (from, omega arith);
        whole = λ run rests' in'. (in'.0, whole run rests' in');
      } in
      let main : IsMainOf line horizon w (longest_rest end None rests) =
      main_found line horizon end w (week_start w) e rests (due ++ debts) t of known in
      turns_all line horizon end w l.runs l.are (longest_rest end None rests) main
      (if over then debt_for w (longest_rest end None rests) else None) (owed (longest_rest end None rests) main)
      (due ++ due_of (week_start w) debts)
      (λ debt in'. come_both w due debts s.come debt in')
      (week_start w) e rests (open_of (week_start w) debts) t'
      (λ run in'. (let is = (t.each run).0 in' in (is.2, omega arith), known run in'))
      (λ run in' is. few_open w due debts t.kept)

  -- the next run of the week
  module _ (e w : ℕ) (rests : List Run) (due debts : List Debt) (s : IsSoFar line horizon e w rests due debts)
      (run : Run) (n : IsNext line e run) (week : IsInWeek w run.start) where
    -- a run that starts at or before the start of the next run is that run or an earlier one
    by_next : (x : Run) → IsRestRun line x → x.start < run.start + 1 → (x ≡ run) ⊎ (x.start < e)
    by_next x rests' below = elim (cases_lt x.start run.start) [
      | inl sooner ↦ inr (n.none x rests' sooner)
      | inr here ↦ inl (one_run line horizon l.runs l.are x run rests' n.rests (omega arith))
    ]

    -- a run of fewer than nine hours
    pub next_short : minutes_of run < 540 → IsSoFar line horizon (run.start + 1) w rests due debts
    next_short short = record {
      turns = record {
        kept = s.turns.kept;
        each = λ x. (
          λ in'. (let is = (s.turns.each x).0 in' in
              let from : e ≤ run.start = n.from in
              (is.0, is.1, is.2, omega arith)),
          λ (rests', long, from, below). elim (by_next x rests' below) [
            | inl same ↦ absurd (let f : minutes_of x ≡ minutes_of run = ap minutes_of same in omega arith)
            | inr old ↦ (s.turns.each x).1 (rests', long, from, old)
          ],
        );
        in_order = s.turns.in_order;
        below = let from : e ≤ run.start = n.from in let b : week_start w ≤ e = s.turns.below in omega arith;
      };
      high = let high' : run.start < week_start (w + 1) = week.1 in omega arith;
      come = s.come;
    }

    room : 540 ≤ minutes_of run → length rests < 19
    room long =
        let low : week_start w ≤ run.start = week.0 in
        let high : run.start < week_start (w + 1) = week.1 in
        let few : 541 * length rests + week_start w ≤ (run.start - 540) + 540 =
        few_rests line rests (week_start w) (run.start - 540) s.turns.in_order (λ x in'.
        (let is = (s.turns.each x).0 in' in
        let before : x.start < e = is.3 in
        let from : e ≤ run.start = n.from in
        let apart : x.past < run.start = separate line x run is.0 n.rests (omega arith) in
        let long' : 540 ≤ minutes_of x = is.1 in
        (is.0, is.1, is.2, omega arith))) (omega arith) in
        omega arith

    -- a run of nine hours or more
    pub next_long : 540 ≤ minutes_of run → IsSoFar line horizon (run.start + 1) w (push_few 19 rests run) due debts
    next_long long =
        subst (λ (rs : List Run). IsSoFar line horizon (run.start + 1) w rs due debts)
        (sym (push_room 19 rests run (room long))) (record {
          turns = record {
            kept = s.turns.kept;
            each = λ x. (
              λ in'. elim (Contains-push_cases rests run x in') [
                | inl old ↦ (let is = (s.turns.each x).0 old in
                    let from : e ≤ run.start = n.from in
                    (is.0, is.1, is.2, omega arith))
                | inr same ↦ subst
                    (λ (r : Run). IsRestRun line r × (540 ≤ minutes_of r) × (week_start w ≤ r.start)
                    × (r.start < run.start + 1)) same (n.rests, long, week.0, omega arith)
              ],
              λ (rests', long', from, below). elim (by_next x rests' below) [
                | inl same ↦ subst (λ (r : Run). Contains (rests ++ run ∷ []) r) (sym same) (Contains-push rests run)
                | inr old ↦ Contains-append_left rests (run ∷ []) x ((s.turns.each x).1 (rests', long', from, old))
              ],
            );
            in_order = all_pairs_push StartsBefore rests run s.turns.in_order (λ k d within.
                (let is = (s.turns.each (get_or rests k d)).0 (Contains-get_or rests k d within) in
                let before : (get_or rests k d).start < e = is.3 in
                let from : e ≤ run.start = n.from in
                omega arith));
            below = let from : e ≤ run.start = n.from in let b : week_start w ≤ e = s.turns.below in omega arith;
          };
          high = let high' : run.start < week_start (w + 1) = week.1 in omega arith;
          come = s.come;
        })

  -- before the first run that starts in a week
  pub so_far_none : (base w : ℕ) → base ≡ week_start w
      → ((run : Run) → IsRestRun line run → run.start < base → run.start ≡ 0) → IsSoFar line horizon base w [] [] []
  so_far_none base w is none = record {
    turns = record {
      kept = record {
        owed = λ v amount. (
          λ o. absurd (let before : o.main.start < week_start w = o.before in
              let zero' : o.main.start ≡ 0 = none o.main o.is.candidate.rests (omega arith) in
              let low : week_start v ≤ o.main.start = o.is.candidate.week.0 in
              omega arith),
          λ (debt, (k, within, same), week, much). absurd (omega arith),
        );
        deadlines = λ debt (k, within, same). absurd (omega arith);
        in_order = λ i j d below within. absurd (omega arith);
        done = tt;
      };
      each = λ x. (λ (k, within, same). absurd (omega arith), λ (rests', long, from, below). absurd (omega arith));
      in_order = λ i j d below within. absurd (omega arith);
      below = omega arith;
    };
    high = omega arith;
    come = λ debt (k, within, same). absurd (omega arith);
  }

  -- a week is over once a run of a later week comes
  module _ (e w : ℕ) (rests : List Run) (due debts : List Debt) (s : IsSoFar line horizon e w rests due debts)
      (run : Run) (n : IsNext line e run) (v : ℕ) (week : IsInWeek v run.start) (later : w < v) where
    over : IsWeekOver line w
    over = record {
      last = last;
      is = l.is;
      no_end = l.no_end;
      after =
          let low : week_start v ≤ run.start = week.0 in
          let most : run.start ≤ last.start = l.all run n.rests in
          omega arith;
    }

    known : (x : Run) → Contains rests x → min x.past FAR ≡ min x.past horizon
    known x in' =
        let is = (s.turns.each x).0 in' in
        let before : x.start < e = is.3 in
        let from : e ≤ run.start = n.from in
        let most : run.start ≤ last.start = l.all run n.rests in
        let ended : x.past ≤ horizon = l.ended x is.0 (omega arith) in
        let early : horizon ≤ 68374080 = l.early in
        omega arith

    quiet_until : week_start v ≤ run.start → Quiet line e (week_start v)
    quiet_until low x rests' from below = absurd (let old : x.start < e = n.none x rests' (omega arith) in omega arith)

    pub next_week : IsSoFar line horizon (week_start v) v [] (due ++ due_of (week_start w) debts)
        (close_debts FAR true w rests debts)
    next_week =
        let low : week_start v ≤ run.start = week.0 in
        let high : e ≤ week_start (w + 1) = s.high in
        let k : AreDebtsBefore line horizon e ((due ++ due_of (week_start w) debts) ++ close_debts FAR true w rests debts) =
        close_week e w rests due debts FAR true s
        (λ x rests' in'. n.none x rests' (let high' : x.start < week_start (w + 1) = in'.1 in omega arith)) known
        (debt_found line horizon w l.runs l.are over) in
        record {
          turns = record {
            kept = kept_until line horizon e (week_start v)
                ((due ++ due_of (week_start w) debts) ++ close_debts FAR true w rests debts) (omega arith)
                (quiet_until low) k;
            each = λ x. (
              λ (i, within, same). absurd (omega arith),
              λ (rests', long, from, below). absurd
                  (omega arith),
            );
            in_order = λ i j d below within. absurd (omega arith);
            below = omega arith;
          };
          high = omega arith;
          come = λ debt in'.
              (let due' : debt.deadline ≤ week_start w = come_both w due debts s.come debt in' in omega arith);
        }

    pub next_after : IsNext line (week_start v) run
    next_after = record {
      rests = n.rests;
      from = week.0;
      none = λ x rests' sooner. (let old : x.start < e = n.none x rests' sooner in
          let high : e ≤ week_start (w + 1) = s.high in
          omega arith);
    }

  -- the last week, which has the last run
  pub last_week : (w : ℕ) (rests : List Run) (due debts : List Debt)
      → IsSoFar line horizon (last.start + 1) w rests due debts → IsInWeek w last.start
      → AreDebts line horizon ((due ++ due_of (week_start w) debts) ++ close_debts horizon false w rests debts)
  last_week w rests due debts s week =
      kept_all line horizon (last.start + 1)
      ((due ++ due_of (week_start w) debts) ++ close_debts horizon false w rests debts)
      (λ run rests'. (let most : run.start ≤ last.start = l.all run rests' in omega arith))
      (close_week (last.start + 1) w rests due debts horizon false s
      (λ run rests' in'. (let most : run.start ≤ last.start = l.all run rests' in omega arith)) (λ run in'. refl)
      (λ main is amount owes.
      (let after : week_start (w + 1) ≤ owes.last.start = owes.ended in
      let most : owes.last.start ≤ last.start = l.all owes.last owes.last_run in
      let high : last.start < week_start (w + 1) = week.1 in
      omega arith)))
