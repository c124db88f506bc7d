-- The state of the ledger, rest by rest (specs/Turns, IsLedger).
use Rattle.std.proofs.Common.{◌≡◌, ◌≢◌, ℕ, ◌+◌, ◌<◌, ◌≤◌, inl, inr, Bool, true, false, List, [], ◌++◌, refl, sym, ap}
use Rattle.std.proofs.Common.{ap₂, ◌∙◌, arith, nat_le, if◌then◌else◌}
use Rattle.std.proofs.lemmas.Bool.{cases_lt}
use Rattle.std.proofs.lemmas.Bool.Decides.{nat_tests}
use Rattle.tacho_law.specs.declared.run.Run.{Run}
use Rattle.tacho_law.specs.declared.run.TheConstants.{FAR}
use Rattle.tacho_law.specs.declared.debt.Debt.{Debt}
use Rattle.tacho_law.specs.declared.breach.Breach.{Breach}
use Rattle.tacho_law.specs.Runs.{minutes_of}
use Rattle.tacho_law.specs.Line.{Line}
use Rattle.tacho_law.specs.Weeks.{week_start, IsInWeek}
use Rattle.tacho_pass.specs.Heard.{IsNext, IsLineTo}
use Rattle.tacho_rests.specs.Turns.{IsLedger, IsOpened, IsOwed}
use Rattle.tacho_rests.specs.Paying.{push_few, rests_with, due_of, close_debts, overdue_of}
use Rattle.tacho_rests.proofs.OverdueOfLemmas.{overdue_append, overdue_same}
use Rattle.tacho_rests.proofs.SoFarLemmas.{next_short, next_long, next_week, next_after, last_week, all_due}

module _ (line : Line) (horizon : ℕ) (last : Run) (l : IsLineTo line horizon last) where
  -- the ledger of the next week
  pub ledger_later : (e w : ℕ) (rests : List Run) (debts : List Debt) (own : List Breach) (owed : List Debt) (run : Run)
      (v : ℕ) → IsLedger line horizon e w rests debts own owed → IsNext line e run → IsInWeek v run.start → w ≢ v
      → IsOpened line horizon run v [] (close_debts FAR true w rests debts)
      (own ++ overdue_of (week_start w) (due_of (week_start w) debts)) (owed ++ due_of (week_start w) debts)
  ledger_later e w rests debts own owed run v s n week other =
      let below : week_start w ≤ e = s.so_far.turns.below in
      let from : e ≤ run.start = n.from in
      let high : run.start < week_start (v + 1) = week.1 in
      let low : week_start v ≤ run.start = week.0 in
      let later : w < v = elim (cases_lt w v) [ inl lt ↦ lt | inr ge ↦ absurd (other (omega arith)) ] in
      let most : run.start ≤ last.start = l.all run n.rests in
      let end : last.start ≤ horizon = l.start in
      let due : overdue_of (week_start w) (due_of (week_start w) debts) ≡ overdue_of horizon
      (due_of (week_start w) debts) =
      overdue_same (week_start w) horizon (due_of (week_start w) debts) (omega arith)
      (all_due (week_start w) debts) in
      record {
        e = week_start v;
        next = next_after line horizon last l e w rests owed debts s.so_far run n v week later;
        ledger = record {
          so_far = next_week line horizon last l e w rests owed debts s.so_far run n v week later;
          own_is = ap₂ (λ (xs ys : List Breach). xs ++ ys) s.own_is due
              ∙ sym (overdue_append horizon owed (due_of (week_start w) debts));
        };
      }

  -- with one more rest
  rest_if : (e w : ℕ) (rests : List Run) (debts : List Debt) (own : List Breach) (owed : List Debt) (run : Run)
      → IsLedger line horizon e w rests debts own owed → IsNext line e run → IsInWeek w run.start → (b : Bool)
      → nat_le 540 (minutes_of run) ≡ b
      → IsLedger line horizon (run.start + 1) w (if b then push_few 19 rests run else rests) debts own owed
  rest_if e w rests debts own owed run s n week true is =
      record {
        so_far = next_long line horizon last l e w rests owed debts s.so_far run n week (let f : 540 ≤ minutes_of run =
            grind (arith, nat_tests) in f);
        own_is = s.own_is;
      }
  rest_if e w rests debts own owed run s n week false is =
      record {
        so_far = next_short line horizon last l e w rests owed debts s.so_far run n week (let f : minutes_of run < 540 =
            grind (arith, nat_tests) in f);
        own_is = s.own_is;
      }

  pub ledger_rest : (w : ℕ) (rests : List Run) (debts : List Debt) (own : List Breach) (owed : List Debt) (run : Run)
      → IsOpened line horizon run w rests debts own owed → IsInWeek w run.start
      → IsLedger line horizon (run.start + 1) w (rests_with rests run) debts own owed
  ledger_rest w rests debts own owed run o week =
      rest_if o.e w rests debts own owed run o.ledger o.next week (nat_le 540 (minutes_of run)) refl

  -- the ledger after the last rest
  pub ledger_last : (w : ℕ) (rests : List Run) (debts : List Debt) (own : List Breach) (owed : List Debt)
      → IsLedger line horizon (last.start + 1) w rests debts own owed → IsInWeek w last.start
      → IsOwed line horizon
      ((own ++ overdue_of (week_start w) (due_of (week_start w) debts)) ++ overdue_of horizon
      (close_debts horizon false w rests debts))
      ((owed ++ due_of (week_start w) debts) ++ close_debts horizon false w rests debts)
  ledger_last w rests debts own owed s week =
      let low : week_start w ≤ last.start = week.0 in
      let end : last.start ≤ horizon = l.start in
      let due : overdue_of (week_start w) (due_of (week_start w) debts) ≡ overdue_of horizon
      (due_of (week_start w) debts) =
      overdue_same (week_start w) horizon (due_of (week_start w) debts) (omega arith)
      (all_due (week_start w) debts) in
      record {
        are_debts = last_week line horizon last l w rests owed debts s.so_far week;
        own_is = ap (λ (xs : List Breach). xs ++ overdue_of horizon (close_debts horizon false w rests debts))
            (ap₂ (λ (xs ys : List Breach). xs ++ ys) s.own_is due
            ∙ sym (overdue_append horizon owed (due_of (week_start w) debts)))
            ∙ sym (overdue_append horizon (owed ++ due_of (week_start w) debts) (close_debts horizon false w rests debts));
      }

-- the run from `start` on without an end
pub same_run : (run : Run) (start : ℕ) → run.start ≡ start → run.past ≡ FAR → record { start = start; past = FAR } ≡ run
same_run run start e f =
    let one : ℕ → Run = λ x. record { start = x; past = FAR } in
    let two : ℕ → Run = λ x. record { start = run.start; past = x } in
    ap one (sym e) ∙ ap two (sym f)
