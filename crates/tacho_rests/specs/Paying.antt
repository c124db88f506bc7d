-- Private to tacho_rests: What the rests of a week pay and owe, rest by rest (Regulation (EC) No 561/2006, Articles 4(h), 8(6b) and 8(7);
-- 8(6b) as amended by (EU) 2020/1054).
use Rattle.std.specs.Prelude.{ℕ, ◌+◌, ◌-◌, ◌&&◌, Bool, true, false, nat_le, nat_lt, nat_eq, min, List, [], ◌∷◌, ◌++◌}
use Rattle.std.specs.Prelude.{length, Option, None, Some, if◌then◌else◌}
use Rattle.std.specs.Option.{option_map_or}
use Rattle.tacho_law.specs.declared.run.Run.{Run}
use Rattle.tacho_law.specs.declared.debt.Debt.{Debt}
use Rattle.tacho_law.specs.declared.breach.Breach.{Breach}
use Rattle.tacho_law.specs.declared.breach.Kind.TheVariants.{B10}
use Rattle.tacho_law.specs.Limits.{daily_rest, weekly_rest, regular_weekly_rest, weeks_to_pay}
use Rattle.tacho_law.specs.Runs.{minutes_of}
use Rattle.tacho_law.specs.Debts.{minutes_before}
use Rattle.tacho_law.specs.Weeks.{week_start}

-- appends an item, if the list has fewer than `most`
abbrev pub push_few : {A : Type 0} → ℕ → List A → A → List A
push_few most xs x = if nat_lt (length xs) most then xs ++ x ∷ [] else xs

-- Article 8(6b), en bloc and before the deadline: no rest pays the debt yet, and this rest has room for all of it, in addition to the
-- minutes that are spent
abbrev pub takes : Run → ℕ → ℕ → Debt → Bool
takes rest end spent debt =
    option_map_or (λ start. false) debt.paid_by true
    && nat_le debt.amount (minutes_before (min end debt.deadline) rest - spent)

-- the debts after the rest's turn, which starts from the oldest
abbrev pub pay_all : Run → ℕ → ℕ → List Debt → List Debt
pay_all rest end spent [] = []
pay_all rest end spent (debt ∷ debts) =
    if takes rest end spent debt
    then record debt { paid_by = Some rest.start } ∷ pay_all rest end (spent + debt.amount) debts
    else debt ∷ pay_all rest end spent debts

-- Article 4(h): the longer of two rests with a day or more; the first, if they are equally long
abbrev pub longer : ℕ → Option Run → Run → Option Run
longer end None rest = if nat_le weekly_rest (minutes_before end rest) then Some rest else None
longer end (Some main) rest = if nat_lt (minutes_before end main) (minutes_before end rest) then Some rest
    else Some main

-- the longest of this rest and the rests in a list
abbrev pub longest_rest : ℕ → Option Run → List Run → Option Run
longest_rest end main [] = main
longest_rest end main (rest ∷ rests) = longest_rest end (longer end main rest) rests

-- Articles 4(h) and 8(6b), a reduction: what a week owes for its main rest, and the deadline
abbrev pub debt_for : ℕ → Option Run → Option Debt
debt_for w None = None
debt_for w (Some main) =
    if nat_lt (minutes_of main) regular_weekly_rest
    then Some (record {
      week = w;
      amount = regular_weekly_rest - minutes_of main;
      deadline = week_start (w + weeks_to_pay);
      paid_by = None;
    })
    else None

-- true if the rest is the main rest
abbrev pub is_main : Option Run → Run → Bool
is_main main rest = option_map_or (λ (m : Run). nat_eq m.start rest.start) main false

-- the debts after the turn of a rest of a week: the main rest keeps 45 hours (Article 8(6)) and leaves what the week owes; any other rest
-- keeps the nine hours to which a compensation is attached (Article 8(7))
abbrev pub turn : ℕ → Option Run → Option Debt → Run → List Debt → List Debt
turn end main owed rest debts =
    if is_main main rest
    then option_map_or (λ (debt : Debt). push_few 4 (pay_all rest end regular_weekly_rest debts) debt) owed
    (pay_all rest end regular_weekly_rest debts)
    else pay_all rest end daily_rest debts

-- the debts after the turns of several rests
abbrev pub turns : ℕ → Option Run → Option Debt → List Run → List Debt → List Debt
turns end main owed [] debts = debts
turns end main owed (rest ∷ rests) debts = turns end main owed rests (turn end main owed rest debts)

-- the debts whose deadline is at or before a minute
abbrev pub due_of : ℕ → List Debt → List Debt
due_of by [] = []
due_of by (debt ∷ debts) = if nat_le debt.deadline by then debt ∷ due_of by debts else due_of by debts

-- the debts whose deadline is after a minute
abbrev pub open_of : ℕ → List Debt → List Debt
open_of by [] = []
open_of by (debt ∷ debts) = if nat_le debt.deadline by then open_of by debts else debt ∷ open_of by debts

-- the open debts after a week with these rests; the week owes something only once it is over
abbrev pub close_debts : ℕ → Bool → ℕ → List Run → List Debt → List Debt
close_debts end over w rests debts =
    turns end (longest_rest end None rests) (if over then debt_for w (longest_rest end None rests) else None) rests
    (open_of (week_start w) debts)

-- Article 8(6b): the breach of a debt that wasn't paid in time
abbrev pub overdue_breach : Debt → Breach
overdue_breach debt =
    record { kind = B10; moment = debt.deadline; since = week_start debt.week; amount = debt.amount }

-- true if no rest pays the debt, and its deadline is at or before a minute
abbrev pub is_overdue : ℕ → Debt → Bool
is_overdue by debt = option_map_or (λ start. false) debt.paid_by true && nat_le debt.deadline by

-- the breaches of the debts that are overdue at a minute
abbrev pub overdue_of : ℕ → List Debt → List Breach
overdue_of by [] = []
overdue_of by (debt ∷ debts) = if is_overdue by debt then overdue_breach debt ∷ overdue_of by debts else overdue_of by debts

-- the rests of a week with one more run, if the run has nine hours
abbrev pub rests_with : List Run → Run → List Run
rests_with rests run = if nat_le daily_rest (minutes_of run) then push_few 19 rests run else rests
