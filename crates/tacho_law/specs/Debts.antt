-- Trusted: Reduced weekly rests and their compensation (Regulation (EC) No 561/2006, Articles 4(h), 8(6), 8(6b) and 8(7); 8(6) and 8(6b) as
-- amended by (EU) 2020/1054).
use Rattle.std.specs.Prelude.{◌≡◌, ℕ, ◌+◌, ◌-◌, ◌<◌, ◌≤◌, ◌↔◌, List, Contains, AllPairs, min}
use Rattle.std.specs.Prelude.{sum_by, take, Some, slice_get, MatchOption, if◌then◌else◌, nat_eq}
use Rattle.std.specs.Option.{option_map_or}
use Rattle.tacho_law.specs.declared.run.Run.{Run}
use Rattle.tacho_law.specs.declared.run.TheConstants.{FAR}
use Rattle.tacho_law.specs.Runs.{IsRestRun, Before, minutes_of}
use Rattle.tacho_law.specs.declared.debt.Debt.{Debt}
use Rattle.tacho_law.specs.Line.{Line}
use Rattle.tacho_law.specs.Weeks.{week_start, IsInWeek}
use Rattle.tacho_law.specs.Limits.{daily_rest, weekly_rest, regular_weekly_rest, weeks_to_pay}

-- the minutes of a run before a minute; if this is the horizon, the minutes that are known
abbrev pub minutes_before : ℕ → Run → ℕ
minutes_before end run = min run.past end - run.start

-- Article 4(h), a weekly rest of the week: a run that starts in it, with 24 hours (1440 minutes) or more before the horizon
pub record IsCandidate (line : Line) (horizon w : ℕ) (run : Run) : Type 0 where
  pub rests : IsRestRun line run
  pub week : IsInWeek w run.start
  pub enough : weekly_rest ≤ minutes_before horizon run

-- the longest weekly rest of the week, and of several equally long ones the earliest: the week is judged by it
pub record IsMainRest (line : Line) (horizon w : ℕ) (run : Run) : Type 0 where
  pub candidate : IsCandidate line horizon w run
  pub best : (other : Run) → IsCandidate line horizon w other → other.start < run.start
      → minutes_before horizon other < minutes_before horizon run
  pub first : (other : Run) → IsCandidate line horizon w other → run.start < other.start
      → minutes_before horizon other ≤ minutes_before horizon run

-- Articles 4(h) and 8(6b), a reduction: a week owes what its main rest lacks of 45 hours (2700 minutes), once the last run starts in a
-- later week
pub record Owes (line : Line) (horizon w amount : ℕ) : Type 0 where
  pub main : Run
  pub last : Run
  pub is : IsMainRest line horizon w main
  pub some : 0 < amount
  pub lacks : minutes_of main + amount ≡ regular_weekly_rest
  pub last_run : IsRestRun line last
  pub no_end : last.past ≡ FAR
  pub ended : week_start (w + 1) ≤ last.start

-- what a run keeps for itself: 45 hours (2700 minutes) as the main rest of a week (Article 8(6b)); otherwise the nine hours (540 minutes)
-- to which a compensation is attached (Article 8(7))
pub record Keeps (line : Line) (horizon : ℕ) (run : Run) (kept : ℕ) : Type 0 where
  pub main : (w : ℕ) → IsMainRest line horizon w run → kept ≡ regular_weekly_rest
  pub other : ((w : ℕ) → IsMainRest line horizon w run → ⊥) → kept ≡ daily_rest

-- what a run pays of a debt
abbrev pub share : Run → Debt → ℕ
share run debt = option_map_or (λ start. if nat_eq start run.start then debt.amount else 0) debt.paid_by 0

-- what a run pays of several debts
abbrev pub paid_from : Run → List Debt → ℕ
paid_from run debts = sum_by (share run) debts

-- Article 8(6b), en bloc and before the deadline: the run has room for the whole debt, in addition to what it keeps and what it pays of
-- earlier debts
pub record HasRoom (line : Line) (horizon : ℕ) (earlier : List Debt) (debt : Debt) (run : Run) : Type 0 where
  pub kept : ℕ
  pub keeps : Keeps line horizon run kept
  pub room : kept + paid_from run earlier + debt.amount ≤ minutes_before (min horizon debt.deadline) run

-- a run after the debt's main rest that has room for the debt
pub record CanPay (line : Line) (horizon : ℕ) (earlier : List Debt) (debt : Debt) (run : Run) : Type 0 where
  pub main : Run
  pub is : IsMainRest line horizon debt.week main
  pub rests : IsRestRun line run
  pub after : Before main run
  pub room : HasRoom line horizon earlier debt run

-- the first run that can pay the debt pays it
pub record Pays (line : Line) (horizon : ℕ) (earlier : List Debt) (debt : Debt) (start : ℕ) : Type 0 where
  pub payer : Run
  pub is : payer.start ≡ start
  pub can : CanPay line horizon earlier debt payer
  pub first : (run : Run) → Before run payer → CanPay line horizon earlier debt run → ⊥

-- the debt has the right payer, given the earlier debts with theirs
abbrev pub IsSettled : Line → ℕ → List Debt → Debt → Type 0
IsSettled line horizon earlier debt = MatchOption debt.paid_by
    ((run : Run) → CanPay line horizon earlier debt run → ⊥)
    (λ start. Pays line horizon earlier debt start)

-- the week of one debt is earlier than that of the other
abbrev pub EarlierWeek : Debt → Debt → Type 0
EarlierWeek a b = a.week < b.week

-- the debts by week, whoever pays them. The deadline is the end of the third week following (Article 8(6b)), which is the first minute of
-- the fourth.
pub record AreOwed (line : Line) (horizon : ℕ) (debts : List Debt) : Type 0 where
  pub owed : (w amount : ℕ)
      → Owes line horizon w amount ↔ ((debt : Debt) × Contains debts debt × (debt.week ≡ w) × (debt.amount ≡ amount))
  pub deadlines : (debt : Debt) → Contains debts debt → debt.deadline ≡ week_start (debt.week + weeks_to_pay)
  pub in_order : AllPairs EarlierWeek debts

-- the debts by week, with their payers; there is one such list
pub record AreDebts (line : Line) (horizon : ℕ) (debts : List Debt) : Type 0 where
  pub are_owed : AreOwed line horizon debts
  pub settled : (i : ℕ) (debt : Debt) → slice_get debts i ≡ Some debt → IsSettled line horizon (take i debts) debt
