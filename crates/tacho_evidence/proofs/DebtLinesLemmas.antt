-- The lines of a debt that nothing pays (`debt_lines`): the main rest of its week, what a rest pays of older debts, and the rooms of the later
-- rests.
use Rattle.std.proofs.Common.{◌≡◌, ℕ, zero, suc, ◌+◌, ◌-◌, ◌<◌, ◌≤◌, inl, inr, List, [], ◌∷◌, ◌++◌, refl, sym, ap, subst, ◌∙◌, arith}
use Rattle.std.proofs.Common.{Bool, true, false, Option, None, Some, get_or, min, take, length}
use Rattle.std.specs.Prelude.{◌↔◌, slice_get, MatchOption, nat_eq, sum_by, if◌then◌else◌}
use Rattle.std.specs.List.{AllPairs, Contains}
use Rattle.std.specs.Option.{option_map_or}
use Rattle.std.proofs.lemmas.Bool.{cases_lt, eqb-true}
use Rattle.std.proofs.lemmas.List.Elements.{All-contains, Contains-get_or}
use Rattle.std.proofs.lemmas.List.Sums.{sum_by_more}
use Rattle.std.proofs.lemmas.Option.{slice_get-get_or, MatchOption-at_none}
use Rattle.tacho_time.specs.declared.span.Span.{Span}
use Rattle.tacho_law.specs.declared.run.Run.{Run}
use Rattle.tacho_law.specs.declared.breach.Breach.{Breach}
use Rattle.tacho_law.specs.declared.debt.Debt.{Debt}
use Rattle.tacho_law.specs.Breaches.{IsB10}
use Rattle.tacho_law.specs.Debts.{minutes_before, paid_from, share, AreDebts, CanPay, IsMainRest, IsSettled, Owes, Pays}
use Rattle.tacho_law.specs.Exactly.{AreExactly}
use Rattle.tacho_law.specs.Line.{line_of, IsExamined, Line}
use Rattle.tacho_law.specs.Runs.{minutes_of, AreRestRuns, AreRestsOf, Before, IsRestRun}
use Rattle.tacho_law.specs.Weeks.{week_start}
use Rattle.tacho_law.proofs.DrivingLemmas.{line_from_past}
use Rattle.tacho_law.proofs.ExactlyLemmas.{at_index, exactly_as}
use Rattle.tacho_law.proofs.RunsLemmas.{rest_runs_are}
use Rattle.tacho_periods.specs.Rests.{AreInTime}
use Rattle.tacho_periods.proofs.KeptLemmas.{AreKept}
use Rattle.tacho_evidence.specs.declared.line.EvidenceLine.{EvidenceLine}
use Rattle.tacho_evidence.specs.declared.line.EvidenceLine.TheVariants.{Main, Owes as OwesLine}
use Rattle.tacho_evidence.specs.Evidence.{AreRooms, IsDebtEvidence, IsLaterRest}
use Rattle.tacho_evidence.proofs.DebtKeepLemmas.{main_of_owing}
use Rattle.tacho_evidence.proofs.DebtLemmas.{no_rooms, owes_of}
use Rattle.tacho_evidence.proofs.RestsLemmas.{three_ways}

-- ---- rests in time

module _ (spans : List Span) (base past : ℕ) (x : IsExamined spans base past) where
  -- a rest run of an examined line starts by the end of 2099
  starts_early : (run : Run) → IsRestRun (line_of spans) run → run.start ≤ 68374080
  starts_early run is =
      let within : past ≤ 68374080 = x.within in
      elim is.from [
        | inl none ↦ omega arith
        | inr busy ↦ elim (cases_lt 68374080 run.start) [
          | inl late ↦ absurd (busy (run.start - 1) (omega arith)
              (line_from_past spans base past (run.start - 1) x.joined (omega arith)))
          | inr early ↦ early
        ]
      ]

  -- so its rest runs are in time
  pub runs_in_time : (runs : List Run) → AreRestRuns (line_of spans) runs → AreInTime runs
  runs_in_time runs are = record {
    some = (rest_runs_are (line_of spans) runs are).some;
    in_order = are.in_order;
    early = λ k d within.
        starts_early (get_or runs k d) (at_index (IsRestRun (line_of spans)) Before runs are k d within);
  }

  -- and likewise the long ones
  pub rests_in_time : (least : ℕ) (rests : List Run) → AreRestsOf (line_of spans) least rests → AreInTime rests
  rests_in_time least rests are = record {
    some = λ k d within. (at_index (λ run. _) Before rests are k d within).rests.some;
    in_order = are.in_order;
    early = λ k d within.
        starts_early (get_or rests k d) (at_index (λ run. _) Before rests are k d within).rests;
  }

-- and so is a part of them in order
pub part_in_time : (rests part : List Run) → AreInTime rests → ((run : Run) → Contains part run → Contains rests run)
    → AllPairs Before part → AreInTime part
part_in_time rests part are among order = record {
  some = λ k d within.
      All-contains (λ (run : Run). run.start < run.past) rests (get_or part k d) are.some
      (among (get_or part k d) (Contains-get_or part k d within));
  in_order = order;
  early = λ k d within.
      All-contains (λ (run : Run). run.start ≤ 68374080) rests (get_or part k d) are.early
      (among (get_or part k d) (Contains-get_or part k d within));
}

-- ---- what a rest pays

-- the result of a place past the end of a list of debts
abbrev no_debt : Debt
no_debt = record { week = 0; amount = 0; deadline = 0; paid_by = None }

-- what is paid stays within a limit if one more debt is paid or isn't
paid_or : (b : Bool) (paid amount limit : ℕ) → paid ≤ limit → (b ≡ true → paid + amount ≤ limit)
    → paid + (if b then amount else 0) ≤ limit
paid_or true paid amount limit le more = more refl
paid_or false paid amount limit le more = omega arith

-- likewise by the debt's payer
paid_by_or : (o : Option ℕ) (None' : Type 0) (Is : ℕ → Type 0) (start paid amount limit : ℕ) → MatchOption o None' Is
    → paid ≤ limit → ((s : ℕ) → s ≡ start → Is s → paid + amount ≤ limit)
    → paid + option_map_or (λ s. if nat_eq s start then amount else 0) o 0 ≤ limit
paid_by_or None None' Is start paid amount limit m le more = omega arith
paid_by_or (Some s) None' Is start paid amount limit m le more =
    paid_or (nat_eq s start) paid amount limit le (λ t. more s (eqb-true s start t) m)

-- what a run pays depends on its start
paid_by_start : (a b : Run) (debts : List Debt) → a.start ≡ b.start → paid_from a debts ≡ paid_from b debts
paid_by_start a b debts e =
    ap (λ (s : ℕ). sum_by (λ (debt : Debt). option_map_or (λ start. if nat_eq start s then debt.amount else 0) debt.paid_by 0) debts) e

-- a rest pays no more than what lies before the horizon
pub paid_within : (line : Line) (horizon : ℕ) (debts : List Debt) → AreDebts line horizon debts → (run : Run) (n : ℕ)
    → n ≤ length debts → paid_from run (take n debts) ≤ horizon
paid_within line horizon debts are run zero within = omega arith
paid_within line horizon debts are run (suc n) within =
    let debt : Debt = get_or debts n no_debt in
    let before : paid_from run (take n debts) ≤ horizon = paid_within line horizon debts are run n (omega arith) in
    let more : paid_from run (take (n + 1) debts) ≡ paid_from run (take n debts) + share run debt =
    sum_by_more (share run) debts n no_debt (omega arith) in
    let settled : IsSettled line horizon (take n debts) debt =
    are.settled n debt (slice_get-get_or debts n no_debt (omega arith)) in
    let le : paid_from run (take n debts) + share run debt ≤ horizon =
    paid_by_or debt.paid_by ((r : Run) → CanPay line horizon (take n debts) debt r → ⊥)
    (λ start. Pays line horizon (take n debts) debt start) run.start (paid_from run (take n debts)) debt.amount horizon
    settled before (λ start same pays.
    let e : paid_from pays.payer (take n debts) ≡ paid_from run (take n debts) =
    paid_by_start pays.payer run (take n debts) (pays.is ∙ same) in
    let room : pays.can.room.kept + paid_from pays.payer (take n debts) + debt.amount
    ≤ minutes_before (min horizon debt.deadline) pays.payer = pays.can.room.room in
    omega (arith, e, room)) in
    let after : paid_from run (take (n + 1) debts) ≤ horizon = omega (arith, more, le) in
    let same : n + 1 ≡ suc n = omega arith in
    subst (λ (m : ℕ). paid_from run (take m debts) ≤ horizon) same after

-- ---- the rooms

-- of some rests, those with nine hours before the horizon have their lines, which were appended
pub record HaveLines (line : Line) (horizon : ℕ) (older : List Debt) (deadline : ℕ) (rests : List Run)
    (before lines : List EvidenceLine) : Type 0 where
  pub long : List Run
  pub rooms : List EvidenceLine
  pub kept : AreKept Run Before (λ run. 540 ≤ minutes_before horizon run) rests long
  pub are : AreRooms line horizon older deadline long rooms
  pub is : lines ≡ before ++ rooms

-- one more rest has its line
pub rooms_push : (line : Line) (horizon : ℕ) (older : List Debt) (deadline : ℕ) (runs : List Run) (run : Run)
    (rooms : List EvidenceLine) (room : EvidenceLine) → AreRooms line horizon older deadline runs rooms
    → AreRooms line horizon older deadline (run ∷ []) (room ∷ [])
    → AreRooms line horizon older deadline (runs ++ run ∷ []) (rooms ++ room ∷ [])
rooms_push line horizon older deadline [] run rooms room are one =
    subst (λ (ls : List EvidenceLine). AreRooms line horizon older deadline (run ∷ []) (ls ++ room ∷ [])) (sym are) one
rooms_push line horizon older deadline (r ∷ runs) run rooms room are one = (
  are.0,
  are.1 ++ room ∷ [],
  are.2,
  ap (λ (ls : List EvidenceLine). ls ++ room ∷ []) are.3,
  rooms_push line horizon older deadline runs run are.1 room are.4 one,
)

-- the numbers that they are about may be replaced by equal ones
pub lines_as : (line : Line) (h horizon d deadline : ℕ) (older others : List Debt) (rests : List Run) (first before lines : List EvidenceLine)
    → h ≡ horizon → d ≡ deadline → older ≡ others → first ≡ before
    → HaveLines line h older d rests first lines → HaveLines line horizon others deadline rests before lines
lines_as line h horizon d deadline older others rests first before lines e f g i have =
    subst (λ (ls : List EvidenceLine). HaveLines line horizon others deadline rests ls lines) i
    (subst (λ (ds : List Debt). HaveLines line horizon ds deadline rests first lines) g
    (subst (λ (m : ℕ). HaveLines line horizon older m rests first lines) f
    (subst (λ (m : ℕ). HaveLines line m older d rests first lines) e have)))

-- ---- the debt

-- where a debt that nothing pays is, and its week's main rest
pub record IsUnpaid (line : Line) (horizon : ℕ) (debts : List Debt) (breach : Breach) : Type 0 where
  pub place : ℕ
  pub debt : Debt
  pub this : slice_get debts place ≡ Some debt
  pub within : place < length debts
  pub owes : Owes line horizon debt.week debt.amount
  pub deadline : debt.deadline ≡ week_start (debt.week + 4)
  pub never : (run : Run) → CanPay line horizon (take place debts) debt run → ⊥
  pub due : debt.deadline ≤ horizon
  pub moment : breach.moment ≡ debt.deadline
  pub since : breach.since ≡ week_start debt.week
  pub amount : breach.amount ≡ debt.amount

-- a breach B10 is about such a debt
pub unpaid_of : (line : Line) (horizon : ℕ) (debts : List Debt) (breach : Breach) → AreDebts line horizon debts
    → IsB10 horizon debts breach → IsUnpaid line horizon debts breach
unpaid_of line horizon debts breach are h =
    let place : ℕ = h.owed.0 in
    let this : slice_get debts place ≡ Some h.debt =
    slice_get-get_or debts place h.debt h.owed.1 ∙ ap Some h.owed.2 in
    record {
      place = place;
      debt = h.debt;
      this = this;
      within = h.owed.1;
      owes = owes_of line horizon debts h.debt are h.owed;
      deadline = are.are_owed.deadlines h.debt h.owed;
      never = MatchOption-at_none ((run : Run) → CanPay line horizon (take place debts) h.debt run → ⊥)
          (λ start. Pays line horizon (take place debts) h.debt start) h.unpaid (are.settled place h.debt this);
      due = h.due;
      moment = h.moment;
      since = h.since;
      amount = h.amount;
    }

-- the week in which the breach's range begins is the debt's
pub week_is : (line : Line) (horizon : ℕ) (debts : List Debt) (breach : Breach) (u : IsUnpaid line horizon debts breach)
    (w : ℕ) → week_start w ≤ breach.since → breach.since < week_start (w + 1) → w ≡ u.debt.week
week_is line horizon debts breach u w from before =
    let since : breach.since ≡ week_start u.debt.week = u.since in
    omega (arith, from, before, since)

-- a main rest is that of equal numbers
pub main_as : (line : Line) (h horizon w v : ℕ) (main : Run) → h ≡ horizon → w ≡ v → IsMainRest line h w main
    → IsMainRest line horizon v main
main_as line h horizon w v main e f is =
    subst (λ (m : ℕ). IsMainRest line m v main) e (subst (λ (m : ℕ). IsMainRest line h m main) f is)

-- the lines before the rooms, with the breach's numbers, are those with the debt's
pub first_lines : (line : Line) (horizon : ℕ) (debts : List Debt) (breach : Breach) (u : IsUnpaid line horizon debts breach)
    (main : Run)
    → OwesLine breach.since breach.amount breach.moment ∷ (Main main ∷ [])
    ≡ OwesLine (week_start u.debt.week) u.debt.amount u.debt.deadline ∷ (Main main ∷ [])
first_lines line horizon debts breach u main =
    let one : ℕ → ℕ → ℕ → List EvidenceLine = λ w a d. OwesLine w a d ∷ (Main main ∷ []) in
    ap (λ (w : ℕ). one w breach.amount breach.moment) u.since
    ∙ (ap (λ (a : ℕ). one (week_start u.debt.week) a breach.moment) u.amount
    ∙ ap (one (week_start u.debt.week) u.debt.amount) u.moment)

module _ (line : Line) (runs : List Run) (all : AreRestRuns line runs) (horizon : ℕ) (debts : List Debt) (breach : Breach)
    (u : IsUnpaid line horizon debts breach) (main : Run) (is : IsMainRest line horizon u.debt.week main) where
  -- the main rest ends before the deadline
  pub ends_in_time : main.past ≤ u.debt.deadline
  ends_in_time =
      let same : main ≡ u.owes.main =
      main_of_owing line horizon u.debt.week u.debt.amount main u.owes.main u.owes is u.owes.is in
      let e : minutes_of main ≡ minutes_of u.owes.main = ap (λ (r : Run). minutes_of r) same in
      let lacks : minutes_of u.owes.main + u.debt.amount ≡ 2700 = u.owes.lacks in
      let below : main.start < week_start (u.debt.week + 1) = is.candidate.week.1 in
      let deadline : u.debt.deadline ≡ week_start (u.debt.week + 4) = u.deadline in
      omega (arith, e, lacks, below, deadline)

  -- a rest with a minute after the main rest comes after it
  comes_after : (run : Run) → IsRestRun line run → main.past < run.past → Before main run
  comes_after run rests late = elim (three_ways line runs all main run is.candidate.rests rests) [
    | inl before ↦ before
    | inr other ↦ absurd (elim other [
      | inl same ↦ let e : main.past ≡ run.past = ap (λ (r : Run). r.past) same in omega (arith, late, e)
      | inr after ↦
          let l : run.past < main.start = after in
          let some : main.start < main.past = is.candidate.rests.some in
          omega (arith, late, l, some)
    ])
  ]

  -- with the rooms of the rests that have a minute between the main rest and the deadline, the lines are the evidence
  pub debt_evidence_of : (rests : List Run) (lines : List EvidenceLine)
      → ((run : Run) → Contains rests run ↔ (Contains runs run × (run.start < u.debt.deadline) × (main.past < run.past)))
      → HaveLines line horizon (take u.place debts) u.debt.deadline rests
      (OwesLine (week_start u.debt.week) u.debt.amount u.debt.deadline ∷ (Main main ∷ [])) lines
      → IsDebtEvidence line horizon debts breach lines
  debt_evidence_of rests lines each h =
      let rested : AreExactly (IsLaterRest line horizon u.debt.deadline main) Before h.long =
      exactly_as (λ run. Contains rests run × (540 ≤ minutes_before horizon run))
      (IsLaterRest line horizon u.debt.deadline main) Before h.long
      (λ run. (
        λ k.
            let among = (each run).0 k.0 in
            let rest : IsRestRun line run = (all.each run).0 among.0 in
            record { rest = rest; after = comes_after run rest among.2; enough = k.1; in_time = among.1 },
        λ k.
            let some : run.start < run.past = k.rest.some in
            let after : main.past < run.start = k.after in
            ((each run).1 ((all.each run).1 k.rest, k.in_time, omega (arith, some, after)), k.enough),
      ))
      h.kept in
      record {
        place = u.place;
        debt = u.debt;
        this = u.this;
        main = main;
        is = is;
        due = u.due;
        rests = h.long;
        rested = rested;
        rooms = h.rooms;
        rooms_are = h.are;
        none = no_rooms line horizon (take u.place debts) u.debt main is u.never h.long h.rooms
            (λ run i. (((rested.each run).0 i).rest, ((rested.each run).0 i).after)) h.are;
        moment = u.moment;
        since = u.since;
        amount = u.amount;
        lines_are = h.is;
      }
