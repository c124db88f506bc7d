-- The evidence for a debt that nothing pays: what it says, and that there is one (`laws::debt_evidence`).
use Rattle.std.proofs.Common.{◌≡◌, ℕ, ◌+◌, ◌<◌, ◌≤◌, ◌⊎◌, inl, inr, List, [], ◌∷◌, refl, sym, ap, subst, ◌∙◌, arith}
use Rattle.std.proofs.Common.{Option, None, Some, get_or, min, take}
use Rattle.std.specs.Prelude.{slice_get, MatchOption}
use Rattle.std.specs.List.{AllPairs, Contains}
use Rattle.std.proofs.lemmas.Bool.{cases_lt}
use Rattle.std.proofs.lemmas.Option.{MatchOption-at_none, get_or_from_slice_get, same_Some, slice_get-get_or, slice_get_within}
use Rattle.tacho_law.specs.declared.run.Run.{Run}
use Rattle.tacho_law.specs.declared.breach.Breach.{Breach}
use Rattle.tacho_law.specs.declared.debt.Debt.{Debt}
use Rattle.tacho_law.specs.Breaches.{IsB10}
use Rattle.tacho_law.specs.Debts.{minutes_before, paid_from, AreDebts, CanPay, EarlierWeek, IsMainRest, Keeps, Owes, Pays}
use Rattle.tacho_law.specs.Exactly.{AreExactly}
use Rattle.tacho_law.specs.Line.{Line}
use Rattle.tacho_law.specs.Runs.{AreRestRuns, Before, IsRestRun}
use Rattle.tacho_law.specs.Weeks.{week_start}
use Rattle.tacho_law.proofs.ExactlyLemmas.{one_exactly, exactly_as, contains_head, contains_tail, contains_cases}
use Rattle.tacho_evidence.specs.declared.line.EvidenceLine.{EvidenceLine}
use Rattle.tacho_evidence.specs.declared.line.EvidenceLine.TheVariants.{Main, Owes as OwesLine, Room}
use Rattle.tacho_evidence.specs.Evidence.{AreRooms, HaveNoRoom, IsDebtEvidence, IsLaterRest}
use Rattle.tacho_evidence.proofs.DebtKeepLemmas.{kept_least, kept_only, kept_some, main_of_owing}
use Rattle.tacho_evidence.proofs.RestsLemmas.{Kept, kept_of}

-- ---- the later rests

-- what makes a rest run one of the later rests
record Fits (horizon deadline : ℕ) (main run : Run) : Type 0 where
  pub after : Before main run
  pub enough : 540 ≤ minutes_before horizon run
  pub in_time : run.start < deadline

-- this can be decided
fits_or : (horizon deadline : ℕ) (main run : Run) → Fits horizon deadline main run ⊎ (Fits horizon deadline main run → ⊥)
fits_or horizon deadline main run = elim (cases_lt main.past run.start) [
  | inr early ↦ inr (λ h. let e : main.past < run.start = h.after in omega (arith, early, e))
  | inl after ↦ elim (cases_lt (minutes_before horizon run) 540) [
    | inl few ↦ inr (λ h. let e : 540 ≤ minutes_before horizon run = h.enough in omega (arith, few, e))
    | inr enough ↦ elim (cases_lt run.start deadline) [
      | inr late ↦ inr (λ h. let e : run.start < deadline = h.in_time in omega (arith, late, e))
      | inl in_time ↦ inl (record { after = after; enough = enough; in_time = in_time })
    ]
  ]
]

-- the later rests are listed
later_rests : (line : Line) (runs : List Run) (horizon deadline : ℕ) (main : Run) → AreRestRuns line runs
    → (rests : List Run) × AreExactly (IsLaterRest line horizon deadline main) Before rests
later_rests line runs horizon deadline main are =
    let k : Kept Before (Fits horizon deadline main) runs =
    kept_of Before (Fits horizon deadline main) (fits_or horizon deadline main) runs are.in_order in (
      k.kept,
      exactly_as (λ run. Contains runs run × Fits horizon deadline main run) (IsLaterRest line horizon deadline main) Before
          k.kept
          (λ run. (
            λ h. record {
              rest = (are.each run).0 h.0;
              after = h.1.after;
              enough = h.1.enough;
              in_time = h.1.in_time;
            },
            λ h. ((are.each run).1 h.rest, record { after = h.after; enough = h.enough; in_time = h.in_time }),
          ))
          k.exactly,
    )

-- there is one list of them
one_later_rests : (line : Line) (horizon deadline : ℕ) (main : Run) (rests others : List Run)
    → AreExactly (IsLaterRest line horizon deadline main) Before rests
    → AreExactly (IsLaterRest line horizon deadline main) Before others → rests ≡ others
one_later_rests line horizon deadline main =
    one_exactly (IsLaterRest line horizon deadline main) Before (λ a b p q before after.
    let some : a.start < a.past = p.rest.some in
    let some' : b.start < b.past = q.rest.some in
    let l : a.past < b.start = before in
    let m : b.past < a.start = after in
    omega arith)

-- ---- their rooms

module _ (line : Line) (horizon : ℕ) (older : List Debt) where
  -- each rest run has its line
  rooms_of : (runs : List Run) → AreRestRuns line runs → (deadline : ℕ) (rests : List Run)
      → ((run : Run) → Contains rests run → IsRestRun line run)
      → (rooms : List EvidenceLine) × AreRooms line horizon older deadline rests rooms
  rooms_of runs are deadline [] all = ([], refl)
  rooms_of runs are deadline (run ∷ rests) all =
      let (kept, keeps) = kept_some line runs are horizon run (all run (contains_head run rests)) in
      let (rooms, others) = rooms_of runs are deadline rests (λ r h. all r (contains_tail run rests r h)) in
      let room : EvidenceLine = Room run (minutes_before (min horizon deadline) run) (kept + paid_from run older) in
      (room ∷ rooms, (kept, rooms, keeps, refl, others))

  -- and only one
  one_rooms : (deadline : ℕ) (rests : List Run) (rooms others : List EvidenceLine)
      → AreRooms line horizon older deadline rests rooms → AreRooms line horizon older deadline rests others → rooms ≡ others
  one_rooms deadline [] rooms others p q = p ∙ sym q
  one_rooms deadline (run ∷ rests) rooms others p q =
      let room : ℕ → EvidenceLine = λ kept.
      Room run (minutes_before (min horizon deadline) run) (kept + paid_from run older) in
      let e : p.0 ≡ q.0 = kept_only line horizon run p.0 q.0 p.2 q.2 in
      let f : p.1 ≡ q.1 = one_rooms deadline rests p.1 q.1 p.4 q.4 in
      p.3 ∙ (ap (λ (kept : ℕ). room kept ∷ p.1) e ∙ (ap (λ (ls : List EvidenceLine). room q.0 ∷ ls) f ∙ sym q.3))

  -- a run has no room for an amount
  record HasNone (deadline amount : ℕ) (run : Run) : Type 0 where
    pub kept : ℕ
    pub keeps : Keeps line horizon run kept
    pub few : minutes_before (min horizon deadline) run < kept + paid_from run older + amount

  -- if none of the rests has room, each of them hasn't
  none_of : (deadline amount : ℕ) (rests : List Run) (rooms : List EvidenceLine) (run : Run)
      → AreRooms line horizon older deadline rests rooms → HaveNoRoom amount rooms → Contains rests run
      → HasNone deadline amount run
  none_of deadline amount [] rooms run are none h = absurd (let k : h.0 < 0 = h.1 in omega arith)
  none_of deadline amount (r ∷ rests) rooms run are none h =
      let first : ℕ = minutes_before (min horizon deadline) r in
      let n : (first < are.0 + paid_from r older + amount) × HaveNoRoom amount are.1 =
      subst (λ (ls : List EvidenceLine). HaveNoRoom amount ls) are.3 none in
      elim (contains_cases r rests run h) [
        | inl same ↦
            subst (λ (x : Run). HasNone deadline amount x) same (record { kept = are.0; keeps = are.2; few = n.0 })
        | inr later ↦ none_of deadline amount rests are.1 run are.4 n.1 later
      ]

  -- where no run can pay, none of the rests after the main rest has room
  pub no_rooms : (debt : Debt) (main : Run) → IsMainRest line horizon debt.week main
      → ((run : Run) → CanPay line horizon older debt run → ⊥)
      → (rests : List Run) (rooms : List EvidenceLine)
      → ((run : Run) → Contains rests run → IsRestRun line run × Before main run)
      → AreRooms line horizon older debt.deadline rests rooms → HaveNoRoom debt.amount rooms
  no_rooms debt main is never [] rooms all are =
      subst (λ (ls : List EvidenceLine). HaveNoRoom debt.amount ls) (sym are) tt
  no_rooms debt main is never (run ∷ rests) rooms all are =
      subst (λ (ls : List EvidenceLine). HaveNoRoom debt.amount ls) (sym are.3) (
        elim (cases_lt (minutes_before (min horizon debt.deadline) run) (are.0 + paid_from run older + debt.amount)) [
          | inl few ↦ few
          | inr room ↦ absurd (never run (record {
            main = main;
            is = is;
            rests = (all run (contains_head run rests)).0;
            after = (all run (contains_head run rests)).1;
            room = record { kept = are.0; keeps = are.2; room = room };
          }))
        ],
        no_rooms debt main is never rests are.1 (λ r h. all r (contains_tail run rests r h)) are.4,
      )

-- ---- the debt

-- a list has what is in one of its places
at_place : (debts : List Debt) (place : ℕ) (debt : Debt) → slice_get debts place ≡ Some debt → Contains debts debt
at_place debts place debt is =
    (place, slice_get_within debts place debt is, get_or_from_slice_get debts place debt debt is)

-- the week of a debt determines its place
one_place : (debts : List Debt) → AllPairs EarlierWeek debts → (i k : ℕ) (a b : Debt) → slice_get debts i ≡ Some a
    → slice_get debts k ≡ Some b → a.week ≡ b.week → i ≡ k
one_place debts order i k a b p q same =
    let e : (get_or debts i a).week ≡ a.week = ap (λ (d : Debt). d.week) (get_or_from_slice_get debts i a a p) in
    let f : (get_or debts k a).week ≡ b.week = ap (λ (d : Debt). d.week) (get_or_from_slice_get debts k b a q) in
    elim (cases_lt i k) [
      | inl lt ↦ absurd (
          let l : (get_or debts i a).week < (get_or debts k a).week =
          order i k a lt (slice_get_within debts k b q) in
          omega (arith, e, f, l, same))
      | inr ge ↦ elim (cases_lt k i) [
        | inl lt ↦ absurd (
            let l : (get_or debts k a).week < (get_or debts i a).week =
            order k i a lt (slice_get_within debts i a p) in
            omega (arith, e, f, l, same))
        | inr le ↦ omega (arith, ge, le)
      ]
    ]

-- the week of a debt owes
pub owes_of : (line : Line) (horizon : ℕ) (debts : List Debt) (debt : Debt) → AreDebts line horizon debts → Contains debts debt
    → Owes line horizon debt.week debt.amount
owes_of line horizon debts debt are among = (are.are_owed.owed debt.week debt.amount).1 (debt, among, refl, refl)

-- where whatever is there is contradictory, nothing is there
none_there : (o : Option ℕ) (P : Type 0) (Q : ℕ → Type 0) → MatchOption o P Q → ((x : ℕ) → Q x → ⊥) → o ≡ None
none_there None P Q m none = refl
none_there (Some x) P Q m none = absurd (none x m)

-- with evidence no run can pay the debt
never_paid : (line : Line) (horizon : ℕ) (debts : List Debt) (breach : Breach) (lines : List EvidenceLine)
    → AreDebts line horizon debts → (h : IsDebtEvidence line horizon debts breach lines)
    → (run : Run) → CanPay line horizon (take h.place debts) h.debt run → ⊥
never_paid line horizon debts breach lines are h run can =
    let owes : Owes line horizon h.debt.week h.debt.amount =
    owes_of line horizon debts h.debt are (at_place debts h.place h.debt h.this) in
    let same : can.main ≡ h.main =
    main_of_owing line horizon h.debt.week h.debt.amount can.main h.main owes can.is h.is in
    let after : Before h.main run = subst (λ (x : Run). Before x run) same can.after in
    let room : can.room.kept + paid_from run (take h.place debts) + h.debt.amount
    ≤ minutes_before (min horizon h.debt.deadline) run = can.room.room in
    let nine : 540 ≤ can.room.kept = kept_least line horizon run can.room.kept can.room.keeps in
    let among : Contains h.rests run = (h.rested.each run).1 (record {
      rest = can.rests;
      after = after;
      enough = omega (arith, room, nine);
      in_time = omega (arith, room, nine);
    }) in
    let none : HasNone line horizon (take h.place debts) h.debt.deadline h.debt.amount run =
    none_of line horizon (take h.place debts) h.debt.deadline h.debt.amount h.rests h.rooms run h.rooms_are h.none among in
    let few : minutes_before (min horizon h.debt.deadline) run
    < none.kept + paid_from run (take h.place debts) + h.debt.amount = none.few in
    let e : can.room.kept ≡ none.kept =
    kept_only line horizon run can.room.kept none.kept can.room.keeps none.keeps in
    omega (arith, room, few, e)

-- what has evidence is a debt that nothing pays
pub debt_sound : (line : Line) (horizon : ℕ) (debts : List Debt) (breach : Breach) (lines : List EvidenceLine)
    → AreDebts line horizon debts → IsDebtEvidence line horizon debts breach lines → IsB10 horizon debts breach
debt_sound line horizon debts breach lines are h = record {
  debt = h.debt;
  owed = at_place debts h.place h.debt h.this;
  unpaid = none_there h.debt.paid_by ((run : Run) → CanPay line horizon (take h.place debts) h.debt run → ⊥)
      (λ start. Pays line horizon (take h.place debts) h.debt start)
      (are.settled h.place h.debt h.this)
      (λ start pays. never_paid line horizon debts breach lines are h pays.payer pays.can);
  due = h.due;
  moment = h.moment;
  since = h.since;
  amount = h.amount;
}

-- the lines for a debt, the main rest of its week and the rooms of the later rests
abbrev debt_lines : Debt → Run → List EvidenceLine → List EvidenceLine
debt_lines debt main rooms = OwesLine (week_start debt.week) debt.amount debt.deadline ∷ (Main main ∷ rooms)

-- a debt that nothing pays has evidence
pub debt_whole : (line : Line) (runs : List Run) (horizon : ℕ) (debts : List Debt) (breach : Breach) → AreRestRuns line runs
    → AreDebts line horizon debts → IsB10 horizon debts breach
    → (lines : List EvidenceLine) × IsDebtEvidence line horizon debts breach lines
debt_whole line runs horizon debts breach all are h =
    let place : ℕ = h.owed.0 in
    let this : slice_get debts place ≡ Some h.debt =
    slice_get-get_or debts place h.debt h.owed.1 ∙ ap Some h.owed.2 in
    let owes : Owes line horizon h.debt.week h.debt.amount = owes_of line horizon debts h.debt are h.owed in
    let (rests, rested) = later_rests line runs horizon h.debt.deadline owes.main all in
    let (rooms, rooms_are) = rooms_of line horizon (take place debts) runs all h.debt.deadline rests
    (λ run i. ((rested.each run).0 i).rest) in
    let never : (run : Run) → CanPay line horizon (take place debts) h.debt run → ⊥ =
    MatchOption-at_none ((run : Run) → CanPay line horizon (take place debts) h.debt run → ⊥)
    (λ start. Pays line horizon (take place debts) h.debt start) h.unpaid (are.settled place h.debt this) in (
      debt_lines h.debt owes.main rooms,
      record {
        place = place;
        debt = h.debt;
        this = this;
        main = owes.main;
        is = owes.is;
        due = h.due;
        rests = rests;
        rested = rested;
        rooms = rooms;
        rooms_are = rooms_are;
        none = no_rooms line horizon (take place debts) h.debt owes.main owes.is never rests rooms
            (λ run i. (((rested.each run).0 i).rest, ((rested.each run).0 i).after)) rooms_are;
        moment = h.moment;
        since = h.since;
        amount = h.amount;
        lines_are = refl;
      },
    )

-- and only one
pub debt_one : (line : Line) (horizon : ℕ) (debts : List Debt) (breach : Breach) (lines others : List EvidenceLine)
    → AreDebts line horizon debts → IsDebtEvidence line horizon debts breach lines
    → IsDebtEvidence line horizon debts breach others → lines ≡ others
debt_one line horizon debts breach lines others are p q =
    let s : breach.since ≡ week_start p.debt.week = p.since in
    let s' : breach.since ≡ week_start q.debt.week = q.since in
    let week : p.debt.week ≡ q.debt.week = omega (arith, s, s') in
    let place : p.place ≡ q.place =
    one_place debts are.are_owed.in_order p.place q.place p.debt q.debt p.this q.this week in
    let debt : p.debt ≡ q.debt =
    same_Some p.debt q.debt (sym p.this ∙ (ap (λ (i : ℕ). slice_get debts i) place ∙ q.this)) in
    let owes : Owes line horizon q.debt.week q.debt.amount =
    owes_of line horizon debts q.debt are (at_place debts q.place q.debt q.this) in
    let main : p.main ≡ q.main = main_of_owing line horizon q.debt.week q.debt.amount p.main q.main owes
    (subst (λ (d : Debt). IsMainRest line horizon d.week p.main) debt p.is) q.is in
    let rested : AreExactly (IsLaterRest line horizon q.debt.deadline q.main) Before p.rests =
    subst (λ (m : Run). AreExactly (IsLaterRest line horizon q.debt.deadline m) Before p.rests) main
    (subst (λ (d : Debt). AreExactly (IsLaterRest line horizon d.deadline p.main) Before p.rests) debt p.rested) in
    let rests : p.rests ≡ q.rests =
    one_later_rests line horizon q.debt.deadline q.main p.rests q.rests rested q.rested in
    let are_rooms : AreRooms line horizon (take q.place debts) q.debt.deadline q.rests p.rooms =
    subst (λ (rs : List Run). AreRooms line horizon (take q.place debts) q.debt.deadline rs p.rooms) rests
    (subst (λ (d : Debt). AreRooms line horizon (take q.place debts) d.deadline p.rests p.rooms) debt
    (subst (λ (i : ℕ). AreRooms line horizon (take i debts) p.debt.deadline p.rests p.rooms) place p.rooms_are)) in
    let rooms : p.rooms ≡ q.rooms =
    one_rooms line horizon (take q.place debts) q.debt.deadline q.rests p.rooms q.rooms are_rooms q.rooms_are in
    p.lines_are ∙ (ap (λ (d : Debt). debt_lines d p.main p.rooms) debt
    ∙ (ap (λ (m : Run). debt_lines q.debt m p.rooms) main ∙ (ap (debt_lines q.debt q.main) rooms ∙ sym q.lines_are)))
