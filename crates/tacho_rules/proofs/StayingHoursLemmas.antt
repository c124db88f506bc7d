-- Driving minutes and rests of at least some length stay when a line continues after its horizon (`laws::breaches_stay`).
use Rattle.std.proofs.Common.{◌≡◌, ℕ, zero, suc, ◌+◌, ◌-◌, ◌<◌, ◌≤◌, ◌↔◌, ◌&&◌, inl, inr, List, nat_le}
use Rattle.std.proofs.Common.{refl, sym, ap, ap₂, ◌∙◌, arith, if◌then◌else◌}
use Rattle.std.specs.List.{Contains}
use Rattle.std.proofs.lemmas.Bool.{cases_lt}
use Rattle.tacho_time.specs.declared.span.Activity.{Activity}
use Rattle.tacho_time.specs.declared.span.Activity.TheVariants.{Rest, Drive}
use Rattle.tacho_law.specs.declared.run.Run.{Run}
use Rattle.tacho_law.specs.declared.breach.Breach.{Breach}
use Rattle.tacho_law.specs.Line.{Line}
use Rattle.tacho_law.specs.Limits.{latest}
use Rattle.tacho_law.specs.Runs.{IsRestRun, IsRestOf, AreRestRuns, AreNeighbours, minutes_of}
use Rattle.tacho_law.specs.Driving.{driving, is_drive, IsDrivingMinute, IsDrivingAbove}
use Rattle.tacho_law.specs.Breaches.{HasDrivingAbove}
use Rattle.tacho_law.specs.Order.{Agree}
use Rattle.tacho_law.proofs.DrivingLemmas.{driving_reaches}
use Rattle.tacho_law.proofs.RunsLemmas.{rest_runs_are}
use Rattle.tacho_law.proofs.ByRunsLemmas.{one_run}
use Rattle.tacho_rules.proofs.StayingLemmas.{GoesOn, run_stays, run_was, last_run, next_there}

-- a breach that satisfies `P`, at the same place in the order
abbrev pub HasSame : (Breach → Type 0) → Breach → Type 0
HasSame P breach = (same : Breach) × P same × Agree breach same

-- lines that agree before a minute have the same driving up to it
pub driving_same : (line other : Line) (h : ℕ) → ((m : ℕ) → m < h → line m ≡ other m)
    → (from m : ℕ) → m ≤ h → driving line from m ≡ driving other from m
unfolding driving
driving_same line other h agree from zero le = refl
driving_same line other h agree from (suc m) le =
    ap₂ (λ (n : ℕ) (a : Activity). n + (if nat_le from m && is_drive a then 1 else 0))
    (driving_same line other h agree from m (omega arith)) (agree m (omega arith))

-- no run starts after the horizon
pub starts_by : (line : Line) (h : ℕ) → ((m : ℕ) → h ≤ m → line m ≡ Rest) → (run : Run) → IsRestRun line run
    → run.start ≤ h
starts_by line h rest run is = elim is.from [
  | inl none ↦ omega arith
  | inr busy ↦ elim (cases_lt h run.start) [
    | inl late ↦ absurd (busy (run.start - 1) (omega arith) (rest (run.start - 1) (omega arith)))
    | inr early ↦ early
  ]
]

module _ (line other : Line) (h k : ℕ) (g : GoesOn line other h k) where
  -- a driving minute stays one
  pub minute_stays : (from to past n m : ℕ) → to ≤ past → IsDrivingMinute line from to n m
      → IsDrivingMinute other from past n m
  minute_stays from to past n m le is =
      let below : m < h = elim (cases_lt m h) [
        | inl lt ↦ lt
        | inr ge ↦ absurd (let e : Drive ≡ Rest = sym is.drives ∙ g.rest m ge in cc)
      ] in
      let same : driving line from m ≡ driving other from m = driving_same line other h g.agree from m (omega arith) in
      let at : driving line from m + 1 ≡ n = is.earlier in
      let before : m < to = is.below in
      record {
        above = is.above;
        below = omega arith;
        drives = sym (g.agree m below) ∙ is.drives;
        earlier = omega (arith, same, at);
      }

  -- too much driving stays too much, from the same minute on
  pub over_stays : (limit from to past : ℕ) (breach : Breach) → to ≤ past → HasDrivingAbove line limit from to breach
      → (n : ℕ) × IsDrivingAbove other limit from past breach.moment n
  over_stays limit from to past breach le is =
      let m : IsDrivingMinute other from past (limit + 1) breach.moment =
      minute_stays from to past (limit + 1) breach.moment le is.moment in
      let r : limit + 1 ≤ driving other from past = driving_reaches other from past (limit + 1) breach.moment m in
      (driving other from past - limit, record { moment = m; amount = omega (arith, r) })

  module _ (runs : List Run) (are : AreRestRuns other runs) where
    -- a run of `other` that starts no later than a run of `line` that ends before the horizon ends before it too
    pub ends_too : (a b : Run) → IsRestRun line a → a.past < h → IsRestRun other b → b.start ≤ a.start → b.past < h
    ends_too a b is ended is_b le =
        let is_a : IsRestRun other a = run_stays line other h k g a is ended in
        elim (cases_lt b.past h) [
          | inl lt ↦ lt
          | inr ge ↦ elim (cases_lt b.start a.start) [
            | inl sooner ↦ absurd (elim is_a.from [
              | inl none ↦ omega arith
              | inr busy ↦ busy (a.start - 1) (omega arith)
                  (is_b.rest (a.start - 1) (omega arith) (let s : a.start < a.past = is.some in omega arith))
            ])
            | inr not ↦ absurd (
                let same : a ≡ b = one_run other h runs are a b is_a is_b (omega arith) in
                let e : a.past ≡ b.past = ap (λ (r : Run). r.past) same in
                omega arith)
          ]
        ]

    module _ (least : ℕ) (few : least ≤ 2700) where
      pub rest_stays : (r : Run) → IsRestOf line least r → r.past < h → IsRestOf other least r
      rest_stays r is ended = record { rests = run_stays line other h k g r is.rests ended; enough = is.enough }

      pub rest_was : (r : Run) → IsRestOf other least r → r.past < h → IsRestOf line least r
      rest_was r is ended = record { rests = run_was line other h k g r is.rests ended; enough = is.enough }

      rest_in : (r : Run) → IsRestOf other least r ↔ (Contains runs r × (least ≤ minutes_of r))
      rest_in r = (λ is. ((are.each r).1 is.rests, is.enough), λ c. record { rests = (are.each r).0 c.0; enough = c.1 })

      -- the next rest of at least `least` minutes comes no earlier, and is the same if it ends before the horizon
      pub neighbours_stay : (a b : Run) → AreNeighbours line least a b
          → (next : Run) × AreNeighbours other least a next × (b.start ≤ next.start) × (b.past < h → next ≡ b)
      neighbours_stay a b n =
          let early : k ≤ latest = g.early in
          let (last, is_last, far, starts) = last_run line other h k g in
          let long : IsRestOf other least last = record { rests = is_last; enough = omega arith } in
          let (next, first, is) =
          next_there line other h k g (IsRestOf line least) (IsRestOf other least) (λ r s. s.rests) (λ r t. t.rests)
          rest_stays rest_was runs (rest_runs_are other runs are) least rest_in last long far a b
          n.first n.second n.before n.between in
          (next, record { first = first; second = is.is; before = is.before; between = is.between }, is.later, is.same)

      -- neighbours of `other` that end before the horizon are neighbours of `line`
      pub neighbours_were : (a b : Run) → AreNeighbours other least a b → b.past < h → AreNeighbours line least a b
      neighbours_were a b n ended =
          let before : a.past < b.start = n.before in
          let some : b.start < b.past = n.second.rests.some in
          record {
            first = rest_was a n.first (omega arith);
            second = rest_was b n.second ended;
            before = n.before;
            between = λ c is after sooner. n.between c (rest_stays c is (omega arith)) after sooner;
          }
