-- Breaches of the rule on breaks stay when a line continues after its horizon (`laws::breaches_stay`).
use Rattle.std.proofs.Common.{◌≡◌, ℕ, zero, suc, ◌+◌, ◌<◌, ◌≤◌, inl, inr, List, get_or, refl, arith}
use Rattle.std.specs.List.{Contains}
use Rattle.std.proofs.lemmas.List.Elements.{Contains-get_or}
use Rattle.tacho_law.specs.declared.run.Run.{Run}
use Rattle.tacho_law.specs.declared.breach.Breach.{Breach}
use Rattle.tacho_law.specs.declared.breach.Kind.TheVariants.{B1}
use Rattle.tacho_law.specs.Line.{Line}
use Rattle.tacho_law.specs.Limits.{latest, driving_before_break}
use Rattle.tacho_law.specs.Runs.{AreRestRuns, AreRuns, Before}
use Rattle.tacho_law.specs.Breaks.{Completes, AreCompleteBreaks}
use Rattle.tacho_law.specs.Breaches.{IsB1}
use Rattle.tacho_rules.proofs.StayingLemmas.{GoesOn, run_stays, run_was, last_run, next_there}
use Rattle.tacho_rules.proofs.StayingHoursLemmas.{HasSame, minute_stays, over_stays}

-- a run that completes a break among some runs also does among others, if both lists have the same runs and breaks before it
over : (runs others breaks theirs : List Run) (h : ℕ) (r : Run) → r.start < h
    → ((x : Run) → x.past < h → Contains runs x → Contains others x)
    → ((b : Run) → Contains theirs b → Before b r → Contains breaks b)
    → Completes runs breaks r → Completes others theirs r
over runs others breaks theirs h r ended to back is = elim is [
  | inl whole ↦ inl whole
  | inr (enough, first) ↦ inr (
    enough,
    record {
      part = first.part;
      among = to first.part (let b : first.part.past < r.start = first.before in omega arith) first.among;
      enough = first.enough;
      before = first.before;
      after = λ b in' sooner. first.after b (back b in' sooner) sooner;
    },
  )
]

module _ (line other : Line) (h k : ℕ) (g : GoesOn line other h k)
    (runs others breaks theirs : List Run) (are : AreRestRuns line runs) (are_there : AreRestRuns other others)
    (complete : AreCompleteBreaks runs breaks) (complete_there : AreCompleteBreaks others theirs) where
  there : (x : Run) → x.past < h → Contains runs x → Contains others x
  there x ended in' = (are_there.each x).1 (run_stays line other h k g x ((are.each x).0 in') ended)

  here : (x : Run) → x.past < h → Contains others x → Contains runs x
  here x ended in' = (are.each x).1 (run_was line other h k g x ((are_there.each x).0 in') ended)

  some_there : (x : Run) → Contains theirs x → x.start < x.past
  some_there x in' = ((are_there.each x).0 ((complete_there.each x).0 in').0).some

  some_here : (x : Run) → Contains breaks x → x.start < x.past
  some_here x in' = ((are.each x).0 ((complete.each x).0 in').0).some

  -- both lines have the same breaks that end before the horizon
  same_breaks : (n : ℕ) (r : Run) → r.start < n → r.past < h
      → (Contains breaks r → Contains theirs r) × (Contains theirs r → Contains breaks r)
  same_breaks zero r below ended = (λ in'. absurd (omega arith), λ in'. absurd (omega arith))
  same_breaks (suc n) r below ended = (
    λ in'.
        let some : r.start < r.past = some_here r in' in
        let (among, is) = (complete.each r).0 in' in
        (complete_there.each r).1 (
          there r ended among,
          over runs others breaks theirs h r (omega arith) there
              (λ b in'' sooner.
              let e : b.start < b.past = some_there b in'' in
              let f : b.past < r.start = sooner in
              (same_breaks n b (omega arith) (omega arith)).1 in'') is,
        ),
    λ in'.
        let some : r.start < r.past = some_there r in' in
        let (among, is) = (complete_there.each r).0 in' in
        (complete.each r).1 (
          here r ended among,
          over others runs theirs breaks h r (omega arith) here
              (λ b in'' sooner.
              let e : b.start < b.past = some_here b in'' in
              let f : b.past < r.start = sooner in
              (same_breaks n b (omega arith) (omega arith)).0 in'') is,
        ),
  )

  theirs_are : AreRuns theirs
  theirs_are = record {
    some = λ i d within. some_there (get_or theirs i d) (Contains-get_or theirs i d within);
    in_order = complete_there.in_order;
  }

  pub b1_stays : (breach : Breach) → IsB1 line breaks breach
      → HasSame (λ b. (b.kind ≡ B1) × IsB1 other theirs b) (record breach { kind = B1 })
  b1_stays breach is =
      let early : k ≤ latest = g.early in
      let (last, is_last, far, starts) = last_run line other h k g in
      let whole : Completes others theirs last = inl (omega arith) in
      let last_in : Contains theirs last = (complete_there.each last).1 ((are_there.each last).1 is_last, whole) in
      let (next, first, n) =
      next_there line other h k g (λ r. Contains breaks r) (λ r. Contains theirs r)
      (λ r in'. (are.each r).0 ((complete.each r).0 in').0)
      (λ r in'. (are_there.each r).0 ((complete_there.each r).0 in').0)
      (λ r in' ended. (same_breaks (r.start + 1) r (omega arith) ended).0 in')
      (λ r in' ended. (same_breaks (r.start + 1) r (omega arith) ended).1 in')
      theirs theirs_are 0 (λ r. (λ in'. (in', omega arith), λ c. c.0)) last last_in far
      is.earlier is.later is.first is.second is.before is.between in
      let (amount, excess) =
      over_stays line other h k g driving_before_break is.earlier.past is.later.start next.start breach n.later is.over in (
        record { kind = B1; moment = breach.moment; since = breach.since; amount = amount },
        (
          refl,
          record {
            earlier = is.earlier;
            later = next;
            first = first;
            second = n.is;
            before = n.before;
            between = n.between;
            over = excess;
            since = minute_stays line other h k g is.earlier.past is.later.start next.start 1 breach.since n.later is.since;
          },
        ),
        record { moment = refl; kind = refl; since = refl },
      )
