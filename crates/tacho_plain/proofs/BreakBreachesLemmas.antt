-- The pass over breaks finds the breaches of the rule on breaks (`breaks`).
use Rattle.std.proofs.Common.{◌≡◌, ℕ, ◌+◌, ◌-◌, ◌<◌, ◌≤◌, List, [], ◌∷◌, ◌++◌}
use Rattle.std.proofs.Common.{length, get_or, refl, sym, ap, subst, ◌∙◌, inl, arith}
use Rattle.std.proofs.lemmas.List.Elements.{Contains-get_or}
use Rattle.tacho_law.specs.declared.run.Run.{Run}
use Rattle.tacho_law.specs.declared.breach.Breach.{Breach}
use Rattle.tacho_law.specs.declared.breach.Kind.{Kind}
use Rattle.tacho_law.specs.declared.breach.Kind.TheVariants.{B1, B2, B3, B4, B5, B6, B7, B8, B9, B10}
use Rattle.tacho_law.specs.Line.{Line}
use Rattle.tacho_law.specs.Runs.{AreRuns}
use Rattle.tacho_law.specs.Exactly.{AreExactly}
use Rattle.tacho_law.specs.Driving.{driving}
use Rattle.tacho_law.specs.Breaches.{IsB1, IsBreakBreach}
use Rattle.tacho_law.specs.Order.{Earlier, AreBreaches}
use Rattle.tacho_periods.proofs.DaysLemmas.{pasts_rise}
use Rattle.tacho_law.proofs.DrivingLemmas.{driving_minute_only, driving_reaches}
use Rattle.tacho_law.proofs.ExactlyLemmas.{OfBelow, below_none, below_skip, below_add, exactly_as}
use Rattle.tacho_law.proofs.OrderLemmas.{same_breach}
use Rattle.tacho_periods.proofs.RunsLemmas.{no_run, none_at_between, neighbours_at}
use Rattle.tacho_plain.specs.BreakBreaches.{IsLongPeriod}

-- the breach between the break at a place and the break before it
pub record IsLongAt (line : Line) (breaks : List Run) (place : ℕ) (breach : Breach) : Type 0 where
  pub within : place < length breaks
  pub long : IsLongPeriod line (get_or breaks (place - 1) no_run).past (get_or breaks place no_run).start breach

-- the loop has found the breaches between the first n breaks
abbrev pub Found : Line → List Run → ℕ → List Breach → Type 0
Found line breaks n found = AreExactly (OfBelow (IsLongAt line breaks) 1 n) Earlier found

-- between two minutes there is at most one breach
only : (line : Line) (from to : ℕ) (a b : Breach) → IsLongPeriod line from to a → IsLongPeriod line from to b → a ≡ b
only line from to a b p q = same_breach a b
    (p.kind ∙ sym q.kind)
    (driving_minute_only line from to 271 a.moment b.moment p.over.moment q.over.moment)
    (driving_minute_only line from to 1 a.since b.since p.since q.since)
    (
    let e : a.amount + 270 ≡ driving line from to = p.over.amount in
    let f : b.amount + 270 ≡ driving line from to = q.over.amount in
    omega arith)

-- a breach of the rule on breaks has kind B1
is_first : (line : Line) (breaks : List Run) (kind : Kind) (breach : Breach)
    → IsBreakBreach line breaks kind breach → kind ≡ B1
is_first line breaks B1 breach h = refl
is_first line breaks B2 breach h = absurd h
is_first line breaks B3 breach h = absurd h
is_first line breaks B4 breach h = absurd h
is_first line breaks B5 breach h = absurd h
is_first line breaks B6 breach h = absurd h
is_first line breaks B7 breach h = absurd h
is_first line breaks B8 breach h = absurd h
is_first line breaks B9 breach h = absurd h
is_first line breaks B10 breach h = absurd h

-- before the second break
pub found_none : (line : Line) (breaks : List Run) → Found line breaks 1 []
found_none line breaks = below_none (IsLongAt line breaks) Earlier 1

module _ (line : Line) (breaks : List Run) (are : AreRuns breaks) where
  -- one step of the loop, from n breaks to n + 1
  module _ (n : ℕ) (found : List Breach) (r : Found line breaks n found)
      (some : 1 ≤ n) (within : n < length breaks) where
    -- there is no breach before the break at n
    pub found_skip : driving line (get_or breaks (n - 1) no_run).past (get_or breaks n no_run).start ≤ 270
        → Found line breaks (n + 1) found
    found_skip few = below_skip (IsLongAt line breaks) Earlier 1 n found some r
        (λ breach h.
        let m : 271 ≤ driving line (get_or breaks (n - 1) no_run).past (get_or breaks n no_run).start =
        driving_reaches line (get_or breaks (n - 1) no_run).past
        (get_or breaks n no_run).start 271 breach.moment h.long.over.moment in
        omega arith)

    -- there is a breach before the break at n
    pub found_add : (breach : Breach)
        → IsLongPeriod line (get_or breaks (n - 1) no_run).past (get_or breaks n no_run).start breach
        → Found line breaks (n + 1) (found ++ breach ∷ [])
    found_add new long =
        below_add (IsLongAt line breaks) Earlier 1 n found new some r (record { within = within; long = long })
        (λ breach h.
        only line (get_or breaks (n - 1) no_run).past (get_or breaks n no_run).start new breach long h.long)
        (λ k breach one low h.
        (let a : breach.moment < (get_or breaks k no_run).start = h.long.over.moment.below in
        let b : (get_or breaks k no_run).start < (get_or breaks k no_run).past = are.some k no_run h.within in
        let c : (get_or breaks k no_run).past ≤ (get_or breaks (n - 1) no_run).past =
        pasts_rise breaks are.some are.in_order k (n - 1) no_run (omega arith) (omega arith) in
        let d : (get_or breaks (n - 1) no_run).past ≤ new.moment = long.over.moment.above in
        inl (omega arith)))

  -- a breach at a place is one between two neighbours
  by_neighbours : (k : ℕ) (breach : Breach) → 1 ≤ k → IsLongAt line breaks k breach → IsB1 line breaks breach
  by_neighbours k breach one h =
      let in' : k < length breaks = h.within in
      let next : k - 1 + 1 ≡ k = omega arith in
      record {
        earlier = get_or breaks (k - 1) no_run;
        later = get_or breaks k no_run;
        first = Contains-get_or breaks (k - 1) no_run (omega arith);
        second = Contains-get_or breaks k no_run in';
        before = are.in_order (k - 1) k no_run (omega arith) in';
        between = λ c among after before.
            none_at_between breaks are (k - 1) (omega arith) c among after (rw next before);
        over = h.long.over;
        since = h.long.since;
      }

  -- a breach between two neighbours is one at a place
  by_place : (n : ℕ) (breach : Breach) → length breaks ≤ n → breach.kind ≡ B1
      → IsB1 line breaks breach → OfBelow (IsLongAt line breaks) 1 n breach
  by_place n breach most kind h =
      let (i, in', e, f) = neighbours_at breaks are h.earlier h.later h.first h.second h.before h.between in
      let same : i + 1 - 1 ≡ i = omega arith in
      let e' : h.earlier ≡ get_or breaks (i + 1 - 1) no_run = e ∙ ap (λ (k : ℕ). get_or breaks k no_run) (sym same) in
      let long : IsLongPeriod line h.earlier.past h.later.start breach = record { kind = kind; over = h.over; since = h.since } in
      record {
        place = i + 1;
        from = omega arith;
        below = omega arith;
        of = record {
          within = in';
          long =
              subst (λ (a : Run). IsLongPeriod line a.past (get_or breaks (i + 1) no_run).start breach)
              e' (subst (λ (b : Run). IsLongPeriod line h.earlier.past b.start breach) f long);
        };
      }

  -- after the last break, all breaches are found
  pub found_all : (n : ℕ) (found : List Breach) → Found line breaks n found → length breaks ≤ n
      → AreBreaches (λ breach. IsBreakBreach line breaks breach.kind breach) found
  found_all n found r most =
      exactly_as (OfBelow (IsLongAt line breaks) 1 n)
      (λ breach. IsBreakBreach line breaks breach.kind breach) Earlier found (λ breach. (
        λ h.
            subst (λ (kind : Kind). IsBreakBreach line breaks kind breach)
            (sym h.of.long.kind) (by_neighbours h.place breach h.from h.of),
        λ h.
            (let kind : breach.kind ≡ B1 = is_first line breaks breach.kind breach h in
            by_place n breach most kind (subst (λ (x : Kind). IsBreakBreach line breaks x breach) kind h)),
      )) r
