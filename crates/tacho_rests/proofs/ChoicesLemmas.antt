-- Choices of a week for each weekly rest, rest by rest and week by week (specs/Choices, AreChoices).
use Rattle.std.proofs.Common.{◌≡◌, ℕ, ◌+◌, ◌-◌, ◌<◌, ◌≤◌, ◌⊎◌, inl, inr, List, Bool, true, false, Option, None, Some}
use Rattle.std.proofs.Common.{[], ◌∷◌, ◌++◌, refl, sym, ap, subst, ◌∙◌, arith}
use Rattle.std.specs.Prelude.{◌↔◌, ◌&&◌, not, MatchOption, IsTrue}
use Rattle.std.specs.List.{All}
use Rattle.std.proofs.lemmas.List.Elements.{All-nil, All-cons}
use Rattle.std.proofs.lemmas.Bool.{cases_lt}
use Rattle.std.proofs.lemmas.List.{append-nil}
use Rattle.tacho_law.specs.declared.run.Run.{Run}
use Rattle.tacho_law.specs.declared.run.TheConstants.{FAR}
use Rattle.tacho_law.specs.declared.breach.Breach.{Breach}
use Rattle.tacho_law.specs.declared.breach.Kind.TheVariants.{B9}
use Rattle.tacho_law.specs.Runs.{IsRestOf}
use Rattle.tacho_law.specs.Line.{Line}
use Rattle.tacho_law.specs.Weeks.{week_start, IsWhollyAtRest, IsWeeklyRest}
use Rattle.tacho_law.specs.Choice.{CanServe}
use Rattle.tacho_law.specs.Anew.{Fails, EndedBy}
use Rattle.tacho_law.specs.Order.{Apart}
use Rattle.tacho_law.specs.SoFar.{AreCollected}
use Rattle.tacho_law.specs.Breaches.{IsLacking}
use Rattle.tacho_law.proofs.DebtsLemmas.{separate}
use Rattle.tacho_law.proofs.ByRunsLemmas.{one_run}
use Rattle.tacho_law.proofs.AnewLemmas.{starts_late}
use Rattle.tacho_law.proofs.LackingWeekLemmas.{serves_less, LackingBelow, lacking_none, lacking_skip, lacking_add}
use Rattle.tacho_law.proofs.LackingWeekLemmas.{lacking_all}
use Rattle.tacho_law.proofs.ExactlyLemmas.{exactly_as}
use Rattle.tacho_pass.specs.Kinds.{is_b9}
use Rattle.tacho_choice.specs.declared.outcome.TheConstants.{ANY}
use Rattle.tacho_choice.specs.declared.week.WeekOfRests.{WeekOfRests}
use Rattle.tacho_choice.specs.Weeks.{first_week_of, last_of, IsInWeeks, IsWeekOf, IsWeekOfRests, week_none, week_with}
use Rattle.tacho_choice.proofs.ConnectingLemmas.{order}
use Rattle.tacho_choice.proofs.SeenLemmas.{seen_none, seen_agree, seen_more, seen_whole}
use Rattle.tacho_rests.specs.Choices.{unserved_breach, week_of_last, IsStep, IsJudged, IsLackingBefore, IsSeen}
use Rattle.tacho_rests.specs.Choices.{IsLastSeen}
use Rattle.tacho_rests.specs.Choices.{IsAtFirst, IsAfter, AreChoices}
use Rattle.tacho_rests.proofs.ClosingLemmas.{some_left, closed_anew, closed_on, none_on, fails_on}

-- the breaches for the weeks before week n, by the number of the week
before_is : (line : Line) (horizon first n : ℕ) → first ≤ n → (breach : Breach)
    → LackingBelow line horizon first n breach ↔ IsLackingBefore line (week_start first) horizon n breach
before_is line horizon first n some breach = (
  λ h. record {
    kind = h.of.kind_is;
    is = record {
      first = first;
      week = h.place;
      monday = refl;
      fails = h.of.fails;
      moment = h.of.moment;
      since = h.of.since;
      amount = h.of.amount;
    };
    before = h.below;
  },
  λ h.
      (let start : week_start first ≡ week_start h.is.first = h.is.monday in
      let same : h.is.first ≡ first = omega arith in
      let fails : Fails (CanServe line) (EndedBy horizon) first (h.is.week + 1) =
      subst (λ (a : ℕ). Fails (CanServe line) (EndedBy horizon) a (h.is.week + 1)) same h.is.fails in
      record {
        place = h.is.week;
        from = let later : first < h.is.week + 1 = starts_late (CanServe line) (EndedBy horizon) first
            (serves_less line) (h.is.week + 1) fails in omega arith;
        below = h.before;
        of = record {
          kind_is = h.kind;
          fails = fails;
          moment = h.is.moment;
          since = h.is.since;
          amount = h.is.amount;
        };
      }),
)

to_before : (line : Line) (horizon first n : ℕ) → first ≤ n → (found : List Breach)
    → AreCollected (LackingBelow line horizon first n) found
    → AreCollected (IsLackingBefore line (week_start first) horizon n) found
to_before line horizon first n some found r =
    exactly_as (LackingBelow line horizon first n) (IsLackingBefore line (week_start first) horizon n) Apart found
    (before_is line horizon first n some) r

from_before : (line : Line) (horizon first n : ℕ) → first ≤ n → (found : List Breach)
    → AreCollected (IsLackingBefore line (week_start first) horizon n) found
    → AreCollected (LackingBelow line horizon first n) found
from_before line horizon first n some found r =
    exactly_as (IsLackingBefore line (week_start first) horizon n) (LackingBelow line horizon first n) Apart found
    (λ breach. ((before_is line horizon first n some breach).1, (before_is line horizon first n some breach).0)) r

-- if no weekly rest starts, nothing changes
last_keep : (line : Line) (start later w : ℕ) (last : Option Run) → start ≤ later
    → ((x : Run) → IsRestOf line 1440 x → x.start < later → x.start < start)
    → MatchOption last ((x : Run) → IsSeen line start x → ⊥) (λ rest. IsLastSeen line start w rest)
    → MatchOption last ((x : Run) → IsSeen line later x → ⊥) (λ rest. IsLastSeen line later w rest)
last_keep line start later w None from none h = λ x is. h x (is.0, none x is.0 is.1)
last_keep line start later w (Some rest) from none h = record {
  is = (h.is.0, let b : rest.start < start = h.is.1 in omega arith);
  last = λ x is. h.last x (is.0, none x is.0 is.1);
  within = h.within;
}

pub choices_keep : (line : Line) (horizon first start later w : ℕ) (current : WeekOfRests) (last : Option Run)
    (rested : Bool) (outcomes : List Bool) (own : List Breach) → start ≤ later
    → ((x : Run) → IsRestOf line 1440 x → x.start < later → x.start < start)
    → AreChoices line horizon first start w current last rested outcomes own
    → AreChoices line horizon first later w current last rested outcomes own
choices_keep line horizon first start later w current last rested outcomes own from none s = record {
  current_is = seen_agree (IsSeen line start) (IsSeen line later) w current
      (λ x a b. ((λ is. (is.0, let b : x.start < start = is.1 in omega arith)), λ is. (is.0, none x is.0 is.1)))
      s.current_is;
  last_is = last_keep line start later w last from none s.last_is;
  behind = s.behind;
}

-- the next weekly rest, after the weeks before its week have been closed
pub choices_rest : (line : Line) → IsInWeeks line → (horizon first start later w : ℕ) (current : WeekOfRests)
    (last : Option Run) (rested : Bool) (outcomes : List Bool) (own : List Breach) (rest : Run)
    → IsRestOf line 1440 rest → start ≤ rest.start → rest.start < later
    → ((x : Run) → IsRestOf line 1440 x → x.start < later → (x.start < start) ⊎ (x ≡ rest))
    → rest.start < week_start (w + 1)
    → AreChoices line horizon first start w current last rested outcomes own
    → AreChoices line horizon first later w (week_with w rest current) (Some rest) rested outcomes own
choices_rest line weeks horizon first start later w current last rested outcomes own rest is from below only within s =
    let fresh : IsSeen line start rest → ⊥ = λ seen. (let b : rest.start < start = seen.1 in omega arith) in
    let to : (x : Run) → (IsSeen line start x ⊎ (x ≡ rest)) → IsSeen line later x = λ x h. elim h [
      | inl old ↦ (old.0, let b : x.start < start = old.1 in omega arith)
      | inr same ↦ subst (λ (y : Run). IsSeen line later y) (sym same) (is, below)
    ] in
    let back : (x : Run) → IsSeen line later x → (IsSeen line start x ⊎ (x ≡ rest)) = λ x h. elim (only x h.0 h.1) [
      | inl old ↦ inl (h.0, old)
      | inr same ↦ inr same
    ] in
    record {
      current_is = seen_agree (λ x. IsSeen line start x ⊎ (x ≡ rest)) (IsSeen line later) w (week_with w rest current)
          (λ x a b. (to x, back x))
          (seen_more (IsSeen line start) w current rest fresh (order line weeks rest is) s.current_is);
      last_is = record {
        is = (is, below);
        last = λ x h. elim (only x h.0 h.1) [
          | inl old ↦ omega arith
          | inr same ↦ (let e : x.start ≡ rest.start = ap (λ (r : Run). r.start) same in omega arith)
        ];
        within = within;
      };
      behind = s.behind;
    }

-- if the last rest starts before a week, no other of the rests has a minute in that week
last_alone : (line : Line) → IsInWeeks line → (start w : ℕ) (last : Option Run)
    → MatchOption last ((x : Run) → IsSeen line start x → ⊥) (λ rest. IsLastSeen line start w rest)
    → IsWeekOfRests (IsSeen line start) (w + 1) (week_of_last (w + 1) last)
last_alone line weeks start w None none = seen_none (IsSeen line start) (w + 1) none
last_alone line weeks start w (Some rest) h =
    seen_agree (λ x. ⊥ ⊎ (x ≡ rest)) (IsSeen line start) (w + 1) (week_with (w + 1) rest week_none)
    (λ x a b. (
      λ s. elim s [
        | inl none ↦ absurd none
        | inr same ↦ subst (λ (y : Run). IsSeen line start y) (sym same) h.is
      ],
      λ s.
          (let most : x.start ≤ rest.start = h.last x s in
          let within : rest.start < week_start (w + 1) = h.within in
          let late : w + 1 ≤ last_of x = b in
          elim (cases_lt x.start rest.start) [
            | inl lt ↦ absurd
                (let apart : x.past < rest.start = separate line x rest s.0.rests h.is.0.rests lt in omega arith)
            | inr ge ↦ inr (one_run line 0 weeks.runs weeks.are x rest s.0.rests h.is.0.rests (omega arith))
          ]),
    ))
    (seen_more (λ x. ⊥) (w + 1) week_none rest (λ none. none) (order line weeks rest h.is.0)
    (seen_none (λ x. ⊥) (w + 1) (λ x none. none)))

last_on : (line : Line) (start w : ℕ) (last : Option Run)
    → MatchOption last ((x : Run) → IsSeen line start x → ⊥) (λ rest. IsLastSeen line start w rest)
    → MatchOption last ((x : Run) → IsSeen line start x → ⊥) (λ rest. IsLastSeen line start (w + 1) rest)
last_on line start w None h = h
last_on line start w (Some rest) h =
    record { is = h.is; last = h.last; within = let b : rest.start < week_start (w + 1) = h.within in omega arith }

-- a week whose rests have all been seen
module _ (line : Line) (weeks : IsInWeeks line) (horizon first start w : ℕ) (current : WeekOfRests) (last : Option Run)
    (rested : Bool) (outcomes : List Bool) (own : List Breach)
    (s : AreChoices line horizon first start w current last rested outcomes own)
    (early : week_start (w + 1) < FAR) (ended : week_start (w + 1) ≤ horizon)
    (all : (x : Run) → IsRestOf line 1440 x → x.start < week_start (w + 1) → x.start < start) where
  -- the rests seen are all weekly rests of the line with a minute in this week
  all_seen : IsWeekOfRests (IsWeeklyRest line) w current
  all_seen = seen_agree (IsSeen line start) (IsWeeklyRest line) w current
      (λ x a b. (
        λ seen. seen.0,
        λ is. (is, let first : first_week_of x ≤ w = a in all x is (omega arith)),
      )) s.current_is

  here : IsWeekOf line w current.rests
  here = all_seen.rests

  wholly : (current.whole ≡ true) ↔ IsWhollyAtRest line w
  wholly = seen_whole line w current early all_seen

  module _ (next : List Bool) (more : List Breach) (j : IsJudged w current rested outcomes next more) where
    -- the first week
    first_after : IsAtFirst first w rested outcomes own → IsAfter line horizon first (w + 1) current.whole next
        (own ++ more)
    first_after at =
        let first_week : IsWeekOf line first current.rests = subst (λ (v : ℕ). IsWeekOf line v current.rests) at.here
        here in
        let asked : (not rested && not current.whole) ≡ false = rw at.rests refl in
        let step : (xs : List Bool) → IsStep current.rests (not rested && not current.whole) outcomes xs
        → IsStep current.rests false ANY xs =
        λ xs h. subst (λ (ys : List Bool). IsStep current.rests false ys xs) at.any
        (subst (λ (b : Bool). IsStep current.rests b outcomes xs) asked h) in
        elim j [
          | inr failed ↦
              let x = failed.0 in
              let some = some_left line weeks horizon first first current.rests first_week x.0 (step x.0 x.1.0) in
              absurd (x.1.1 some.0 some.1)
          | inl served ↦ record {
            u = first;
            here = ap (λ (n : ℕ). n + 1) (sym at.here);
            from = omega arith;
            closed = closed_anew line weeks horizon first first current.rests first_week next (step next served.0.0)
                current.whole
                (subst (λ (v : ℕ). (current.whole ≡ true) ↔ IsWhollyAtRest line v) at.here wholly) (inl refl);
            found = subst (λ (xs : List Breach). AreCollected (IsLackingBefore line (week_start first) horizon first)
                xs)
                (let e : own ++ more ≡ [] = rw (at.none, served.1) refl in sym e)
                (to_before line horizon first first (omega arith) [] (lacking_none line horizon first));
          }
        ]

    -- a week after a closed one
    module _ (b : IsAfter line horizon first w rested outcomes own) where
      next_week : IsWeekOf line (b.u + 1) current.rests
      next_week = subst (λ (v : ℕ). IsWeekOf line v current.rests) (sym b.here) here

      next_whole : (current.whole ≡ true) ↔ IsWhollyAtRest line (b.u + 1)
      next_whole = subst (λ (v : ℕ). (current.whole ≡ true) ↔ IsWhollyAtRest line v) (sym b.here) wholly

      below : AreCollected (LackingBelow line horizon first b.u) own
      below = from_before line horizon first b.u b.from own b.found

      later : first ≤ b.u + 1
      later = let from : first ≤ b.u = b.from in omega arith

      breach_is : unserved_breach w ≡ record {
        kind = B9;
        moment = week_start (b.u + 2);
        since = week_start b.u;
        amount = 0;
      }
      breach_is =
          let at : b.u + 1 ≡ w = b.here in
          subst (λ (v : ℕ). unserved_breach v ≡ record {
            kind = B9;
            moment = week_start (b.u + 2);
            since = week_start
                b.u;
            amount = 0;
          }) at
          (let e : week_start (b.u + 1 + 1) ≡ week_start (b.u + 2) = omega arith in
          let f : week_start (b.u + 1 - 1) ≡ week_start b.u = omega arith in
          rw (e, f) refl)

      next_following : IsAfter line horizon first (w + 1) current.whole next (own ++ more)
      next_following = elim j [
        | inl served ↦
            let (step, (left, some)) = served.0 in
            record {
              u = b.u + 1;
              here = ap (λ (n : ℕ). n + 1) b.here;
              from = later;
              closed = closed_on line weeks horizon first b.u rested outcomes b.closed current.rests next_week
                  current.whole
                  next_whole next step left some;
              found = subst (λ (xs : List Breach). AreCollected (IsLackingBefore line (week_start first) horizon
                  (b.u + 1)) xs)
                  (let e : own ++ more ≡ own = rw served.1 (append-nil own) in sym e)
                  (to_before line horizon first (b.u + 1) later own
                  (lacking_skip line horizon first b.u b.from own below
                  (λ breach h. none_on line weeks horizon first b.u rested outcomes b.closed current.rests next_week
                  current.whole next_whole next step left some h.fails)));
            }
        | inr failed ↦
            let (reached, (step, none)) = failed.0 in
            let fails : Fails (CanServe line) (EndedBy horizon) first (b.u + 1) =
            fails_on line weeks horizon first b.u rested outcomes b.closed current.rests next_week current.whole
            next_whole
            reached step none (let at : b.u + 1 ≡ w = b.here in omega arith) in
            record {
              u = b.u + 1;
              here = ap (λ (n : ℕ). n + 1) b.here;
              from = later;
              closed = closed_anew line weeks horizon first (b.u + 1) current.rests next_week next failed.1
                  current.whole
                  next_whole (inr fails);
              found = subst (λ (xs : List Breach). AreCollected (IsLackingBefore line (week_start first) horizon
                  (b.u + 1)) xs)
                  (let e : own ++ more ≡ own ++ record {
                    kind = B9;
                    moment = week_start (b.u + 2);
                    since = week_start
                        b.u;
                    amount = 0;
                  } ∷ [] =
                  ap (λ (xs : List Breach). own ++ xs) (failed.2 ∙ ap (λ (y : Breach). y ∷ []) breach_is) in sym e)
                  (to_before line horizon first (b.u + 1) later
                  (own ++ record { kind = B9; moment = week_start (b.u + 2); since = week_start b.u; amount = 0 } ∷ [])
                  (lacking_add line horizon first b.u b.from own below
                  (record { kind = B9; moment = week_start (b.u + 2); since = week_start b.u; amount = 0 })
                  (record { kind_is = refl; fails = fails; moment = refl; since = refl; amount = refl })));
            }
      ]

    -- the week is closed
    pub choices_close : AreChoices line horizon first start (w + 1) (week_of_last (w + 1) last) last current.whole
        next (own ++ more)
    choices_close = record {
      current_is = last_alone line weeks start w last s.last_is;
      last_is = last_on line start w last s.last_is;
      behind = inr (elim s.behind [ inl at ↦ first_after at | inr b ↦ next_following b ]);
    }

-- after all weeks that have ended were closed, all breaches are found
pub choices_all : (line : Line) (base horizon first start w : ℕ) (current : WeekOfRests) (last : Option Run)
    (rested : Bool) (outcomes : List Bool) (own : List Breach) → base ≡ week_start first → horizon < week_start (w + 1)
    → AreChoices line horizon first start w current last rested outcomes own
    → AreCollected (IsLacking line base horizon) own
choices_all line base horizon first start w current last rested outcomes own monday late s = elim s.behind [
  | inl at ↦
      let here : w ≡ first = at.here in
      subst (λ (xs : List Breach). AreCollected (IsLacking line base horizon) xs) (sym at.none)
      (lacking_all line base horizon first first monday (omega arith) [] (lacking_none line horizon first))
  | inr b ↦
      let here : b.u + 1 ≡ w = b.here in
      lacking_all line base horizon first b.u monday (omega arith) own
      (from_before line horizon first b.u b.from own b.found)
]

-- all breaches have the kind B9
pub judged_kinds : (w : ℕ) (week : WeekOfRests) (rested : Bool) (old next : List Bool) (more : List Breach)
    → IsJudged w week rested old next more → All (λ (y : Breach). IsTrue (is_b9 y.kind)) more
judged_kinds w week rested old next more (inl served) =
    subst (All (λ (y : Breach). IsTrue (is_b9 y.kind))) (sym served.1) (All-nil (λ (y : Breach). IsTrue (is_b9 y.kind)))
judged_kinds w week rested old next more (inr failed) =
    subst (All (λ (y : Breach). IsTrue (is_b9 y.kind))) (sym failed.2)
    (All-cons (λ (y : Breach). IsTrue (is_b9 y.kind)) (unserved_breach w) [] refl
    (All-nil (λ (y : Breach). IsTrue (is_b9 y.kind))))
