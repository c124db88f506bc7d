-- A closed week: the outcomes that choices leave of it, if they are valid since a start, computed from those of the week before
-- (specs/Choices, IsClosed).
use Rattle.std.proofs.Common.{◌≡◌, ℕ, ◌+◌, ◌<◌, ◌≤◌, ◌⊎◌, inl, inr, refl, sym, ap, ◌∙◌, arith, Bool, true, false}
use Rattle.std.proofs.Common.{List, Option, Some, None}
use Rattle.std.specs.Prelude.{◌↔◌, ◌&&◌, ◌||◌, not, is_some}
use Rattle.std.proofs.lemmas.Bool.{cases_Bool, both_ways, false_from_ne_true}
use Rattle.tacho_law.specs.declared.run.Run.{Run}
use Rattle.tacho_law.specs.Line.{Line}
use Rattle.tacho_law.specs.Weeks.{IsWhollyAtRest, IsWeeklyRest}
use Rattle.tacho_law.specs.Choice.{CanServe}
use Rattle.tacho_law.specs.Anew.{Fails, EndedBy}
use Rattle.tacho_law.proofs.AnewLemmas.{none_at, fails_at}
use Rattle.tacho_law.proofs.LackingWeekLemmas.{serves_less}
use Rattle.tacho_choice.specs.declared.counted.Counted.{Counted}
use Rattle.tacho_choice.specs.declared.counted.Counted.TheVariants.{Nothing}
use Rattle.tacho_choice.specs.declared.outcome.Outcome.{Outcome}
use Rattle.tacho_choice.specs.declared.outcome.TheConstants.{ANY}
use Rattle.tacho_choice.specs.declared.weekly_rests.WeeklyRests.{WeeklyRests}
use Rattle.tacho_choice.specs.Counted.{IsOneOf}
use Rattle.tacho_choice.specs.Step.{HasOutcome, IsNext, IsFirst, plus_where}
use Rattle.tacho_choice.specs.Weeks.{first_week_of, last_of, is_regular, IsInWeeks, IsWeekOf, CanReach}
use Rattle.tacho_choice.proofs.ConnectingLemmas.{order, can_serve_is}
use Rattle.tacho_choice.proofs.LawfulLemmas.{reach_law, start_law, serve_law}
use Rattle.tacho_choice.proofs.SeenLemmas.{asks_is}
use Rattle.tacho_rests.specs.Choices.{IsStep, IsClosed}

any_holds : (crossing : Bool) → HasOutcome ANY (record { counted = Nothing; crossing = crossing })
any_holds true = refl
any_holds false = refl

where_none : (a b : Bool) (edge : Option Bool) (counted : Counted) → is_some edge ≡ false
    → plus_where a edge counted ≡ plus_where b edge counted
where_none a b None counted h = refl
where_none a b (Some l) counted h = absurd (let e : true ≡ false = h in cc)

may_either : (through before after : Bool) (starting : Option Bool) → through ≡ false
    → ((not after || (through || is_some starting)) && (not (through && before) || after))
    ≡ ((not after || (through || is_some starting)) && (not (through && false) || after))
may_either through before after starting h = rw h refl

module _ (line : Line) (is : IsInWeeks line) (horizon first : ℕ) where
  -- from a week to itself, nothing is required
  serve_none : (a : ℕ) → CanServe line a a
  serve_none a = (can_serve_is line is a a).1 (record {
    week_of = last_of;
    choice = λ r rest. (order line is r rest, omega arith);
    each = λ w above below. absurd (omega arith);
  })

  edge_there : (w : ℕ) (r : Run) (edge : Option Bool)
      → IsOneOf is_regular (λ rest. IsWeeklyRest line rest × (first_week_of rest < w) × (w ≤ last_of rest)) edge
      → IsWeeklyRest line r × (first_week_of r < w) × (w ≤ last_of r) → is_some edge ≡ true
  edge_there w r None none e = absurd (none r e)
  edge_there w r (Some l) some e = refl

  any_first : (w : ℕ) (week : WeeklyRests) → IsWeekOf line w week → (s : Outcome)
      → ((old : Outcome) × (HasOutcome ANY old × IsNext week false old s)) ↔ IsFirst week s
  any_first w week here s = (
    λ x. elim (cases_Bool (is_some week.entering)) [
      | inl some ↦
          record { before = x.0.crossing; comes = λ e. some; allowed = x.1.1.allowed; counted = x.1.1.counted }
      | inr none ↦
          let t : week.through ≡ false = false_from_ne_true week.through (λ e.
          let y = here.through.0 e in
          both_ways (is_some week.entering) none (edge_there w y.0 week.entering here.entering y.1.0)) in
          record {
            before = false;
            comes = λ e. absurd (let k : false ≡ true = e in cc);
            allowed = sym (may_either week.through x.0.crossing s.crossing week.starting t) ∙ x.1.1.allowed;
            counted = x.1.1.counted ∙ ap (plus_where s.crossing week.starting)
                (where_none (not x.0.crossing && (not week.through || s.crossing))
                (not false && (not week.through || s.crossing)) week.entering week.inside none);
          }
    ],
    λ h. (
      record { counted = Nothing; crossing = h.before },
      (
        any_holds h.before,
        record {
          allowed = h.allowed;
          counted = h.counted;
          served = λ e. absurd (let k : false ≡ true = e in cc);
        },
      ),
    ),
  )

  -- a week from which choices start: some outcome is left of it, and these are the outcomes
  module _ (a : ℕ) (week : WeeklyRests) (here : IsWeekOf line a week) (next : List Bool)
      (step : IsStep week false ANY next) where
    each_anew : (s : Outcome) → HasOutcome next s ↔ CanReach line a a s
    each_anew s = (
      λ h. (start_law line a week s is here).1 ((any_first a week here s).0 ((step s).0 h)),
      λ h. (step s).1 ((any_first a week here s).1 ((start_law line a week s is here).0 h)),
    )

    pub some_left : (s : Outcome) × HasOutcome next s
    some_left =
        let some = (serve_law line a a week is here).0 (serve_none a) in
        (some.0, (each_anew some.0).1 some.1)

    pub closed_anew : (whole : Bool) → (whole ≡ true) ↔ IsWhollyAtRest line a
        → (a ≡ first) ⊎ Fails (CanServe line) (EndedBy horizon) first a
        → IsClosed line horizon first a whole next
    closed_anew whole wholly starts = record {
      start = a;
      starts = starts;
      within = omega arith;
      each = each_anew;
      serves = serve_none a;
      rests = wholly;
      week = week;
      is_week = here;
    }

  -- a week after a closed one
  module _ (u : ℕ) (rested : Bool) (outcomes : List Bool) (r : IsClosed line horizon first u rested outcomes)
      (week : WeeklyRests) (here : IsWeekOf line (u + 1) week)
      (whole : Bool) (wholly : (whole ≡ true) ↔ IsWhollyAtRest line (u + 1)) (next : List Bool)
      (step : IsStep week (not rested && not whole) outcomes next) where
    each_next : (s : Outcome) → HasOutcome next s ↔ CanReach line r.start (u + 1) s
    each_next s =
        let law = reach_law line r.start u r.week week (not rested && not whole) s is r.within r.is_week here
        (asks_is line u rested whole r.rests wholly) in (
          λ h. let x = (step s).0 h in law.1 (x.0, ((r.each x.0).0 x.1.0, x.1.1)),
          λ h. let x = law.0 h in (step s).1 (x.0, ((r.each x.0).1 x.1.0, x.1.1)),
        )

    serves_on : (s : Outcome) → HasOutcome next s → CanServe line r.start (u + 1)
    serves_on s some = (serve_law line r.start (u + 1) week is here).1 (s, (each_next s).0 some)

    -- some choice is valid up to this week, so there is no breach
    pub closed_on : (s : Outcome) → HasOutcome next s → IsClosed line horizon first (u + 1) whole next
    closed_on s some = record {
      start = r.start;
      starts = r.starts;
      within = let within : r.start ≤ u = r.within in omega arith;
      each = each_next;
      serves = serves_on s some;
      rests = wholly;
      week = week;
      is_week = here;
    }

    pub none_on : (s : Outcome) → HasOutcome next s → Fails (CanServe line) (EndedBy horizon) first (u + 1) → ⊥
    none_on s some =
        none_at (CanServe line) (EndedBy horizon) first (serves_less line) r.start u r.starts r.within r.serves
        (serves_on s some)

    -- or no choice is valid up to this week
    pub fails_on : ((s : Outcome) → HasOutcome next s → ⊥) → EndedBy horizon (u + 1)
        → Fails (CanServe line) (EndedBy horizon) first (u + 1)
    fails_on none ended =
        fails_at (CanServe line) (EndedBy horizon) first (serves_less line) r.start u r.starts r.within r.serves ended
        (λ h. let x = (serve_law line r.start (u + 1) week is here).0 h in none x.0 ((each_next x.0).1 x.1))
