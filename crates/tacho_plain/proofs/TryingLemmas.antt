-- Whether a choice serves weeks and leaves the last of them with an outcome depends on the outcomes of the week before. All ten outcomes
-- are tried (`can_leave`, `can_serve`).
use Rattle.std.proofs.Common.{◌≡◌, ◌≢◌, ℕ, ◌+◌, ◌-◌, ◌<◌, ◌≤◌, inl, inr, Bool, true, List}
use Rattle.std.proofs.Common.{length, get_or, sym, subst, arith}
use Rattle.std.specs.Prelude.{◌↔◌, ◌&&◌, not}
use Rattle.std.proofs.lemmas.Bool.{cases_lt}
use Rattle.tacho_law.specs.Line.{Line}
use Rattle.tacho_law.specs.Weeks.{IsWhollyAtRest, IsWeeklyRest}
use Rattle.tacho_law.specs.Choice.{CanServe}
use Rattle.tacho_choice.specs.declared.outcome.Outcome.{Outcome}
use Rattle.tacho_choice.specs.declared.week.WeekOfRests.{WeekOfRests}
use Rattle.tacho_choice.specs.Step.{place_of, IsFirst, IsNext}
use Rattle.tacho_choice.specs.Weeks.{IsInWeeks, IsWeekOfRests, CanReach, IsPairAsked, week_none}
use Rattle.tacho_choice.proofs.LawfulLemmas.{reach_law, start_law, serve_law}
use Rattle.tacho_choice.proofs.OutcomesLemmas.{place_below, place_only}
use Rattle.tacho_choice.proofs.SeenLemmas.{asks_is, seen_whole}
use Rattle.tacho_plain.specs.Choices.{AreWeeksOf}

-- none of the first n outcomes satisfies `P`
abbrev pub NoneBelow : (Outcome → Type 0) → ℕ → Type 0
NoneBelow P n = (outcome : Outcome) → place_of outcome < n → P outcome → ⊥

-- the next outcome doesn't either
pub none_below : (P : Outcome → Type 0) (n : ℕ) (next : Outcome) → place_of next ≡ n → (P next → ⊥)
    → NoneBelow P n → NoneBelow P (n + 1)
none_below P n next at fails none outcome below is = elim (cases_lt (place_of outcome) n) [
  | inl lt ↦ none outcome lt is
  | inr ge ↦
      let same : place_of outcome ≡ place_of next = omega arith in
      fails (subst P (place_only outcome next same) is)
]

-- so none of the ten does
pub none_of_ten : (P : Outcome → Type 0) (n : ℕ) → 10 ≤ n → NoneBelow P n → (outcome : Outcome) → P outcome → ⊥
none_of_ten P n all none outcome is =
    none outcome (let below : place_of outcome < 10 = place_below outcome in omega arith) is

module _ (line : Line) (start : ℕ) (weeks : List WeekOfRests) (is : IsInWeeks line)
    (are : AreWeeksOf line start weeks) where
  whole_is : (i : ℕ) → i < length weeks → ((get_or weeks i week_none).whole ≡ true) ↔ IsWhollyAtRest line (start + i)
  whole_is i within =
      let early : start + length weeks ≤ 6788 = are.early in
      seen_whole line (start + i) (get_or weeks i week_none) (omega arith) (are.each i within)

  -- the outcomes of the first week
  pub leave_first : (first at : ℕ) (left : Outcome) → at < length weeks → at ≡ first
      → CanReach line (start + first) (start + at) left ↔ IsFirst (get_or weeks at week_none).rests left
  leave_first first at left within same =
      subst (λ (u : ℕ). CanReach line (start + u) (start + at) left ↔ IsFirst (get_or weeks at week_none).rests left)
      same
      (start_law line (start + at) (get_or weeks at week_none).rests left is (are.each at within).rests)

  -- the outcomes of each later week, from those of the week before
  pub leave_next : (first at : ℕ) (left : Outcome) (asks : Bool) → at < length weeks → first ≤ at → at ≢ first
      → asks ≡ (not (get_or weeks (at - 1) week_none).whole && not (get_or weeks at week_none).whole)
      → CanReach line (start + first) (start + at) left
      ↔ ((before : Outcome) × (CanReach line (start + first) (start + (at - 1)) before
      × IsNext (get_or weeks at week_none).rests asks before left))
  leave_next first at left asks within from behind asked =
      let old : WeekOfRests = get_or weeks (at - 1) week_none in
      let new : WeekOfRests = get_or weeks at week_none in
      let u : ℕ = start + (at - 1) in
      let e : start + at ≡ u + 1 = omega arith in
      let here : IsWeekOfRests (IsWeeklyRest line) (u + 1) new =
      subst (λ (w : ℕ). IsWeekOfRests (IsWeeklyRest line) w new) e (are.each at within) in
      let rested : (new.whole ≡ true) ↔ IsWhollyAtRest line (u + 1) =
      subst (λ (w : ℕ). (new.whole ≡ true) ↔ IsWhollyAtRest line w) e (whole_is at within) in
      let pair : IsPairAsked line u asks =
      subst (IsPairAsked line u) (sym asked) (asks_is line u old.whole new.whole (whole_is (at - 1) (omega arith)) rested) in
      subst (λ (w : ℕ). CanReach line (start + first) w left
      ↔ ((before : Outcome) × (CanReach line (start + first) u before × IsNext new.rests asks before left))) (sym e)
      (reach_law line (start + first) u old.rests new.rests asks left is
      (omega arith) (are.each (at - 1) (omega arith)).rests here.rests pair)

  -- some choice serves iff some outcome can be reached
  pub serve_where : (first at : ℕ) → at < length weeks
      → CanServe line (start + first) (start + at)
      ↔ ((left : Outcome) × CanReach line (start + first) (start + at) left)
  serve_where first at within =
      serve_law line (start + first) (start + at) (get_or weeks at week_none).rests is (are.each at within).rests
