use Rattle.std.proofs.Common.{◌++◌, ◌∷◌, [], inl, inr, refl, sym, ap, subst, ◌∙◌, List, Bool, Option}
use Rattle.std.specs.Prelude.{MatchOption}
use Rattle.std.proofs.lemmas.List.{append-nil}
use Rattle.tacho_law.specs.declared.breach.Breach.{Breach}
use Rattle.tacho_choice.specs.declared.week.WeekOfRests.{WeekOfRests}
use Rattle.tacho_rests.specs.Choices.{unserved_breach, IsServedStep, IsUnservedStep}
use Rattle.tacho_rests.proofs.missing_rest.Choices.close.Goals as goal
use Rattle.tacho_rests.proofs.missing_rest.Choices.close.Goals.{in-Some, in-None+in_ok-push-in-None}

pub returns-clause-judged : goal.returns-clause-judged
returns-clause-judged c =
    let week : WeekOfRests = c.args.self.now.current in
    let rested : Bool = c.args.self.now.rested in
    let old : List Bool = c.args.self.now.outcomes in
    let said : Option (List Bool) → Type 0 = λ o. MatchOption o (IsUnservedStep week rested old)
    (λ next. IsServedStep week rested old next) in
    elim c.match-served.branch [
      | in-Some w ↦
          let is : IsServedStep week rested old w.in-Some.next = subst said w.in-Some.is c.served.ensures in
          rw (w.found-is, w.outcomes-is) ([], sym (append-nil c.args.found.now.breaches.items), inl (is, refl))
      | in-None+in_ok-push-in-None w ↦
          let is : IsUnservedStep week rested old = subst said w.in-None.is c.served.ensures in
          rw (w.found-is, w.outcomes-is) (
            unserved_breach c.args.self.now.week ∷ [],
            w.in_ok-push-in-None.ensures.items ∙ ap (λ (b : Breach). c.args.found.now.breaches.items ++ b ∷ [])
                w.unserved.ensures,
            inr (is, w.step-outcomes.ensures, refl),
          )
    ]
