use Rattle.std.proofs.Common.{ℕ, ◌∷◌, [], None, Some, refl, subst}
use Rattle.tacho_stretches.specs.Start.{IsNextStart}
use Rattle.tacho_stretches.specs.Pass.{examining}
use Rattle.tacho_stretches.proofs.PassLemmas.{sought_none, sought_some}
use Rattle.tacho_stretches.proofs.pass.StretchPass.seek.Goals as goal

pub returns-in_default-clause-fed : goal.returns-in_default-clause-fed
returns-in_default-clause-fed c =
    sought_none _ c.args.span.now c.args.examined c.requires.past refl
    (subst (λ (m : ℕ). IsNextStart (c.args.span.now ∷ []) m None) c.horizon_of.ensures c.in_default.ensures)

pub returns-clause-fed : goal.returns-clause-fed
returns-clause-fed c =
    sought_some _ c.args.span.now c.args.examined c.in-Some.start c.args.found.now.done.items (examining c.new-self.result c.empty.result) c.requires.past c.requires.none
    c.in_ok-push.ensures.items
    (subst (λ (m : ℕ). IsNextStart (c.args.span.now ∷ []) m (Some c.in-Some.start)) c.horizon_of.ensures c.in-Some.ensures)
    c.new-self.ensures.monday c.new-self.ensures.minute
    (c.new-self.ensures.none c.empty.result c.empty.ensures.breaches c.empty.ensures.debts) c.go_on.ensures.monday c.go_on.ensures.minute c.in_ok-go_on.ensures.taken
