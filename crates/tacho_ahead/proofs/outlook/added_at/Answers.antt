use Rattle.std.proofs.Common.{◌≡◌, ◌∙◌, ◌++◌, List, length, sym, ap, subst, rules}
use Rattle.tacho_law.specs.declared.breach.Breach.{Breach}
use Rattle.tacho_ahead.specs.Fed.{AreReported}
use Rattle.tacho_ahead.proofs.PlanLemmas.{rest_of}
use Rattle.tacho_ahead.proofs.EndedLemmas.{reported_of}
use Rattle.tacho_ahead.proofs.outlook.added_at.Goals as goal

pub returns-clause-added : goal.returns-clause-added
returns-clause-added c = λ plan base is ends.
    let old = c.args.found.now.breaches.items in
    let longer = c.end_at.ensures.appends.longer in
    let all = reported_of plan base c.end_at.new.found (c.in_ok-end_at.ensures.all plan base is ends) in
    let count : c.len-breaches.result ≡ length old = search rules in
    let added : c.in_ok-added.added.items ≡ c.end_at.ensures.appends.breaches =
    c.in_ok-added.ensures.items
    ∙ rest_of c.deref.result.now old c.end_at.ensures.appends.breaches c.len-breaches.result (c.deref.ensures.value ∙ longer) count in
    subst (AreReported plan base) (longer ∙ ap (λ (xs : List Breach). old ++ xs) (sym added)) all
