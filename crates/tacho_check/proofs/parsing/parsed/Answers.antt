use Rattle.std.proofs.Common.{rules, ◌≡◌, ◌∙◌, ◌+◌, List, [], ◌∷◌, ◌++◌, take, sym, ap, subst, arith, Some}
use Rattle.std.proofs.lemmas.Grind.{common_steps}
use Rattle.std.specs.List.{slice_index_or}
use Rattle.sqlite.specs.Order.{Row}
use Rattle.sqlite_rules.proofs.ListLemmas.{has_at}
use Rattle.tacho_check.specs.Parsed.{AreRead}
use Rattle.tacho_check.proofs.ParsedLemmas.{pairs_more}
use Rattle.tacho_check.proofs.parsing.parsed.Goals as goal

pub loop-row-preserved : goal.loop-row-preserved
loop-row-preserved g c =
    let rows : List Row = c.args.rows.now in
    let i = c.loop-row.row-index in
    let r : Row = c.row-item.result in
    let is_of = g.T.FromRow.is_of in
    let at : slice_index_or rows i r ≡ r = search rules in
    let cut : take (i + 1) rows ≡ take i rows ++ slice_index_or rows i r ∷ [] = grind (arith, common_steps) in
    subst (λ xs. AreRead is_of xs c.push.new.self.items) (sym (cut ∙ ap (λ x. take i rows ++ x ∷ []) at))
    (subst (AreRead is_of (take i rows ++ r ∷ [])) (sym c.in_ok-push-in-Some.ensures.items)
    (pairs_more (λ row y. is_of row (Some y)) (take i rows) c.loop-row.found.items r c.in-Some.one c.loop-row.invariant
    (subst (is_of r) c.in-Some.is c.in_ok-next.ensures)))

pub returns-in-None : goal.returns-in-None
returns-in-None g c =
    let r : Row = c.row-item.result in (
      r,
      has_at c.args.rows.now c.loop-row.row-index r (search rules) (search rules),
      subst
          (g.T.FromRow.is_of r) c.in-None.is c.in_ok-next.ensures,
    )
