use Rattle.std.proofs.Common.{◌∙◌, true≢false, inr, map, subst, sym}
use Rattle.tacho_check.specs.Parsed.{IsCounted}
use Rattle.tacho_check.proofs.ParsedLemmas.{in_order}
use Rattle.tacho_check.proofs.parsing.counted.Goals as goal

pub returns-then-not-are_counted : goal.returns-then-not-are_counted
returns-then-not-are_counted g c =
    let number_of = g.T.Numbered.number_of in
    let sorted = c.in_order-ordered.result.items in
    inr (
      sorted,
      in_order g.T.FromRow.is_of number_of c.args.rows.now c.in_ok-found.found c.in-Some.unordered sorted c.in-Some.is c.in_ok-found.ensures
          c.in_order-ordered.ensures.same c.in_order-ordered.ensures.sorted,
      (λ counted. true≢false (sym (c.are_counted.ensures.1
          (subst (λ xs. IsCounted c.args.count (map number_of xs)) (sym c.deref.ensures.value) counted)) ∙ c.if-not-are_counted.true)),
    )

pub returns : goal.returns
returns g c = (
  in_order g.T.FromRow.is_of g.T.Numbered.number_of c.args.rows.now c.in_ok-found.found c.in-Some.unordered c.in_order-ordered.result.items
      c.in-Some.is c.in_ok-found.ensures c.in_order-ordered.ensures.same c.in_order-ordered.ensures.sorted,
  subst (λ xs. IsCounted c.args.count (map g.T.Numbered.number_of xs)) c.deref.ensures.value
      (c.are_counted.ensures.0 c.if-not-are_counted.false),
)
