use Rattle.std.proofs.Common.{rules, ◌≡◌, ◌≤◌, ◌++◌, ◌∙◌, List, [], length, take, subst, ap}
use Rattle.std.proofs.lemmas.List.{append-nil, take_all}
use Rattle.tacho_time.specs.declared.span.Span.{Span}
use Rattle.tacho_time.specs.Spans.{StartsFrom}
use Rattle.tacho_time.proofs.canonical.are_in_order.Goals as goal

pub returns : goal.returns
returns c =
    let spans : List Span = c.args.spans.now in
    let taken : List Span = take c.loop-span.span-index spans in
    let end : length spans ≤ c.loop-span.span-index = search rules in
    let all : taken ++ [] ≡ spans = append-nil taken ∙ take_all c.loop-span.span-index spans end in
    λ is. subst (StartsFrom 0) all (c.loop-span.invariant [] tt)
