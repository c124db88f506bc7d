use Rattle.std.proofs.Common.{◌≡◌, ◌∙◌, [], add-one, ap, drop, drop-cons, arith, map, sym}
use Rattle.std.proofs.lemmas.Grind.{common_steps}
use Rattle.tacho_http.specs.Offers.{offer_at}
use Rattle.tacho_http.specs.Routes.{with_offers}
use Rattle.tacho_http.proofs.RouteLemmas.{added}
use Rattle.tacho_http.proofs.places.add_paths.Goals as goal

pub loop-path-preserved : goal.loop-path-preserved
unfolding with_offers
loop-path-preserved c =
    let i = c.loop-path.path-index in
    rw (add-one i, added _ _ _ c.insert.ensures c.in_ok-insert.was, c.asker_at-asker.ensures, c.ending_of-ending.ensures)
    (sym (ap (λ rest. with_offers c.loop-path.router (map (offer_at c.args.want) (map (λ path. path.now) rest)))
    (drop-cons c.args.paths.now i _ (omega arith))) ∙ c.loop-path.invariant)

pub returns : goal.returns
unfolding with_offers
returns c =
    let none : drop c.loop-path.path-index c.args.paths.now ≡ [] = grind (arith, common_steps) in rw none at c.loop-path.invariant
