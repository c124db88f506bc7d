use Rattle.std.proofs.Common.{◌≡◌, ◌∙◌, [], add-one, ap, drop, drop-cons, arith, map, sym}
use Rattle.std.proofs.lemmas.Grind.{common_steps}
use Rattle.tacho_desk.specs.Commands.{row_of}
use Rattle.tacho_http.specs.Offers.{offers_in}
use Rattle.tacho_http.specs.Routes.{with_offers}
use Rattle.tacho_http.proofs.RouteLemmas.{with_both}
use Rattle.tacho_http.proofs.places.router_of.Goals as goal

pub loop-command-preserved : goal.loop-command-preserved
loop-command-preserved c =
    let i = c.loop-command.command-index in
    rw (add-one i, c.in_ok-add_command.ensures, ← with_both)
    (sym (ap (λ rest. with_offers c.loop-command.router (offers_in c.args.posted (map row_of rest)))
    (drop-cons c.args.table.now i _ (omega arith))) ∙ c.loop-command.invariant)

pub returns : goal.returns
unfolding with_offers
returns c =
    let none : drop c.loop-command.command-index c.args.table.now ≡ [] = grind (arith, common_steps) in rw none at c.loop-command.invariant
