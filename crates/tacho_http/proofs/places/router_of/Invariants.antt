use Rattle.std.proofs.Common.{◌≡◌, [], map, drop}
use Rattle.tacho_desk.specs.Commands.{row_of}
use Rattle.tacho_http.specs.Offers.{offers_in}
use Rattle.tacho_http.specs.Routes.{with_offers}
use Rattle.tacho_http.proofs.places.router_of.Given as goal

-- the routes so far, followed by those of the rest of the table, are the routes of the whole table
abbrev pub invariant-loop-command : goal.invariant-loop-command
invariant-loop-command l =
    with_offers l.router (offers_in l.fn.posted (map row_of (drop l.command-index l.table))) ≡ with_offers [] (offers_in l.fn.posted (map row_of l.table))
