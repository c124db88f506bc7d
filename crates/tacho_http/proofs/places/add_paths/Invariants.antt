use Rattle.std.proofs.Common.{◌≡◌, map, drop}
use Rattle.tacho_http.specs.Offers.{offer_at}
use Rattle.tacho_http.specs.Routes.{with_offers}
use Rattle.tacho_http.proofs.places.add_paths.Given as goal

-- the routes so far, followed by those at the rest of the paths, are those at all paths
abbrev pub invariant-loop-path : goal.invariant-loop-path
invariant-loop-path l =
    with_offers l.router (map (offer_at l.want) (map (λ path. path.now) (drop l.path-index l.paths)))
    ≡ with_offers l.fn.router (map (offer_at l.want) (map (λ path. path.now) l.paths))
