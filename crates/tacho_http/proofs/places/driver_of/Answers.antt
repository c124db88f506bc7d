use Rattle.std.proofs.Common.{◌≡◌, ◌∙◌, ◌-◌, ap, drop, length, take, arith}
use Rattle.std.proofs.lemmas.List.{length-drop, take_all}
use Rattle.tacho_http.specs.Routes.{before_slash}
use Rattle.tacho_http.proofs.PartLemmas.{before_first, no_slash}
use Rattle.tacho_http.proofs.places.driver_of.Goals as goal

pub returns-in-Some : goal.returns-in-Some
returns-in-Some c =
    let path = c.args.path.now in
    let whole : take (length path - 9) (drop 9 path) ≡ drop 9 path = take_all _ _ (omega (arith, length-drop 9 path)) in
    before_first (take (length path - 9) (drop 9 path)) c.in-Some.end c.in-Some.ensures.0 c.in-Some.ensures.1 ∙ ap before_slash whole

pub returns-in-None : goal.returns-in-None
returns-in-None c =
    let path = c.args.path.now in
    let whole : take (length path - 9) (drop 9 path) ≡ drop 9 path = take_all _ _ (omega (arith, length-drop 9 path)) in
    no_slash (take (length path - 9) (drop 9 path)) c.in-None.ensures ∙ ap before_slash whole
