use Rattle.std.proofs.Common.{◌∙◌, ◌+◌, ◌-◌, length, drop, arith}
use Rattle.std.proofs.lemmas.List.{length-drop, take_all}
use Rattle.tacho_http.proofs.PartLemmas.{after_last, last_whole}
use Rattle.tacho_http.proofs.places.last_of.Goals as goal

pub returns-in-Some : goal.returns-in-Some
returns-in-Some c =
    let path = c.args.path.now in
    let k = c.in-Some.slash in
    take_all (length path - (k + 1)) (drop (k + 1) path) (omega (arith, length-drop (k + 1) path))
    ∙ after_last path path k c.in-Some.ensures.0 c.in-Some.ensures.1

pub returns-in-None : goal.returns-in-None
returns-in-None c = last_whole c.args.path.now c.args.path.now c.in-None.ensures
