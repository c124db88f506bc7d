use borrow.Author.Tests.{tests}
use Rattle.std.proofs.Common.{◌==◌, refl, rules}
use Rattle.std.proofs.lemmas.Iterator.{YieldsList-from_slice}
use Rattle.std.proofs.lemmas.Iterator.Search.{position_from_yields_List}
use Rattle.tacho_state.specs.State.{driver_of}
use Rattle.tacho_shelf.proofs.PlaceLemmas.{place_found}
use Rattle.tacho_shelf.proofs.row.place_of.Goals as goal

pub returns : goal.returns
returns c =
    place_found (λ d. d.number == c.args.number) (driver_of c.args.number) refl (λ d s. refl) c.args.rows.now c.position.result
    (position_from_yields_List (λ d. d.number == c.args.number) _ _ c.position.result c.position.ensures.ran
    (YieldsList-from_slice c.args.rows.now cc) (λ x b q k. search (rules, tests)))
