use Rattle.std.proofs.Common.{◌≡◌, ◌∙◌, ap, arith}
use Rattle.tacho_card.specs.DriverActivity.{number_at}
use Rattle.tacho_card.proofs.WrapLemmas.{number_at_reduced}
use Rattle.tacho_card.proofs.cyclic.number_in.Goals as goal

pub returns : goal.returns
returns c =
    let buffer = c.args.buffer.now in
    let place = c.place_in-place.result in
    let first = c.byte_in.ensures in
    let second = c.byte_in-2.ensures in
    let there : c.read_u16.result ≡ number_at buffer place = omega (arith, c.read_u16.ensures, first, second) in
    there ∙ ap (number_at buffer) c.place_in-place.ensures.value ∙ number_at_reduced buffer c.args.i
