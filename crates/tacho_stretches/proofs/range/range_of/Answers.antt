use Rattle.std.proofs.Common.{rules, ◌≡◌, ◌∙◌, ◌-◌, ◌<◌, length, get_or}
use Rattle.tacho_stretches.specs.declared.stretch.Stretch.{Stretch}
use Rattle.tacho_stretches.proofs.RangeLemmas.{range_is}
use Rattle.tacho_stretches.proofs.range.range_of.Goals as goal

pub returns : goal.returns
returns c = λ line base end are held.
    let xs = c.args.stretches.now in
    let first : Stretch = c.in-Some-Some.first.now in
    let last : Stretch = c.in-Some-Some.last.now in
    let some : 0 < length xs = search rules in
    let at : first ≡ get_or xs 0 first = search rules in
    let is : last ≡ get_or xs (length xs - 1) last = search rules in
    let range = range_is xs first last line base end some at is are held in
    (range.0, c.unwrap_or.ensures ∙ range.1)
