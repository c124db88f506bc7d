use Rattle.std.proofs.Common.{◌≡◌, ◌<◌, ◌∷◌, length, sym, ap, ◌∙◌, arith}
use Rattle.std.proofs.lemmas.Bool.Decides.{nat_tests}
use Rattle.tacho_card.proofs.BlockLemmas.{next_block}
use Rattle.tacho_card.proofs.ChainLemmas.{less_left}
use Rattle.tacho_card.proofs.FileLemmas.{items, no_items, next_item}
use Rattle.tacho_card.proofs.blocks.BlocksIterator.next.Goals as goal

pub returns-then-is_empty-clause-steps : goal.returns-then-is_empty-clause-steps
returns-then-is_empty-clause-steps c =
    let bytes = c.self.inside.rest.now in
    let nothing : length bytes ≡ 0 = grind (arith, nat_tests) in
    let e = sym c.self.view_is ∙ no_items bytes nothing in
    (e, e)

pub front_block-block-requires : goal.front_block-block-requires
front_block-block-requires c =
    let bytes = c.self.inside.rest.now in
    let some : 0 < length bytes = grind (arith, nat_tests) in
    (next_block bytes (items bytes) some c.self.invariant).0

pub after_front-self-inside-requires : goal.after_front-self-inside-requires
after_front-self-inside-requires c =
    let bytes = c.self.inside.rest.now in
    let some : 0 < length bytes = grind (arith, nat_tests) in
    (next_block bytes (items bytes) some c.self.invariant).0

pub invariant_of-self : goal.invariant_of-self
invariant_of-self c =
    let bytes = c.self.inside.rest.now in
    let some : 0 < length bytes = grind (arith, nat_tests) in
    (next_item bytes c.after_front-self-inside.result.now some c.after_front-self-inside.ensures c.self.invariant).0

pub returns-clause-steps : goal.returns-clause-steps
returns-clause-steps c =
    let bytes = c.self.inside.rest.now in
    let some : 0 < length bytes = grind (arith, nat_tests) in
    let next = next_item bytes c.after_front-self-inside.result.now some c.after_front-self-inside.ensures c.self.invariant in
    sym c.self.view_is ∙ next.1 ∙ ap (λ b. b ∷ items c.after_front-self-inside.result.now) (sym c.front_block-block.ensures)

pub returns-clause-goes : goal.returns-clause-goes
returns-clause-goes c =
    record { on = λ _. (tt, tt, less_left _ _ _ (returns-clause-steps c)); keeps = tt; rests = λ _. tt }
