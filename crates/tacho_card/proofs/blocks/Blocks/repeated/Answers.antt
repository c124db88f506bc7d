use Rattle.std.proofs.Common.{true, false, set, slice_index_or, sym, ap, ◌∙◌}
use Rattle.tacho_card.specs.CardFile.{first_repeat}
use Rattle.tacho_card.proofs.SingleLemmas.{repeats, first_time, no_single}
use Rattle.tacho_card.proofs.blocks.Blocks.repeated.Goals as goal

pub returns-then-seen-place : goal.returns-then-seen-place
returns-then-seen-place c =
    let at = c.in-Some-single_place.place in
    let before = c.loop-block.yielded in
    let seen = ap (λ marked. slice_index_or marked at false) (sym c.loop-block.invariant.2) ∙ c.if-seen-place.true in
    let found = repeats c.in-Some.block at before c.next.new.self (sym c.in-Some-single_place.ensures) seen in
    sym found ∙ ap (λ rest. first_repeat before rest) (sym c.in-Some.ensures.steps) ∙ c.loop-block.invariant.3

pub loop-block-preserved-in-Some-single_place : goal.loop-block-preserved-in-Some-single_place
loop-block-preserved-in-Some-single_place c =
    let at = c.in-Some-single_place.place in
    let before = c.loop-block.yielded in
    let unseen = ap (λ marked. slice_index_or marked at false) (sym c.loop-block.invariant.2) ∙ c.if-seen-place.false in
    let step = first_time c.in-Some.block at before c.next.new.self (sym c.in-Some-single_place.ensures) unseen in (
      tt,
      tt,
      ap (λ marked. set marked at true) c.loop-block.invariant.2 ∙ step.0,
      sym step.1 ∙ ap (λ rest. first_repeat before rest) (sym c.in-Some.ensures.steps) ∙ c.loop-block.invariant.3,
    )

pub loop-block-preserved : goal.loop-block-preserved
loop-block-preserved c =
    let before = c.loop-block.yielded in
    let step = no_single c.in-Some.block before c.next.new.self (sym c.in_default.ensures) in (
      tt,
      tt,
      c.loop-block.invariant.2 ∙ step.0,
      sym step.1 ∙ ap (λ rest. first_repeat before rest) (sym c.in-Some.ensures.steps) ∙ c.loop-block.invariant.3,
    )
