use Rattle.std.proofs.Common.{◌≡◌, ◌+◌, true, false, drop, sym, ap, ◌∙◌, arith}
use Rattle.std.proofs.lemmas.List.{take_rest, length-drop}
use Rattle.tacho_card.specs.CardFile.{front_length, is_cut, blocks_of}
use Rattle.tacho_card.proofs.BlockLemmas.{fits}
use Rattle.tacho_card.proofs.FileLemmas.{fault_from, fault_at_cut, fault_past_block, no_fault_at_end, is_fault, no_fault}
use Rattle.tacho_card.proofs.blocks.Blocks.read.Goals as goal

pub returns-then-is_cut : goal.returns-then-is_cut
returns-then-is_cut c =
    let bytes = c.args.bytes.now in
    let offset = c.loop-offset.offset in
    let cut : is_cut (drop offset bytes) ≡ true = ap is_cut (sym (take_rest bytes offset)) ∙ sym c.is_cut.ensures ∙ c.if-is_cut.true in
    is_fault (blocks_of bytes) _ (sym c.loop-offset.invariant.1 ∙ fault_at_cut bytes offset (omega arith) cut)

pub loop-offset-preserved : goal.loop-offset-preserved
loop-offset-preserved c =
    let bytes = c.args.bytes.now in
    let offset = c.loop-offset.offset in
    let whole : is_cut (drop offset bytes) ≡ false = ap is_cut (sym (take_rest bytes offset)) ∙ sym c.is_cut.ensures ∙ c.if-is_cut.false in
    let n = c.front_length-offset.ensures ∙ ap front_length (take_rest bytes offset) in
    let enough = fits (drop offset bytes) whole in (
      omega (arith, n, enough.1, length-drop offset bytes),
      ap (λ k. fault_from bytes (offset + k)) n ∙ sym (fault_past_block bytes offset (omega arith) whole) ∙ c.loop-offset.invariant.1,
    )

pub invariant_of-result : goal.invariant_of-result
invariant_of-result c =
    let bytes = c.args.bytes.now in
    no_fault (blocks_of bytes) (sym c.loop-offset.invariant.1 ∙ no_fault_at_end bytes c.loop-offset.offset (omega arith))

pub returns : goal.returns
returns c = sym (invariant_of-result c)
