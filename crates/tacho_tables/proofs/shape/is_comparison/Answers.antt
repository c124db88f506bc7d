use Rattle.std.proofs.Common.{suc}
use Rattle.tacho_tables.proofs.ShapeLemmas.{both, first_fails, neither}
use Rattle.tacho_tables.proofs.shape.is_comparison.Goals as goal

pub returns-in-None : goal.returns-in-None
returns-in-None c depth = neither (c.in-None.ensures (suc depth) _ _)

pub returns-then-is_withdrawn : goal.returns-then-is_withdrawn
returns-then-is_withdrawn c depth =
    both _ _ _ _ _ _ c.is_number.result (c.in-Some.ensures (suc depth)) ((c.is_withdrawn.ensures depth).0 c.if-is_withdrawn.true) (c.is_number.ensures depth)

pub returns-else-is_withdrawn : goal.returns-else-is_withdrawn
returns-else-is_withdrawn c depth =
    first_fails _ _ _ _ _ _ c.is_withdrawn.result (c.in-Some.ensures (suc depth)) c.if-is_withdrawn.false (c.is_withdrawn.ensures depth)
