use Rattle.std.proofs.Common.{suc}
use Rattle.tacho_tables.proofs.ShapeLemmas.{both, first_fails, neither}
use Rattle.tacho_tables.proofs.shape.is_choice.Goals as goal

pub returns-in-None : goal.returns-in-None
returns-in-None c depth = neither (c.in-None.ensures (suc (suc depth)) _ _)

pub returns-then-is_comparison : goal.returns-then-is_comparison
returns-then-is_comparison c depth =
    both _ _ _ _ _ _ c.is_comparison-then-is_comparison.result (c.in-Some.ensures (suc (suc depth))) ((c.is_comparison.ensures depth).0 c.if-is_comparison.true) (c.is_comparison-then-is_comparison.ensures depth)

pub returns-else-is_comparison : goal.returns-else-is_comparison
returns-else-is_comparison c depth =
    first_fails _ _ _ _ _ _ c.is_comparison.result (c.in-Some.ensures (suc (suc depth))) c.if-is_comparison.false (c.is_comparison.ensures depth)
