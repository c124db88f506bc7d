use Rattle.std.proofs.Common.{inl, inr}
use Rattle.tacho_periods.proofs.portions.is_regular.Goals as goal

pub returns-then-has_portion-2 : goal.returns-then-has_portion-2
returns-then-has_portion-2 c = (
  λ t. inr (c.has_portion-else-has_portion.ensures.0 c.if-has_portion-2.true, c.has_run_between.ensures.0 t),
  λ h. elim h [
    | inl long ↦ absurd (let t = c.has_portion.ensures.1 long in let f = c.if-has_portion.false in cc)
    | inr two ↦ c.has_run_between.ensures.1 two.1
  ],
)
