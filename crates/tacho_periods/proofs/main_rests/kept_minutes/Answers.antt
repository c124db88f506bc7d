use Rattle.std.proofs.Common.{◌≡◌, inl, inr, refl, true}
use Rattle.tacho_periods.proofs.main_rests.kept_minutes.Goals as goal

pub returns-then-is_main-clause-kept : goal.returns-then-is_main-clause-kept
returns-then-is_main-clause-kept c = λ line are is. inl (refl, (c.is_main.ensures.main line are is).0 c.if-is_main.true)

pub returns-else-is_main-clause-kept : goal.returns-else-is_main-clause-kept
returns-else-is_main-clause-kept c = λ line are is. inr (
  refl,
  λ w main. (
      let t : c.is_main.result ≡ true = (c.is_main.ensures.main line are is).1 (w, main) in
      let f = c.if-is_main.false in
      cc),
)
