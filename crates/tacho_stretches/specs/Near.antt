-- Trusted: The stretches that lines have in common if they agree up to a horizon.
use Rattle.std.specs.Prelude.{◌≡◌, List, ◌∷◌, ◌++◌}
use Rattle.tacho_stretches.specs.Stretches.{Judged}

-- both stretches have the same Monday and the same report; the range after them that isn't examined may differ
pub record IsSame (t s : Judged) : Type 0 where
  pub monday : t.monday ≡ s.monday
  pub horizon : t.horizon ≡ s.horizon
  pub breaches : t.breaches ≡ s.breaches
  pub debts : t.debts ≡ s.debts

-- `others` has the same stretches `front`, and then one with the same Monday and report as `s`
pub record GoesOnLike (front : List Judged) (s : Judged) (others : List Judged) : Type 0 where
  pub same : Judged
  pub more : List Judged
  pub list : others ≡ front ++ same ∷ more
  pub is_same : IsSame same s
