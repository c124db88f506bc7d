-- Trusted: The ranges that stretches examine, and the ranges that aren't examined.
use Rattle.std.specs.Prelude.{◌≡◌, ℕ, ◌≤◌, ◌&&◌, nat_le, nat_lt, count_by, List, [], ◌∷◌, ◌++◌, Bool, true, false, Option, None, Some}
use Rattle.tacho_stretches.specs.Stretches.{Judged}

-- the minutes from a start to before a past, and whether they are examined
pub record Part : Type 0 where
  pub start : ℕ
  pub past : ℕ
  pub seen : Bool

-- the range that isn't examined after a horizon, if there is one
abbrev pub unseen_part : ℕ → Option ℕ → List Part
unseen_part horizon None = []
unseen_part horizon (Some past) = record { start = horizon; past = past; seen = false } ∷ []

-- the ranges that stretches examine and those that aren't examined, in order
abbrev pub parts : List Judged → List Part
parts [] = []
parts (s ∷ stretches) = record { start = s.monday; past = s.horizon.minute; seen = true }
    ∷ (unseen_part s.horizon.minute s.unseen ++ parts stretches)

-- the parts cover a range in order: each part starts where the one before it ends
abbrev pub FollowOn : List Part → ℕ → ℕ → Type 0
FollowOn [] start past = start ≡ past
FollowOn (p ∷ rest) start past = (p.start ≡ start) × (p.start ≤ p.past) × FollowOn rest p.past past

-- how many of the parts contain a minute
abbrev pub times_in : List Part → ℕ → ℕ
times_in parts m = count_by (λ p. nat_le p.start m && nat_lt m p.past) parts
