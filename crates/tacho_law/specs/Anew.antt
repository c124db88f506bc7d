-- Trusted: The weeks at which a rule fails, if it is examined from a first week on, and again from each week at which it failed. No Article
-- prescribes this.
use Rattle.std.specs.Prelude.{ℕ, ◌+◌, ◌<◌, ◌≤◌}
use Rattle.tacho_law.specs.Weeks.{week_start}

-- the week has ended at or before the horizon
abbrev pub EndedBy : ℕ → ℕ → Type 0
EndedBy horizon w = week_start (w + 1) ≤ horizon

-- u is the first week after `first` such that the rule can't be kept from `first` up to u; and u has ended
pub record FailsFrom (Serve : ℕ → ℕ → Type 0) (Ended : ℕ → Type 0) (first u : ℕ) : Type 0 where
  pub later : first < u
  pub ended : Ended u
  pub none : ¬ (Serve first u)
  pub before : (v : ℕ) → first ≤ v → v < u → Serve first v

-- the rule fails at the first such week, then at the first such week counted from there, and so on
pub data Fails (Serve : ℕ → ℕ → Type 0) (Ended : ℕ → Type 0) (first : ℕ) : ℕ → Type 0 where
  at_first : {u : ℕ} → FailsFrom Serve Ended first u → Fails Serve Ended first u
  anew : {a u : ℕ} → Fails Serve Ended first a → FailsFrom Serve Ended a u → Fails Serve Ended first u
