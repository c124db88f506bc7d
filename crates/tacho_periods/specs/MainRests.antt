-- Private to tacho_periods: Which rest is the main rest of its week (Regulation (EC) No 561/2006, Articles 4(h) and 8(6b), as amended by
-- (EU) 2020/1054).
use Rattle.std.specs.Prelude.{◌≡◌, ℕ, ◌<◌, ◌⊎◌}
use Rattle.tacho_law.specs.declared.run.Run.{Run}
use Rattle.tacho_law.specs.Debts.{minutes_before}

-- the rest has more minutes before the horizon, or as many and an earlier start
abbrev pub IsBetter : ℕ → Run → Run → Type 0
IsBetter horizon rest other = (minutes_before horizon other < minutes_before horizon rest)
    ⊎ ((minutes_before horizon other ≡ minutes_before horizon rest) × (rest.start < other.start))
