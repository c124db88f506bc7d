-- Private to tacho_law: What a rest keeps of its minutes (Regulation (EC) No 561/2006, Articles 4(h), 8(6b) and 8(7); 8(6b) as amended by
-- (EU) 2020/1054).
use Rattle.std.specs.Prelude.{◌≡◌, ℕ, ◌⊎◌}
use Rattle.tacho_law.specs.declared.run.Run.{Run}
use Rattle.tacho_law.specs.Line.{Line}
use Rattle.tacho_law.specs.Limits.{daily_rest, regular_weekly_rest}
use Rattle.tacho_law.specs.Debts.{IsMainRest}

-- what a rest keeps: 45 hours as the main rest of a week (Article 8(6b)), otherwise nine (Article 8(7))
abbrev pub IsKept : Line → ℕ → Run → ℕ → Type 0
IsKept line horizon rest kept = ((kept ≡ regular_weekly_rest) × ((w : ℕ) × IsMainRest line horizon w rest))
    ⊎ ((kept ≡ daily_rest) × ((w : ℕ) → IsMainRest line horizon w rest → ⊥))
