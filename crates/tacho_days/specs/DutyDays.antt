-- Private to tacho_days: Duty days and the rests that end them, one by one (Regulation (EC) No 561/2006, Articles 4(g) and 4(k)).
use Rattle.std.specs.Prelude.{◌≡◌, ℕ, ◌≤◌, ◌⊎◌, nat_le, Bool, List, Contains, []}
use Rattle.tacho_law.specs.declared.run.Run.{Run}
use Rattle.tacho_law.specs.declared.days.DutyDay.{DutyDay}
use Rattle.tacho_law.specs.Runs.{minutes_of, Before}
use Rattle.tacho_law.specs.Limits.{daily_rest}

-- Article 4(g): true for a rest run of nine hours or more, which ends a duty day
abbrev pub is_long : Run → Bool
is_long run = nat_le daily_rest (minutes_of run)

-- Article 4(k): the duty day from a minute to a daily rest
abbrev pub day_to : ℕ → Run → DutyDay
day_to from rest = record { start = from; past = rest.start; rest = rest }

-- the last of the rests with `least` minutes or more ends at this minute
pub record IsLastOf (least : ℕ) (runs : List Run) (ended : ℕ) : Type 0 where
  pub run : Run
  pub among : Contains runs run
  pub enough : least ≤ minutes_of run
  pub ends : run.past ≡ ended
  pub last : (x : Run) → Contains runs x → least ≤ minutes_of x → (x ≡ run) ⊎ Before x run

-- the first rest, which has no start and `least` minutes or more, hasn't ended yet
pub record IsBeforeFirst (least : ℕ) (runs : List Run) (start place : ℕ) : Type 0 where
  pub none : runs ≡ []
  pub first : start ≡ 0
  pub long : least ≤ place
