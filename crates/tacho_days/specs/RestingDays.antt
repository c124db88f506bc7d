-- Private to tacho_days: Daily rests, judged one by one as they end (Regulation (EC) No 561/2006, Articles 4(g), 8(2) and 8(4)).
use Rattle.std.specs.Prelude.{ℕ, ◌+◌, ◌-◌, ◌++◌, ◌&&◌, ◌||◌, not, nat_le, nat_lt, min, Bool, false}
use Rattle.std.specs.Prelude.{if◌then◌else◌, Option, None, Some, List, []}
use Rattle.tacho_law.specs.declared.run.Run.{Run}
use Rattle.tacho_law.specs.declared.days.DutyDay.{DutyDay}
use Rattle.tacho_law.specs.declared.breach.Breach.{Breach}
use Rattle.tacho_law.specs.declared.breach.Kind.TheVariants.{B2, B3}
use Rattle.tacho_law.specs.Runs.{minutes_of}
use Rattle.tacho_law.specs.Limits.{minutes_of_day, regular_daily_rest, first_part_of_daily_rest, daily_rest}
use Rattle.tacho_law.specs.Limits.{weekly_rest, reduced_daily_rests}
use Rattle.tacho_pass.specs.Found.{as_list}
use Rattle.tacho_days.specs.declared.daily_rest.RestingDay.{RestingDay}
use Rattle.tacho_days.specs.DutyDays.{is_long, day_to}

-- the state before the first rest
abbrev pub resting_none : RestingDay
resting_none = record { from = 0; part = false; weekly = 0; number = 0 }

-- Article 8(2): true if the day's rest has n minutes within 24 hours of the day's start
abbrev pub portion_of : DutyDay → ℕ → Bool
portion_of day n = nat_le (day.past + n) (min day.rest.past (day.start + minutes_of_day))

-- Article 4(g): true if the day's rest is regular; `part` says whether there is a rest of three hours or more within the day
abbrev pub regular_of : Bool → DutyDay → Bool
regular_of part day = portion_of day regular_daily_rest || (portion_of day daily_rest && part)

-- Articles 4(g), 8(2) and 8(4): true if the day's rest is reduced, and isn't a weekly rest
abbrev pub reduced_of : Bool → DutyDay → Bool
reduced_of part day =
    not (regular_of part day) && (portion_of day daily_rest && nat_lt (minutes_of day.rest) weekly_rest)

-- Article 8(2): the breach of a daily rest with fewer than nine hours within the 24 hours
abbrev pub short_breach : DutyDay → Breach
short_breach day =
    record {
      kind = B2;
      moment = day.start + (minutes_of_day - daily_rest);
      since = day.start;
      amount = (daily_rest + day.past) - min day.rest.past (day.start + minutes_of_day);
    }

-- this breach, if the day's rest is that short
abbrev pub short_of : DutyDay → Option Breach
short_of day = if portion_of day daily_rest then None else Some (short_breach day)

-- Article 8(4): the breach of a fourth or later reduced daily rest since a weekly rest
abbrev pub often_breach : Run → RestingDay → Breach
often_breach rest d =
    record { kind = B3; moment = rest.start; since = d.weekly; amount = (d.number + 1) - reduced_daily_rests }

-- this breach, if the rest is such a one
abbrev pub often_of : Run → RestingDay → Option Breach
often_of rest d =
    if reduced_of d.part (day_to d.from rest) && nat_lt reduced_daily_rests (d.number + 1)
    then Some (often_breach rest d) else None

-- the breaches of a daily rest; none for a shorter rest
abbrev pub rest_found : Run → RestingDay → List Breach
rest_found rest d =
    if is_long rest then as_list (short_of (day_to d.from rest)) ++ as_list (often_of rest d) else []

-- the state after a daily rest that isn't a weekly rest
abbrev pub after_daily : Run → RestingDay → RestingDay
after_daily rest d =
    record {
      from = rest.past;
      part = false;
      weekly = d.weekly;
      number = if reduced_of d.part (day_to d.from rest) then d.number + 1 else d.number;
    }

-- the state after a weekly rest
abbrev pub after_weekly : Run → RestingDay
after_weekly rest = record { from = rest.past; part = false; weekly = rest.past; number = 0 }

-- the state after a rest within the day
abbrev pub after_part : Run → RestingDay → RestingDay
after_part rest d =
    record {
      from = d.from;
      part = d.part || nat_le first_part_of_daily_rest (minutes_of rest);
      weekly = d.weekly;
      number = d.number;
    }

-- the state after a rest
abbrev pub after_rest : Run → RestingDay → RestingDay
after_rest rest d =
    if nat_le weekly_rest (minutes_of rest) then after_weekly rest else
    (if is_long rest then after_daily rest d else after_part rest d)

-- the state after a rest, if there is one
abbrev pub after_optional_rest : Option Run → RestingDay → RestingDay
after_optional_rest None d = d
after_optional_rest (Some rest) d = after_rest rest d

-- the breaches found at a rest, if there is one
abbrev pub found_at_optional_rest : Option Run → RestingDay → List Breach
found_at_optional_rest None d = []
found_at_optional_rest (Some rest) d = rest_found rest d
