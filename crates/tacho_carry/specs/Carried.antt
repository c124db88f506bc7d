-- Trusted: The state that is carried into a new archive, from a day on.
use Rattle.std.specs.Prelude.{ℕ, ◌+◌, ◌-◌, ◌*◌, ◌%◌, ◌&&◌, ◌||◌, nat_lt, not, max, Bool, true, false, List, [], ◌∷◌, filter, map}
use Rattle.tacho_time.specs.declared.span.Span.{Span}
use Rattle.tacho_state.specs.State.{Download, Driver, Entry, State}

-- the Monday of a day's week: day 0 was a Thursday
abbrev pub monday_of : ℕ → ℕ
monday_of day = day - (day + 3) % 7

-- the spans give a minute at or after `start`
abbrev pub reaches : ℕ → List Span → Bool
reaches start [] = false
reaches start (s ∷ spans) = nat_lt (max start s.start) s.past || reaches start spans

-- the card files that give a minute at or after `start`
abbrev pub carried_files : ℕ → List Download → List Download
carried_files start ds = filter (λ (d : Download). reaches start d.spans) ds

-- the entries that aren't withdrawn and end after `start`
abbrev pub carried_entries : ℕ → List Entry → List Entry
carried_entries start es = filter (λ (e : Entry). not e.withdrawn && nat_lt start e.past) es

abbrev pub is_nil : {A : Type 0} → List A → Bool
is_nil [] = true
is_nil (x ∷ xs) = false

-- the driver has had card files or entries, and none of them is carried
abbrev pub is_left_out : ℕ → Driver → Bool
is_left_out day d =
    not (is_nil d.downloads && is_nil d.entries)
    && (is_nil (carried_files (1440 * day) d.downloads) && is_nil (carried_entries (1440 * day) d.entries))

-- a driver who is carried: they are examined from the same base on, or from the Monday of the day's week if that is later; the card files
-- and the entries are numbered from 1 on
abbrev pub carried_driver : ℕ → Driver → Driver
carried_driver day d = record d {
  base = max d.base (monday_of day);
  downloads = carried_files (1440 * day) d.downloads;
  entries = carried_entries (1440 * day) d.entries;
}

-- the drivers who are carried, in order
abbrev pub carried : ℕ → State → State
carried day s = map (carried_driver day) (filter (λ (d : Driver). not (is_left_out day d)) s)
