-- Empty tables represent the state without drivers.
use Rattle.std.proofs.Common.{[], refl}
use Rattle.std.proofs.lemmas.List.Elements.{All-nil}
use Rattle.sqlite.specs.Tree.{Trees}
use Rattle.tacho_tables.specs.Tables.{HasTables, no_rows}
use Rattle.tacho_reading.specs.Standing.{TablesRepresent, Represents}
use Rattle.tacho_state.specs.Numbers.{IsMark}

-- as lists
pub empty_is : TablesRepresent no_rows []
empty_is = record {
  drivers = refl;
  distinct = tt;
  each = tt;
  known = record { downloads = λ n h. refl; entries = λ n h. refl; card_spans = λ n h. refl; held = λ n h. refl };
  marked = record { card_spans = All-nil (λ r. IsMark r.mark); held = All-nil (λ r. IsMark r.mark) };
}

-- as they are stored
pub empty_stands : (db : Trees) → HasTables db no_rows → Represents db []
unfolding Represents
empty_stands db stand = (no_rows, stand, empty_is)
