-- What is computed of each layout at once. A layout more is one more row here, in the list of all layouts, and in the schemas.
use Rattle.std.proofs.Common.{◌≡◌, map}
use Rattle.tacho_tables.specs.Schema.{Layout, Made, Carried, layouts}

-- what is the same for all layouts is the same for each
pub each : {A : Type 0} (f g : Layout → A) → map f layouts ≡ map g layouts → (layout : Layout) → f layout ≡ g layout
each f g same Made = cc
each f g same Carried = cc
