-- Private to tacho_check: The only row of `meta` as it is read.
use Rattle.std.specs.Prelude.{pos, [], ◌∷◌}
use Rattle.sqlite.specs.declared.types.Value.TheVariants.{Int}
use Rattle.sqlite.specs.Order.{Row}
use Rattle.tacho_tables.specs.Schema.{current_version}

-- what is shown of the only row of `meta`
abbrev pub current_shown : Row
current_shown = Int (pos 1) ∷ Int (pos current_version) ∷ []
