-- No foreign key of the archive acts on other tables.
use Rattle.std.proofs.Common.{◌≡◌, ℕ, ◌==◌, length, List, [], Bool, true, false, cond, None, refl}
use Rattle.sqlite.specs.Order.{Row}
use Rattle.sqlite_schema.specs.declared.schema.Keys.TheVariants.{Enforced}
use Rattle.sqlite_schema.specs.declared.schema.Action.TheVariants.{NoAction}
use Rattle.sqlite_rules.specs.Action.{works, deed_of}
use Rattle.tacho_tables.specs.Schema.{Layout, archive_schema}
use Rattle.tacho_tables.proofs.Layouts.{each}

-- a foreign key with NO ACTION has no effect
none : (b : Bool) → deed_of Enforced b (cond b NoAction NoAction) ≡ None
none true = refl
none false = refl

-- no edit of a table makes a foreign key act
pub idle : (layout : Layout) (tree : ℕ) (olds news : List Row) → works (archive_schema layout) Enforced 0 tree olds news ≡ []
idle layout tree olds news =
    each (λ l. works (archive_schema l) Enforced 0 tree olds news) (λ l. []) (rw (none (length news == 0)) refl) layout
