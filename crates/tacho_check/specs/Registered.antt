-- Private to tacho_check: A driver's row in `drivers`, as it is read.
use Rattle.std.specs.Prelude.{◌≡◌, pos}
use Rattle.sqlite.specs.declared.types.Value.TheVariants.{Int, Text, Blob}
use Rattle.sqlite.specs.Order.{Row, column}
use Rattle.tacho_state.specs.Registration.{Registration}
use Rattle.tacho_state.specs.Within.{AreColumns}
use Rattle.tacho_tables.specs.Rows.{DriverRow}
use Rattle.tacho_check.specs.declared.registered.Basis.{Basis}

-- the registration of a row
abbrev pub registration_in : DriverRow → Registration
registration_in r = record { number = r.driver; holder = r.holder; key = r.secret; base = r.base; name = r.name }

-- its columns are within their limits
abbrev pub HasOwnColumns : DriverRow → Type 0
HasOwnColumns r = AreColumns (registration_in r) r.downloads r.entries

-- the row shows a driver within their limits
pub record ShowsDriver (row : Row) (r : DriverRow) : Type 0 where
  pub number : column row 0 ≡ Int (pos r.driver)
  pub holder : column row 1 ≡ Blob r.holder
  pub secret : column row 2 ≡ Text r.secret
  pub base : column row 3 ≡ Int (pos r.base)
  pub name : column row 4 ≡ Text r.name
  pub downloads : column row 5 ≡ Int (pos r.downloads)
  pub entries : column row 6 ≡ Int (pos r.entries)
  pub within : HasOwnColumns r

-- what the driver's other rows are judged by is this
pub record IsBasis (b : Basis) (r : DriverRow) : Type 0 where
  pub holder : b.holder ≡ r.holder
  pub downloads : b.downloads ≡ r.downloads
  pub entries : b.entries ≡ r.entries
