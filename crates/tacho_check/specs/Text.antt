-- Trusted: The line that `check` prints.
use Rattle.std.specs.Prelude.{ℕ, List, ◌++◌, codes, Option, None, Some}
use Rattle.std.specs.Fmt.{signed_decimal}
use Rattle.tacho_tables.specs.Readable.{table_name}
use Rattle.tacho_check.specs.declared.table.Unsound.{Unsound}

-- `sound`, or `unsound` with the driver's number and the table's name
abbrev pub check_line : Option Unsound → List ℕ
check_line None = codes "sound\n"
check_line (Some u) = codes "unsound " ++ (signed_decimal u.driver ++ (codes " " ++ (table_name u.table ++ codes "\n")))
