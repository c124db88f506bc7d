-- Trusted: A driver's key, or a driver's name, as the only line of a text.
use Rattle.std.specs.Prelude.{◌≡◌, ◌⊎◌, ℕ, List, ◌++◌, Result, Ok, Err, codes}
use Rattle.tacho_state.specs.declared.driver.Column.{Column}
use Rattle.tacho_state.specs.declared.driver.Column.TheVariants as column
use Rattle.tacho_sheet.specs.Driver.{IsKeyText, IsNameText}
use Rattle.tacho_sheet.specs.declared.fault.SheetFault.{SheetFault}
use Rattle.tacho_sheet.specs.declared.fault.SheetFault.TheVariants as fault

-- the text is this line, and then its end: nothing, LF, or CR LF
abbrev pub IsLine : List ℕ → List ℕ → Type 0
IsLine text line = (text ≡ line) ⊎ ((text ≡ line ++ codes "\n") ⊎ (text ≡ line ++ codes "\r\n"))

-- the value of a text that is a line with a value, or E9 with the column if it has none
abbrev pub IsValueRead : (List ℕ → List ℕ → Type 0) → Column → List ℕ → Result (List ℕ) SheetFault → Type 0
IsValueRead Is c text (Ok value) = Is text value
IsValueRead Is c text (Err f) = (f ≡ fault.Column c) × ((value : List ℕ) → ¬ (Is text value))

-- the text is a line with this key
abbrev pub IsKeyLine : List ℕ → List ℕ → Type 0
IsKeyLine text key = IsKeyText key × IsLine text key

-- the text is a line with this name
abbrev pub IsNameLine : List ℕ → List ℕ → Type 0
IsNameLine text name = IsNameText name × IsLine text name

-- the key of the text, or E9
abbrev pub IsKeyRead : List ℕ → Result (List ℕ) SheetFault → Type 0
IsKeyRead = IsValueRead IsKeyLine column.Key

-- the name of the text, or E9
abbrev pub IsNameRead : List ℕ → Result (List ℕ) SheetFault → Type 0
IsNameRead = IsValueRead IsNameLine column.Name
