-- Trusted: The office's key that `listen` reads before it opens the archive.
use Rattle.std.specs.Prelude.{◌≡◌, ◌⊎◌, ℕ, Bool, true, List, Option, Ok, Err}
use Rattle.tacho_sheet.specs.Value.{IsKeyLine, IsKeyRead}
use Rattle.tacho_sheet.specs.declared.fault.SheetFault.{SheetFault}
use Rattle.tacho_sheet.specs.Fault.{sheet_fault}
use Rattle.tacho_desk.specs.Told.{Answer}
use Rattle.tacho_sheet.specs.declared.fault.Fault.{Fault}
use Rattle.tacho_sheet.specs.declared.fault.Fault.TheVariants as fault
use Rattle.tacho_cli.specs.Office.{HasNotRead, HasRead}

-- the reader's whole input was read, and is a line with this key
abbrev pub IsKeyOf : Option (List ℕ) → Bool → List ℕ → Type 0
IsKeyOf unread failed key = (input : List ℕ) × HasRead unread failed input × IsKeyLine input key

-- why there is no key: the input was not read (X1, X2, M1), it isn't a line with a key (E9), or memory ran out after it was read
abbrev pub IsNoKey : Option (List ℕ) → Bool → Fault → Type 0
IsNoKey unread failed f =
    HasNotRead unread failed f
    ⊎ (((input : List ℕ) × HasRead unread failed input × ((e : SheetFault) × IsKeyRead input (Err e) × (f ≡ sheet_fault e)))
    ⊎ ((f ≡ fault.Memory) × ¬ (failed ≡ true)))

-- an answer that is such a fault
abbrev pub IsWithoutKey : Option (List ℕ) → Bool → Answer → Type 0
IsWithoutKey unread failed (Ok told) = ⊥
IsWithoutKey unread failed (Err f) = IsNoKey unread failed f
