-- Trusted: The lines of commands that were done.
use Rattle.std.specs.Prelude.{ℕ, ◌+◌, ◌-◌, ◌==◌, List, ◌++◌, codes, decimal, if◌then◌else◌}
use Rattle.tacho_time.specs.Text.{day_text}
use Rattle.tacho_state.specs.declared.imported.Imported.{Imported}
use Rattle.tacho_state.specs.declared.imported.Imported.TheVariants.{Added, Repeated}

-- a text, and a number
abbrev pub number_line : List ℕ → ℕ → List ℕ
number_line words n = words ++ (decimal n ++ codes "\n")

-- the driver whose card it is, and the number of the download if it was added
abbrev pub imported_text : Imported → List ℕ
imported_text (Added driver number) = codes "added driver " ++ (decimal driver ++ number_line (codes " number ") number)
imported_text (Repeated driver) = number_line (codes "repeated driver ") driver

-- the numbers of the first and the last of the new entries, or none
abbrev pub entered_text : ℕ → ℕ → List ℕ
entered_text first count =
    if count == 0 then codes "entered none\n"
    else codes "entered " ++ (decimal first ++ number_line (codes " to ") (first + count - 1))

-- the numbers of the first and the last entry of a range that was withdrawn
abbrev pub withdrawn_text : ℕ → ℕ → List ℕ
withdrawn_text first last = codes "withdrawn " ++ (decimal first ++ number_line (codes " to ") last)

-- the driver's base
abbrev pub base_line : ℕ → List ℕ
base_line day = codes "base " ++ (day_text day ++ codes "\n")
