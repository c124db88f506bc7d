-- Trusted: The version of the program.
use Rattle.std.specs.Prelude.{ℕ, List, ◌++◌, codes}

-- the program's version
abbrev pub program_line : List ℕ
program_line = codes "tacho 1.1.0\n"

-- the program's version, the schema of the archives that it makes, and the logic in which it is proved, a line each
abbrev pub version_text : List ℕ
version_text = program_line ++ (codes "schema 2\n" ++ codes "logic dac8208d650f15bf\n")
