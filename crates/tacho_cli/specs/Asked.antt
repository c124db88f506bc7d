-- Trusted: What arguments ask for without the parser: help, the version by another name, and the import of several card files.
use Rattle.std.specs.Prelude.{ℕ, ◌||◌, ◌&&◌, ◌==◌, List, [], ◌∷◌, Bool, false, Option, None, Some, bytes_eq, codes, if◌then◌else◌, is_some, map, string_bytes}
use Rattle.std.specs.List.{list_any}
use Rattle.tacho_desk.specs.Commands.{all_commands}
use Rattle.tacho_cli.specs.Words.{act_named}
use Rattle.tacho_cli.specs.declared.asked.Asked.{Asked}
use Rattle.tacho_cli.specs.declared.asked.Asked.TheVariants as asked

-- the commands in general, a command by its name, the version, or the import of files: the archive, the part and the files
pub data Early : Type 0 where
  Help : Early
  HelpOf : List ℕ → Early
  Version : Early
  Files : List ℕ → List ℕ → List (List ℕ) → Early

abbrev pub is_help : List ℕ → Bool
is_help word = bytes_eq word (codes "--help") || bytes_eq word (codes "-h")

abbrev pub is_version : List ℕ → Bool
is_version word = bytes_eq word (codes "--version") || bytes_eq word (codes "-V")

abbrev pub names_command : List ℕ → Bool
names_command word = is_some (act_named word all_commands)

-- the argument begins with a hyphen
abbrev pub is_flag : List ℕ → Bool
is_flag [] = false
is_flag (byte ∷ word) = byte == 45

-- one argument: `help`, `--help` or `-h`; `--version` or `-V`
abbrev pub early_alone : List ℕ → Option Early
early_alone word =
    if bytes_eq word (codes "help") || is_help word then Some Help else if is_version word then Some Version else None

-- `help` with the name of a command
abbrev pub help_on : List ℕ → List (List ℕ) → Option Early
help_on name [] = if names_command name then Some (HelpOf name) else None
help_on name (word ∷ words) = None

-- an archive, a part and at least one file, none of which begins with a hyphen
abbrev pub files_in : List ℕ → List (List ℕ) → Option Early
files_in archive [] = None
files_in archive (part ∷ []) = None
files_in archive (part ∷ file ∷ files) =
    if list_any is_flag (archive ∷ part ∷ file ∷ files) then None else Some (Files archive part (file ∷ files))

-- a command with `--help` or `-h` right after it, or `import` with files
abbrev pub early_with : List ℕ → List ℕ → List (List ℕ) → Option Early
early_with word next words =
    if bytes_eq word (codes "help") then help_on next words
    else if names_command word && is_help next then Some (HelpOf word)
    else if bytes_eq word (codes "import") then files_in next words else None

-- of a command line, the first of whose words is the program's name
abbrev pub early_of : List (List ℕ) → Option Early
early_of [] = None
early_of (program ∷ []) = None
early_of (program ∷ word ∷ []) = early_alone word
early_of (program ∷ word ∷ next ∷ words) = early_with word next words

-- the same of a value of the code
abbrev pub early_asked : Asked → Early
early_asked asked.Help = Help
early_asked (asked.HelpOf name) = HelpOf name.now
early_asked asked.Version = Version
early_asked (asked.Files archive part files) = Files archive.now part.now (map string_bytes files.now)
