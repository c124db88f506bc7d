-- Trusted: The texts of an archive.
use Rattle.std.specs.Prelude.{ℕ, ◌==◌, Bool, List, ◌++◌, codes, decimal, flat_map, if◌then◌else◌}
use Rattle.tacho_time.specs.Text.{activity_name, day_text, minute_text}
use Rattle.tacho_state.specs.declared.entry.Entry.{Entry}
use Rattle.tacho_state.specs.Files.{ListedFile}
use Rattle.tacho_state.specs.Summaries.{Summary}
use Rattle.tacho_sheet.specs.Lines.{byte_digits}

abbrev pub kept_word : Bool → List ℕ
kept_word withdrawn = if withdrawn then codes "withdrawn" else codes "kept"

-- number, start, past, activity, whether the entry was withdrawn, author and note (the last two in double quotes), separated by blanks, and
-- a line feed
abbrev pub entry_line : Entry → List ℕ
entry_line e =
    decimal e.number ++ (codes " " ++ (minute_text e.line.start ++ (codes " " ++ (minute_text e.line.past
    ++ (codes " " ++ (activity_name e.line.activity ++ (codes " " ++ (kept_word e.withdrawn
    ++ (codes " \"" ++ (e.line.author ++ (codes "\" \"" ++ (e.line.note ++ codes "\"\n"))))))))))))

-- number, holder in hexadecimal digits, base, counts of downloads and entries, and name, separated by blanks, and a line feed
abbrev pub summary_line : Summary → List ℕ
summary_line d =
    decimal d.number ++ (codes " " ++ (flat_map byte_digits d.holder ++ (codes " " ++ (day_text d.base ++ (codes " "
    ++ (decimal d.downloads ++ (codes " " ++ (decimal d.entries ++ (codes " " ++ (d.name ++ codes "\n"))))))))))

-- the part with this number
abbrev pub part_word : ℕ → List ℕ
part_word n = if n == 0 then codes "both" else (if n == 1 then codes "first" else codes "second")

-- number, part, length in bytes, first minute and past, each with a blank after it
abbrev pub file_head : ListedFile → List ℕ
file_head f =
    decimal f.number ++ (codes " " ++ (part_word f.part ++ (codes " " ++ (decimal f.length ++ (codes " " ++ (minute_text f.first
    ++ (codes " " ++ (minute_text f.past ++ codes " "))))))))

-- then the digest in hexadecimal digits, and a line feed
abbrev pub file_line : ListedFile → List ℕ
file_line f = file_head f ++ (flat_map byte_digits f.digest ++ codes "\n")
