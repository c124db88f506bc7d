-- Trusted: The files of a handover: their names, and the texts among them.
use Rattle.std.specs.Prelude.{ℕ, ◌-◌, ◌/◌, ◌==◌, nat_lt, not, max, min, Bool, List, ◌++◌, codes, decimal, drop, filter, flat_map, if◌then◌else◌, length, map, take}
use Rattle.std.specs.Char.{is_ascii_alphanumeric}
use Rattle.sha2.specs.Sha256.{sha256}
use Rattle.tacho_time.specs.Text.{day_text}
use Rattle.tacho_line.specs.declared.gap.Gap.{Gap}
use Rattle.tacho_state.specs.declared.entry.Entry.{Entry}
use Rattle.tacho_state.specs.Files.{ListedFile}
use Rattle.tacho_state.specs.Summaries.{Summary}
use Rattle.tacho_sheet.specs.Lines.{byte_digits}
use Rattle.tacho_sheet.specs.Reports.{gap_line}
use Rattle.tacho_sheet.specs.Text.{entry_line, summary_line}
use Rattle.tacho_tar.specs.Tar.{Member}
use Rattle.tacho_handover.specs.Covering.{Handed}

-- ---- card files

-- a letter or a digit as it is, and anything else as `_`
abbrev pub safe_sign : ℕ → ℕ
safe_sign c = if is_ascii_alphanumeric c then c else 95

-- the 14 signs after the first byte of a holder
abbrev pub card_signs : List ℕ → List ℕ
card_signs holder = map safe_sign (take 14 (drop 1 holder))

-- `YYYYMMDD`
abbrev pub short_day : ℕ → List ℕ
short_day day = filter (λ c. not (c == 45)) (day_text day)

-- `NUMBER-CARD-FIRST-LAST.ddd`, with the days of the file's first and last minute
abbrev pub card_name : List ℕ → ListedFile → List ℕ
card_name holder f =
    decimal f.number ++ (codes "-" ++ (card_signs holder ++ (codes "-" ++ (short_day (f.first / 1440)
    ++ (codes "-" ++ (short_day ((f.past - 1) / 1440) ++ codes ".ddd"))))))

-- a card file of a holder
abbrev pub card_member : List ℕ → Handed → Member
card_member holder h = record { name = card_name holder h.listed; content = h.file }

-- ---- entries

-- the entry has a minute of the period
abbrev pub has_minute_of : ℕ → ℕ → Entry → Bool
has_minute_of start past e = nat_lt (max e.line.start start) (min e.line.past past)

-- the lines of the entries that have a minute of the period, also of those withdrawn
abbrev pub entries_member : ℕ → ℕ → List Entry → Member
entries_member start past entries =
    record { name = codes "entries.txt"; content = flat_map entry_line (filter (has_minute_of start past) entries) }

-- ---- contents

-- the name of a file, its length in bytes, and its SHA-256 digest in hexadecimal digits
abbrev pub file_line : Member → List ℕ
file_line m =
    codes "FILE " ++ (m.name ++ (codes " " ++ (decimal (length m.content) ++ (codes " " ++ (flat_map byte_digits (sha256 m.content) ++ codes "\n")))))

-- a range of minutes that the driver doesn't hold
abbrev pub missing_line : Gap → List ℕ
missing_line g = codes "NOT HELD " ++ gap_line g

-- the driver, the days of the period, the program's line, the files, and what isn't held
abbrev pub contents_text : List ℕ → Summary → ℕ → ℕ → List Member → List Gap → List ℕ
contents_text program driver from past members gaps =
    codes "DRIVER " ++ (summary_line driver ++ (codes "FROM " ++ (day_text from ++ (codes " PAST " ++ (day_text past
    ++ (codes "\nPROGRAM " ++ (program ++ (flat_map file_line members ++ flat_map missing_line gaps))))))))

abbrev pub contents_member : List ℕ → Summary → ℕ → ℕ → List Member → List Gap → Member
contents_member program driver from past members gaps =
    record { name = codes "contents.txt"; content = contents_text program driver from past members gaps }
