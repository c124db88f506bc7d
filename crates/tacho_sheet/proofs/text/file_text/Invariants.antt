use Rattle.std.proofs.Common.{◌≡◌, take, string_bytes}
use Rattle.std.specs.List.{flat_map}
use Rattle.tacho_state.specs.Files.{told_file}
use Rattle.tacho_sheet.specs.Text.{file_line}
use Rattle.tacho_sheet.proofs.text.file_text.Given as goal

-- the lines so far are those of the files so far
abbrev pub invariant-loop-file : goal.invariant-loop-file
invariant-loop-file l = string_bytes l.text ≡ flat_map (λ f. file_line (told_file f)) (take l.file-index l.files)
