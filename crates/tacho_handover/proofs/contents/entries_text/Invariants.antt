use Rattle.std.proofs.Common.{◌≡◌, take, string_bytes}
use Rattle.std.specs.List.{filter, flat_map}
use Rattle.tacho_sheet.specs.Text.{entry_line}
use Rattle.tacho_handover.specs.Contents.{has_minute_of}
use Rattle.tacho_handover.proofs.contents.entries_text.Given as goal

-- the lines so far are those of the entries so far that have a minute of the period
abbrev pub invariant-loop-entry : goal.invariant-loop-entry
invariant-loop-entry l = string_bytes l.text ≡ flat_map entry_line (filter (has_minute_of l.fn.start l.fn.past) (take l.entry-index l.entries))
