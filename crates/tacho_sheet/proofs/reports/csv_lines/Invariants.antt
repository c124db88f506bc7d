use Rattle.std.proofs.Common.{◌≡◌, ◌++◌, codes, take, string_bytes}
use Rattle.std.specs.List.{flat_map}
use Rattle.tacho_sheet.specs.Reports.{csv_line}
use Rattle.tacho_sheet.proofs.reports.csv_lines.Given as goal

-- the rows so far are the head and those of the spans so far
abbrev pub invariant-loop-span : goal.invariant-loop-span
invariant-loop-span l = string_bytes l.text ≡ codes "start,past,activity,manning\n" ++ flat_map csv_line (take l.span-index l.spans)
