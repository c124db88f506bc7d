use Rattle.std.proofs.Common.{◌≡◌, take, string_bytes}
use Rattle.std.specs.List.{flat_map}
use Rattle.tacho_state.specs.Summaries.{told_summary}
use Rattle.tacho_sheet.specs.Text.{summary_line}
use Rattle.tacho_sheet.proofs.text.driver_text.Given as goal

-- the lines so far are those of the drivers so far
abbrev pub invariant-loop-driver : goal.invariant-loop-driver
invariant-loop-driver l = string_bytes l.text ≡ flat_map (λ d. summary_line (told_summary d)) (take l.driver-index l.drivers)
