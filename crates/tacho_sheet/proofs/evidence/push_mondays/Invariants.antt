use Rattle.std.proofs.Common.{◌≡◌, ◌++◌, string_bytes}
use Rattle.tacho_sheet.specs.Evidence.{mondays_text}
use Rattle.tacho_sheet.proofs.evidence.push_mondays.Given as goal

abbrev pub invariant-loop-place : goal.invariant-loop-place
invariant-loop-place l = string_bytes l.text ≡ string_bytes l.fn.text ++ mondays_text l.first l.place
