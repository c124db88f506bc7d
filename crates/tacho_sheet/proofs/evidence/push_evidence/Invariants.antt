use Rattle.std.proofs.Common.{◌≡◌, ◌++◌, map, take, string_bytes}
use Rattle.std.specs.List.{flat_map}
use Rattle.tacho_evidence.specs.OfReport.{shown_of}
use Rattle.tacho_sheet.specs.Evidence.{shown_text}
use Rattle.tacho_sheet.proofs.evidence.push_evidence.Given as goal

-- the text so far has the breaches so far, each with its evidence
abbrev pub invariant-loop-evidence : goal.invariant-loop-evidence
invariant-loop-evidence l = string_bytes l.text ≡ string_bytes l.fn.text ++ flat_map shown_text (map shown_of (take l.evidence-index l.found))
