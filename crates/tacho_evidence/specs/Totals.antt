-- Private to tacho_evidence: Totals that go on from the driving before a date. No Article prescribes this.
use Rattle.std.specs.Prelude.{ℕ, ◌+◌, List, map}
use Rattle.tacho_law.specs.Driving.{driving}
use Rattle.tacho_law.specs.Line.{Line}
use Rattle.tacho_evidence.specs.declared.driven.DrivenSpan.{DrivenSpan}
use Rattle.tacho_evidence.specs.declared.line.EvidenceLine.{EvidenceLine}
use Rattle.tacho_evidence.specs.declared.line.EvidenceLine.TheVariants.{Drive}
use Rattle.tacho_evidence.specs.Evidence.{date_lines}

-- a span whose total is k more
abbrev pub raised : ℕ → DrivenSpan → DrivenSpan
raised k span = record { run = span.run; total = k + span.total }

-- the lines of a date's driving spans; the totals go on from the driving between `origin` and the date
abbrev pub drives : Line → ℕ → ℕ → List DrivenSpan → List EvidenceLine
drives line origin date spans = map Drive (map (raised (driving line origin date)) spans)

-- the lines of n dates, with those of one date's driving spans
unfoldable pub dates : Line → ℕ → ℕ → List DrivenSpan → ℕ → ℕ → List EvidenceLine
dates line origin date spans start n = date_lines line origin date (drives line origin date spans) start n
