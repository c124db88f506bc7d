use Rattle.std.proofs.Common.{◌≡◌, ◌-◌, ◌*◌, ◌++◌, ℕ, List, string_bytes}
use Rattle.tacho_time.specs.Spans.{Gives, IsCanonicalOf}
use Rattle.tacho_stretches.specs.Stretches.{Judged}
use Rattle.tacho_sheet.specs.Months.{month_breaches}
use Rattle.tacho_sheet.specs.Chart.{AreDayGroups}
use Rattle.tacho_sheet.specs.Seen.{seen_spans}
use Rattle.tacho_sheet.proofs.chart.push_days.Given as goal

-- the text so far has the groups of the days so far
abbrev pub invariant-loop-number : goal.invariant-loop-number
invariant-loop-number l =
    (stretches : List Judged) → IsCanonicalOf (Gives (seen_spans stretches)) l.seen
    → l.breaches ≡ month_breaches (1440 * l.fn.first) (1440 * l.fn.past) stretches
    → (groups : List ℕ) × (string_bytes l.text ≡ string_bytes l.fn.text ++ groups)
    × AreDayGroups l.line stretches l.fn.first 100 (l.number - l.fn.first) groups
