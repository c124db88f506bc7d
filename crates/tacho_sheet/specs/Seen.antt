-- Private to tacho_sheet: The minutes of stretches, as spans of one mark.
use Rattle.std.specs.Prelude.{false, List, map}
use Rattle.tacho_time.specs.declared.span.Activity.TheVariants.{Rest}
use Rattle.tacho_time.specs.declared.span.Span.{Span}
use Rattle.tacho_stretches.specs.Stretches.{Judged}

-- the minutes from a stretch's Monday to its horizon
abbrev pub seen_span : Judged → Span
seen_span s = record { start = s.monday; past = s.horizon.minute; mark = record { activity = Rest; crew = false } }

abbrev pub seen_spans : List Judged → List Span
seen_spans stretches = map seen_span stretches
