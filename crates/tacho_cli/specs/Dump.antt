-- Trusted in part: The reply of `dump` to an input.
use Rattle.std.specs.Prelude.{◌≡◌, ℕ, ◌<◌, ◌≤◌, ◌⊎◌, List, [], ◌∷◌, Result, Ok, Err, length, flat_map}
use Rattle.tacho_time.specs.declared.span.Span.{Span}
use Rattle.tacho_time.specs.Text.{span_line}
use Rattle.tacho_card.specs.declared.fault.CardFault.{CardFault}
use Rattle.tacho_card.specs.DriverActivity.{DriverActivity, driver_activity}
use Rattle.tacho_card.specs.Reading.{IsReading}
use Rattle.tacho_sheet.specs.declared.fault.Fault.TheVariants as fault
use Rattle.tacho_cli.specs.Command.{Reply, failure_reply, card_reply}

-- the spans or the fault of activity data whose pointers are valid, or else the fault of the pointers
abbrev pub ReadsBlock : Result DriverActivity CardFault → Result (List Span) CardFault → Type 0
ReadsBlock (Ok block) reading = IsReading (block ∷ []) reading
ReadsBlock (Err f) reading = reading ≡ Err f

-- the spans or the fault of a value's bytes
abbrev pub ReadsValue : List ℕ → Result (List Span) CardFault → Type 0
ReadsValue bytes reading = ReadsBlock (driver_activity bytes) reading

-- the text has the lines of the spans that a value's bytes give
abbrev pub IsDumped : List ℕ → List ℕ → Type 0
IsDumped bytes text = (spans : List Span) × ReadsValue bytes (Ok spans) × (text ≡ flat_map span_line spans)

-- the lines of spans, or the line of a fault
abbrev pub reading_reply : Result (List Span) CardFault → Reply
reading_reply (Ok spans) = record { text = flat_map span_line spans; status = 0 }
reading_reply (Err f) = card_reply f

-- the reply to an input: its spans or its fault, unless it is too large
abbrev pub IsDump : List ℕ → Reply → Type 0
IsDump input reply =
    ((65535 < length input) × (reply ≡ failure_reply fault.TooLarge))
    ⊎ ((length input ≤ 65535) × ((reading : Result (List Span) CardFault) × ReadsValue input reading × (reply ≡ reading_reply reading)))
