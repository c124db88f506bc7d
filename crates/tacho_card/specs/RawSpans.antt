-- Private to tacho_card: The spans of records, word by word, before they are put in order.
use Rattle.std.specs.Prelude.{ℕ, zero, suc, ◌+◌, ◌*◌, ◌&&◌, ◌==◌, Bool, List, [], ◌∷◌, ◌++◌, Option, Some, None, Result, Ok, Err, if◌then◌else◌}
use Rattle.tacho_time.specs.declared.span.Span.{Span}
use Rattle.tacho_time.specs.declared.span.Mark.{Mark}
use Rattle.tacho_card.specs.declared.fault.CardFault.{CardFault}
use Rattle.tacho_card.specs.ActivityChangeInfo.{mark_of}
use Rattle.tacho_card.specs.DriverActivity.{DriverActivity}
use Rattle.tacho_card.specs.DailyRecord.{DailyRecord, record_day, word_at}
use Rattle.tacho_card.specs.Chain.{chain}
use Rattle.tacho_card.specs.Reading.{word_minute}

-- a span with this mark, if there is a mark
abbrev pub span_of_mark : ℕ → ℕ → Option Mark → List Span
span_of_mark start past None = []
span_of_mark start past (Some mark) = record { start = start; past = past; mark = mark } ∷ []

-- the mark that the i-th word gives, if k words come after it; the last word of the newest record gives none
abbrev pub closed_mark : Bool → DailyRecord → ℕ → ℕ → Option Mark
closed_mark newest r i k = if newest && (k == 0) then None else mark_of (word_at r.buffer r.place i)

-- the end of the i-th word, if k words come after it: at the next word, or at the end of the day
abbrev pub word_past : DailyRecord → ℕ → ℕ → ℕ
word_past r i k = if k == 0 then 1440 * record_day r.buffer r.place + 1440 else word_minute r (i + 1)

-- the spans of k words from the i-th on
unfoldable pub words_spans : Bool → DailyRecord → ℕ → ℕ → List Span
words_spans newest r i zero = []
words_spans newest r i (suc k) = span_of_mark (word_minute r i) (word_past r i k) (closed_mark newest r i k) ++ words_spans newest r (i + 1) k

-- the spans of a record
abbrev pub record_spans : Bool → DailyRecord → List Span
record_spans newest r = words_spans newest r 0 r.count

-- puts spans before those that are read from the rest
abbrev pub prepend_spans : List Span → Result (List Span) CardFault → Result (List Span) CardFault
prepend_spans front (Ok spans) = Ok (front ++ spans)
prepend_spans front (Err fault) = Err fault

-- the spans of all records, or the fault of the chain
unfoldable pub items_spans : ℕ → List (Result DailyRecord CardFault) → Result (List Span) CardFault
items_spans newest [] = Ok []
items_spans newest (Err fault ∷ items) = Err fault
items_spans newest (Ok r ∷ items) = prepend_spans (record_spans (r.place == newest) r) (items_spans newest items)

-- the spans of data, or the fault of their chain
abbrev pub activity_spans : DriverActivity → Result (List Span) CardFault
activity_spans activity = items_spans activity.newest (chain activity)
