-- Trusted: CardActivityDailyRecord (Annex IC, Appendix 1): twelve bytes, followed by the words of a day.
use Rattle.std.specs.Prelude.{ℕ, zero, suc, ◌+◌, ◌-◌, ◌*◌, ◌/◌, ◌%◌, ◌&&◌, ◌==◌, nat_lt, nat_le, not, Bool, List, length, Option, None, Some, Result, Ok, Err, if◌then◌else◌}
use Rattle.tacho_card.specs.declared.fault.CardFault.{CardFault}
use Rattle.tacho_card.specs.declared.fault.CardFault.TheVariants.{RecordLength, Chain, DayRange, WordMinute, WordOrder}
use Rattle.tacho_card.specs.ActivityChangeInfo.{time_of}
use Rattle.tacho_card.specs.DriverActivity.{wrap_place, number_at}
use Rattle.tacho_time.specs.Limits.{first_day, last_day}

-- a record in a buffer: the place at which it begins, and the number of its words
pub record DailyRecord : Type 0 where
  pub buffer : List ℕ
  pub place : ℕ
  pub count : ℕ

-- activityRecordLength
abbrev pub length_at : List ℕ → ℕ → ℕ
length_at buffer place = number_at buffer (place + 2)

-- activityRecordDate, a TimeReal: seconds since 1970-01-01 00:00 UTC
abbrev pub seconds_at : List ℕ → ℕ → ℕ
seconds_at buffer place = number_at buffer (place + 4) * 65536 + number_at buffer (place + 6)

-- the day of that time
abbrev pub record_day : List ℕ → ℕ → ℕ
record_day buffer place = seconds_at buffer place / 86400

-- the place of the i-th word of the record at a place
abbrev pub word_place : ℕ → ℕ → ℕ
word_place place i = place + 12 + 2 * i

-- the i-th word of the record at a place
abbrev pub word_at : List ℕ → ℕ → ℕ → ℕ
word_at buffer place i = number_at buffer (word_place place i)

-- true if a record may have this length: 12 bytes and some number of words, within the buffer
abbrev pub is_length : ℕ → ℕ → Bool
is_length size len = nat_le 12 len && (len % 2 == 0) && nat_le len size

-- true if a day is from 2000-01-03 to 2099-12-31
abbrev pub is_read_day : ℕ → Bool
is_read_day day = nat_le first_day day && nat_le day last_day

-- the first fault of k words from the i-th on, after a word with the minute `before`; C12 comes before C13
unfoldable pub words_fault : List ℕ → ℕ → ℕ → ℕ → ℕ → Option CardFault
words_fault buffer place before i zero = None
words_fault buffer place before i (suc k) =
    let minute = time_of (word_at buffer place i) in
    if nat_le 1440 minute then Some (WordMinute (wrap_place buffer (word_place place i)))
    else (if nat_lt minute before then Some (WordOrder (wrap_place buffer (word_place place i)))
    else words_fault buffer place minute (i + 1) k)

-- the fault, or the record if there is none
abbrev pub fault_or : Option CardFault → DailyRecord → Result DailyRecord CardFault
fault_or (Some fault) r = Err fault
fault_or None r = Ok r

-- the record at a place, if the records before it leave `left` bytes of the buffer, or its first fault: C9, C10, C11, and then those of its
-- words
unfoldable pub record_at : List ℕ → ℕ → ℕ → Result DailyRecord CardFault
record_at buffer place left =
    let len = length_at buffer place in
    if not (is_length (length buffer) len) then Err (RecordLength place)
    else (if nat_lt left len then Err (Chain place)
    else (if not (is_read_day (record_day buffer place)) then Err (DayRange place)
    else (let count = (len - 12) / 2 in fault_or (words_fault buffer place 0 0 count) (record { buffer = buffer; place = place; count = count }))))
