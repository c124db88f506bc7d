-- Trusted: The faults of a card file and of its records (Annex IC, Appendices 1 and 7), defined by blocks, places and words, and not by the
-- order in which a program goes over them. C1 is IsTruncatedAt in CardFile, and C14 is in Reading.
use Rattle.std.specs.Prelude.{◌≡◌, ◌≢◌, ℕ, ◌+◌, ◌*◌, ◌<◌, ◌≤◌, ◌⊎◌, List, length, Contains, slice_get, Some, Result, Ok, Err}
use Rattle.tacho_card.specs.declared.fault.CardFault.{CardFault}
use Rattle.tacho_card.specs.declared.fault.CardFault.TheVariants.{Twice, NoIdentification, ShortIdentification, TwoCards, RecordLength, Chain, DayRange, WordMinute, WordOrder}
use Rattle.tacho_card.specs.ActivityChangeInfo.{time_of}
use Rattle.tacho_card.specs.DriverActivity.{DriverActivity, wrap_place}
use Rattle.tacho_card.specs.DailyRecord.{DailyRecord, length_at, record_day, word_place, word_at}
use Rattle.tacho_card.specs.Chain.{lengths}
use Rattle.tacho_card.specs.CardFile.{FileBlock, activity_data, identification, holder_in}
use Rattle.tacho_time.specs.Limits.{first_day, last_day}

-- ---- C2 to C5: the blocks of a file

-- the file may have this block only once: data of EF Driver_Activity_Data or of EF Identification, of the first or of the second generation
abbrev pub MayStandOnce : FileBlock → Type 0
MayStandOnce b = ((b.identifier ≡ activity_data) ⊎ (b.identifier ≡ identification)) × ((b.kind ≡ 0) ⊎ (b.kind ≡ 2))

-- the file may have the block at this place only once, and an earlier one has the same identifier and the same kind
pub record IsRepetition (blocks : List FileBlock) (place : ℕ) (b : FileBlock) : Type 0 where
  pub there : slice_get blocks place ≡ Some b
  pub once : MayStandOnce b
  pub earlier : ℕ
  pub before : earlier < place
  pub other : FileBlock
  pub stood : slice_get blocks earlier ≡ Some other
  pub identifier : other.identifier ≡ b.identifier
  pub kind : other.kind ≡ b.kind

-- C2: the first repetition
pub record IsFirstRepetition (blocks : List FileBlock) (b : FileBlock) : Type 0 where
  pub place : ℕ
  pub repeats : IsRepetition blocks place b
  pub first : (earlier : ℕ) (other : FileBlock) → earlier < place → ¬ (IsRepetition blocks earlier other)

abbrev pub HaveNoRepetition : List FileBlock → Type 0
HaveNoRepetition blocks = (place : ℕ) (b : FileBlock) → ¬ (IsRepetition blocks place b)

-- an identification among the blocks, of the first or of the second generation
pub record IsIdentification (blocks : List FileBlock) (b : FileBlock) : Type 0 where
  pub among : Contains blocks b
  pub identifier : b.identifier ≡ identification
  pub kind : (b.kind ≡ 0) ⊎ (b.kind ≡ 2)

-- C3: there is no identification
abbrev pub HaveNoIdentification : List FileBlock → Type 0
HaveNoIdentification blocks = (b : FileBlock) → ¬ (IsIdentification blocks b)

-- C4: an identification has fewer than 17 bytes
abbrev pub HaveShortIdentification : List FileBlock → Type 0
HaveShortIdentification blocks = (b : FileBlock) × IsIdentification blocks b × (length b.value < 17)

-- C5: two identifications name different holders
abbrev pub HaveTwoHolders : List FileBlock → Type 0
HaveTwoHolders blocks =
    (a : FileBlock) × (b : FileBlock) × IsIdentification blocks a × IsIdentification blocks b × (holder_in a.value ≢ holder_in b.value)

-- the fault of a file's blocks: the first of C2 to C5
abbrev pub IsFileFault : List FileBlock → CardFault → Type 0
IsFileFault blocks (Twice identifier kind) = (b : FileBlock) × IsFirstRepetition blocks b × (b.identifier ≡ identifier) × (b.kind ≡ kind)
IsFileFault blocks NoIdentification = HaveNoRepetition blocks × HaveNoIdentification blocks
IsFileFault blocks ShortIdentification = HaveNoRepetition blocks × HaveShortIdentification blocks
IsFileFault blocks TwoCards = HaveNoRepetition blocks × ¬ (HaveShortIdentification blocks) × HaveTwoHolders blocks
IsFileFault blocks fault = ⊥

-- there is an identification, each has at least 17 bytes, and each names this holder
pub record IsHolder (blocks : List FileBlock) (holder : List ℕ) : Type 0 where
  pub some : (b : FileBlock) × IsIdentification blocks b
  pub long : ¬ (HaveShortIdentification blocks)
  pub each : (b : FileBlock) → IsIdentification blocks b → holder_in b.value ≡ holder

-- ---- C9 to C13: a record after those at the places of a front

-- the record at a place has the length of a record with `count` words, and isn't longer than the buffer; C9: this holds for no count
abbrev pub HasWords : DriverActivity → ℕ → ℕ → Type 0
HasWords activity place count = (length_at activity.buffer place ≡ 12 + 2 * count) × (length_at activity.buffer place ≤ length activity.buffer)

-- C10: with this record, the lengths add up to more than the buffer's
abbrev pub IsTooLong : DriverActivity → List ℕ → ℕ → Type 0
IsTooLong activity front place = length activity.buffer < lengths activity.buffer front + length_at activity.buffer place

-- the record's day is from 2000-01-03 to 2099-12-31; C11: it isn't
abbrev pub HasReadDay : DriverActivity → ℕ → Type 0
HasReadDay activity place = (first_day ≤ record_day activity.buffer place) × (record_day activity.buffer place ≤ last_day)

-- C12: the minute of a word isn't one of a day; C13: it is below that of the word before
abbrev pub IsWordFault : List ℕ → ℕ → ℕ → CardFault → Type 0
IsWordFault buffer place word fault =
    ((1440 ≤ time_of (word_at buffer place word)) × (fault ≡ WordMinute (wrap_place buffer (word_place place word))))
    ⊎ (((before : ℕ) × (before + 1 ≡ word) × (time_of (word_at buffer place word) < time_of (word_at buffer place before)))
    × (fault ≡ WordOrder (wrap_place buffer (word_place place word))))

-- the fault of the first of `count` words that has one
pub record IsFirstWordFault (buffer : List ℕ) (place count : ℕ) (fault : CardFault) : Type 0 where
  pub word : ℕ
  pub among : word < count
  pub is : IsWordFault buffer place word fault
  pub first : (earlier : ℕ) (other : CardFault) → earlier < word → ¬ (IsWordFault buffer place earlier other)

abbrev pub HaveNoWordFault : List ℕ → ℕ → ℕ → Type 0
HaveNoWordFault buffer place count = (word : ℕ) (fault : CardFault) → word < count → ¬ (IsWordFault buffer place word fault)

-- the first fault of a record, in the order of C9 to C11 and then of its words
abbrev pub IsRecordFault : DriverActivity → List ℕ → ℕ → CardFault → Type 0
IsRecordFault activity front place (RecordLength p) = (p ≡ place) × ((count : ℕ) → ¬ (HasWords activity place count))
IsRecordFault activity front place (Chain p) = (p ≡ place) × ((count : ℕ) × HasWords activity place count) × IsTooLong activity front place
IsRecordFault activity front place (DayRange p) =
    (p ≡ place) × ((count : ℕ) × HasWords activity place count) × ¬ (IsTooLong activity front place) × ¬ (HasReadDay activity place)
IsRecordFault activity front place fault =
    (count : ℕ) × HasWords activity place count × ¬ (IsTooLong activity front place) × HasReadDay activity place × IsFirstWordFault activity.buffer place count fault

-- a record without a fault
pub record IsSound (activity : DriverActivity) (front : List ℕ) (r : DailyRecord) : Type 0 where
  pub buffer : r.buffer ≡ activity.buffer
  pub words : HasWords activity r.place r.count
  pub room : ¬ (IsTooLong activity front r.place)
  pub day : HasReadDay activity r.place
  pub in_order : HaveNoWordFault activity.buffer r.place r.count

-- the result of reading at a place: a record without a fault, or its first fault
abbrev pub IsRecordReading : DriverActivity → List ℕ → ℕ → Result DailyRecord CardFault → Type 0
IsRecordReading activity front place (Ok r) = (r.place ≡ place) × IsSound activity front r
IsRecordReading activity front place (Err fault) = IsRecordFault activity front place fault
