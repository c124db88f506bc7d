-- Trusted: What activity data give: pairs of a minute and a mark, or the first fault.
use Rattle.std.specs.Prelude.{◌≡◌, ℕ, ◌+◌, ◌*◌, ◌<◌, ◌≤◌, ◌⊎◌, List, [], ◌∷◌, Option, None, Some, Result, Ok, Err}
use Rattle.tacho_time.specs.declared.span.Span.{Span}
use Rattle.tacho_time.specs.declared.span.Mark.{Mark}
use Rattle.tacho_time.specs.Spans.{IsCanonicalOf, IsFirstConflict}
use Rattle.tacho_time.specs.OrMemory.{OrMemory}
use Rattle.tacho_time.specs.declared.canonical.SpanFault.{SpanFault}
use Rattle.tacho_time.specs.declared.canonical.SpanFault.TheVariants.{Contradiction, Memory as NoMemory}
use Rattle.tacho_card.specs.declared.fault.CardFault.{CardFault}
use Rattle.tacho_card.specs.declared.fault.CardFault.TheVariants.{SelfContradiction, Memory}
use Rattle.tacho_card.specs.ActivityChangeInfo.{time_of, mark_of}
use Rattle.tacho_card.specs.DriverActivity.{DriverActivity}
use Rattle.tacho_card.specs.DailyRecord.{DailyRecord, record_day, word_at}
use Rattle.tacho_card.specs.Chain.{chain, fault_of}

-- the minute from which the i-th word of a record holds
abbrev pub word_minute : DailyRecord → ℕ → ℕ
word_minute r i = 1440 * record_day r.buffer r.place + time_of (word_at r.buffer r.place i)

-- A record gives a minute of its day the mark of the last word that holds at or before that minute. A word without a mark gives nothing.
-- The last word of the newest record gives nothing either, since the card doesn't say how long it held.
pub record RecordGives (newest : ℕ) (r : DailyRecord) (m : ℕ) (mark : Mark) : Type 0 where
  pub word : ℕ
  pub there : word < r.count
  pub holds : word_minute r word ≤ m
  pub last : (later : ℕ) → word < later → later < r.count → m < word_minute r later
  pub in_day : m < 1440 * (record_day r.buffer r.place + 1)
  pub marked : mark_of (word_at r.buffer r.place word) ≡ Some mark
  pub closed : ¬ ((r.place ≡ newest) × (word + 1 ≡ r.count))

-- some record of a chain gives the minute this mark
abbrev pub ItemsGive : ℕ → List (Result DailyRecord CardFault) → ℕ → Mark → Type 0
ItemsGive newest [] m mark = ⊥
ItemsGive newest (Ok r ∷ items) m mark = RecordGives newest r m mark ⊎ ItemsGive newest items m mark
ItemsGive newest (Err fault ∷ items) m mark = ItemsGive newest items m mark

-- some record of these data gives the minute this mark
abbrev pub ActivitiesGive : List DriverActivity → ℕ → Mark → Type 0
ActivitiesGive [] m mark = ⊥
ActivitiesGive (activity ∷ activities) m mark = ItemsGive activity.newest (chain activity) m mark ⊎ ActivitiesGive activities m mark

-- the first fault of the chains, in order
abbrev pub chains_fault : List DriverActivity → Option CardFault
chains_fault [] = None
chains_fault (activity ∷ activities) = fault_before (fault_of (chain activity)) (chains_fault activities)
  where
    fault_before : Option CardFault → Option CardFault → Option CardFault
    fault_before (Some fault) rest = Some fault
    fault_before None rest = rest

-- The reading of data: the canonical list of what they give, or the first fault. A contradiction within the data comes after all faults of
-- records, and names the least minute with two marks.
abbrev pub IsReading : List DriverActivity → Result (List Span) CardFault → Type 0
IsReading activities (Ok spans) = (chains_fault activities ≡ None) × IsCanonicalOf (ActivitiesGive activities) spans
IsReading activities (Err fault) =
    (chains_fault activities ≡ Some fault)
    ⊎ ((chains_fault activities ≡ None) × ((m : ℕ) × (fault ≡ SelfContradiction m) × IsFirstConflict (ActivitiesGive activities) m))

-- the fault is that of the reading, or out of memory
abbrev pub IsReadingFault : List DriverActivity → CardFault → Type 0
IsReadingFault activities fault = OrMemory Memory fault (IsReading activities (Err fault))

-- the card fault for a fault of its spans
abbrev pub fault_of_spans : SpanFault → CardFault
fault_of_spans (Contradiction m) = SelfContradiction m
fault_of_spans NoMemory = Memory
