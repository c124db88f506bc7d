-- Trusted: The chain of the records of a cyclic buffer, from the oldest to the newest.
use Rattle.std.specs.Prelude.{◌≡◌, ◌≢◌, ℕ, zero, suc, ◌+◌, ◌-◌, ◌&&◌, ◌==◌, ◌⊎◌, Bool, List, [], ◌∷◌, ◌++◌, length, Option, None, Some, Result, Ok, Err, IsOk, IsErr, IsTrue, if◌then◌else◌}
use Rattle.tacho_card.specs.declared.fault.CardFault.{CardFault}
use Rattle.tacho_card.specs.DriverActivity.{DriverActivity, wrap_place}
use Rattle.tacho_card.specs.DailyRecord.{DailyRecord, length_at, record_at}

-- true if there are no records: both pointers are equal, and the length at this place is 0
abbrev pub has_no_records : DriverActivity → Bool
has_no_records activity = (activity.oldest == activity.newest) && (length_at activity.buffer activity.oldest == 0)

-- ---- by places

-- the sum of the lengths of the records at these places
abbrev pub lengths : List ℕ → List ℕ → ℕ
lengths buffer [] = 0
lengths buffer (place ∷ places) = length_at buffer place + lengths buffer places

-- the record at a place, after the records at the places of a front, or its first fault
abbrev pub read_after : DriverActivity → List ℕ → ℕ → Result DailyRecord CardFault
read_after activity front place = record_at activity.buffer place (length activity.buffer - lengths activity.buffer front)

-- The first places of a chain. The first one is that of the oldest record. If another place follows, the record at a place isn't the newest
-- and has no fault, and the next record begins where this one ends.
pub record IsFront (activity : DriverActivity) (places : List ℕ) : Type 0 where
  pub begins : (rest : List ℕ) × (places ≡ activity.oldest ∷ rest)
  pub goes_on : (front rest : List ℕ) (place next : ℕ) → places ≡ front ++ place ∷ next ∷ rest →
      (place ≢ activity.newest) × IsOk (read_after activity front place) × (next ≡ wrap_place activity.buffer (place + length_at activity.buffer place))

-- the results of reading the records at these places, after those of a front
abbrev pub readings : DriverActivity → List ℕ → List ℕ → List (Result DailyRecord CardFault)
readings activity front [] = []
readings activity front (place ∷ places) = read_after activity front place ∷ readings activity (front ++ place ∷ []) places

-- the results of reading a front that ends at the newest record, or at the first record with a fault
pub record EndsChain (activity : DriverActivity) (front : List ℕ) (last : ℕ) (items : List (Result DailyRecord CardFault)) : Type 0 where
  pub whole : IsFront activity (front ++ last ∷ [])
  pub ends : (last ≡ activity.newest) ⊎ IsErr (read_after activity front last)
  pub read : items ≡ readings activity [] (front ++ last ∷ [])

-- the records of the chain in order, followed by its fault if it has one
abbrev pub IsChain : DriverActivity → List (Result DailyRecord CardFault) → Type 0
IsChain activity items =
    (IsTrue (has_no_records activity) × (items ≡ []))
    ⊎ ((has_no_records activity ≢ Bool.true) × ((front : List ℕ) × (last : ℕ) × EndsChain activity front last items))

-- ---- by recursion, in the order of an iterator

-- the result of a record, followed by the results of those after it; nothing follows a fault
abbrev pub followed_by : Result DailyRecord CardFault → List (Result DailyRecord CardFault) → List (Result DailyRecord CardFault)
followed_by (Err fault) rest = Err fault ∷ []
followed_by (Ok r) rest = Ok r ∷ rest

-- the records from a place on, up to the newest one or the first fault; it takes more fuel than there are bytes left
unfoldable pub chain_from : ℕ → List ℕ → ℕ → ℕ → ℕ → List (Result DailyRecord CardFault)
chain_from zero buffer newest place left = []
chain_from (suc fuel) buffer newest place left =
    let len = length_at buffer place in
    followed_by (record_at buffer place left)
    (if place == newest then [] else chain_from fuel buffer newest (wrap_place buffer (place + len)) (left - len))

-- the records of the chain, followed by its fault if it has one
abbrev pub chain : DriverActivity → List (Result DailyRecord CardFault)
chain activity = if has_no_records activity then [] else chain_from (suc (length activity.buffer)) activity.buffer activity.newest activity.oldest (length activity.buffer)

-- the fault at the end of a chain
abbrev pub fault_of : List (Result DailyRecord CardFault) → Option CardFault
fault_of [] = None
fault_of (Err fault ∷ items) = Some fault
fault_of (Ok r ∷ items) = fault_of items
