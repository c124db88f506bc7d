-- Trusted: CardDriverActivity (Annex IC, Appendix 1): two pointers and a cyclic buffer of N bytes.
use Rattle.std.specs.Prelude.{ℕ, ◌+◌, ◌-◌, ◌*◌, ◌%◌, ◌||◌, nat_lt, nat_le, List, drop, length, Result, Ok, Err, if◌then◌else◌, slice_index}
use Rattle.tacho_card.specs.declared.fault.CardFault.{CardFault}
use Rattle.tacho_card.specs.declared.fault.CardFault.TheVariants.{ShortActivity, Pointer}

-- the places of the oldest and of the newest record, and the bytes of the buffer
pub record DriverActivity : Type 0 where
  pub oldest : ℕ
  pub newest : ℕ
  pub buffer : List ℕ

-- a place, wrapped around at the buffer's end
abbrev pub wrap_place : List ℕ → ℕ → ℕ
wrap_place buffer i = i % length buffer

-- the byte at a place that may wrap around
abbrev pub byte_at : List ℕ → ℕ → ℕ
byte_at buffer i = slice_index buffer (wrap_place buffer i)

-- the number in two bytes, the most significant first
abbrev pub number_at : List ℕ → ℕ → ℕ
number_at buffer i = byte_at buffer i * 256 + byte_at buffer (i + 1)

-- the data of a value's bytes, or the first of C7 and C8
abbrev pub driver_activity : List ℕ → Result DriverActivity CardFault
driver_activity bytes =
    let oldest = slice_index bytes 0 * 256 + slice_index bytes 1 in
    let newest = slice_index bytes 2 * 256 + slice_index bytes 3 in
    let size = length bytes - 4 in
    if nat_lt (length bytes) 16 then Err ShortActivity
    else (if nat_le size oldest || nat_le size newest then Err Pointer
    else Ok (record { oldest = oldest; newest = newest; buffer = drop 4 bytes }))
