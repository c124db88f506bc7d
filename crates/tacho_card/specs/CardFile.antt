-- Trusted: The card download file (Annex IC, Appendix 7): blocks laid end to end.
use Rattle.std.specs.Prelude.{◌≡◌, ◌≢◌, ℕ, zero, suc, ◌+◌, ◌*◌, ◌/◌, ◌%◌, ◌<◌, ◌&&◌, ◌||◌, ◌==◌, nat_lt, Bool, true, false, List, [], ◌∷◌, ◌++◌, length, take, drop, Option, None, Some, Result, Ok, Err, flat_map, slice_index, bytes_eq, if◌then◌else◌}
use Rattle.std.specs.List.{AllByRecursion}
use Rattle.tacho_time.specs.declared.span.Span.{Span}
use Rattle.tacho_card.specs.declared.fault.CardFault.{CardFault}
use Rattle.tacho_card.specs.declared.fault.CardFault.TheVariants.{Truncated, Twice, NoIdentification, ShortIdentification, TwoCards, NoActivity}
use Rattle.tacho_card.specs.declared.file.Part.{Part}
use Rattle.tacho_card.specs.declared.file.Part.TheVariants as part
use Rattle.tacho_card.specs.DriverActivity.{DriverActivity, driver_activity}
use Rattle.tacho_card.specs.Reading.{IsReading}

-- a block of the file: the identifier of an elementary file, the kind of the block, and its value
pub record FileBlock : Type 0 where
  pub identifier : ℕ
  pub kind : ℕ
  pub value : List ℕ

-- a number below 65,536 in two bytes, the most significant first
abbrev pub two_bytes : ℕ → List ℕ
two_bytes n = n / 256 ∷ n % 256 ∷ []

-- identifier, kind, length of the value, and value
abbrev pub block_bytes : FileBlock → List ℕ
block_bytes b = two_bytes b.identifier ++ b.kind ∷ two_bytes (length b.value) ++ b.value

-- the numbers of the block's head fit into their bytes
pub record FitsHead (b : FileBlock) : Type 0 where
  pub identifier : b.identifier < 65536
  pub kind : b.kind < 256
  pub length : length b.value < 65536

-- the bytes are those of the blocks, one block after the other
pub record IsLaidEndToEnd (bytes : List ℕ) (blocks : List FileBlock) : Type 0 where
  pub laid : bytes ≡ flat_map block_bytes blocks
  pub heads : AllByRecursion FitsHead blocks

-- ---- C1

-- the number of bytes of the block at the front, as its head says; the head itself has 5
abbrev pub front_length : List ℕ → ℕ
front_length bytes = 5 + (slice_index bytes 3 * 256 + slice_index bytes 4)

-- the head or the value of the block at the front extends past the end
abbrev pub is_cut : List ℕ → Bool
is_cut bytes = nat_lt (length bytes) 5 || nat_lt (length bytes) (front_length bytes)

-- whole blocks, followed by one at this offset that extends past the end
pub record IsTruncatedAt (bytes : List ℕ) (offset : ℕ) : Type 0 where
  pub blocks : List FileBlock
  pub rest : List ℕ
  pub laid : IsLaidEndToEnd (take offset bytes) blocks
  pub split : bytes ≡ take offset bytes ++ rest
  pub some : rest ≢ []
  pub cut : is_cut rest ≡ true

-- ---- the blocks of a file by recursion, in the order of an iterator

-- the block at the front, as its head says
abbrev pub front_block : List ℕ → FileBlock
front_block bytes = record {
  identifier = slice_index bytes 0 * 256 + slice_index bytes 1;
  kind = slice_index bytes 2;
  value = take (slice_index bytes 3 * 256 + slice_index bytes 4) (drop 5 bytes);
}

-- puts a block before those that are read from the rest
abbrev pub block_before : FileBlock → Result (List FileBlock) CardFault → Result (List FileBlock) CardFault
block_before b (Ok blocks) = Ok (b ∷ blocks)
block_before b (Err fault) = Err fault

-- true if there are no bytes
abbrev pub is_nothing : List ℕ → Bool
is_nothing [] = true
is_nothing (byte ∷ bytes) = false

-- the blocks of the bytes from an offset on, or C1; it takes as much fuel as there are bytes
unfoldable pub blocks_from : ℕ → ℕ → List ℕ → Result (List FileBlock) CardFault
blocks_from zero offset bytes = Ok []
blocks_from (suc fuel) offset bytes =
    if is_nothing bytes then Ok []
    else (if is_cut bytes then Err (Truncated offset)
    else block_before (front_block bytes) (blocks_from fuel (offset + front_length bytes) (drop (front_length bytes) bytes)))

-- the blocks of a file's bytes, or C1
abbrev pub blocks_of : List ℕ → Result (List FileBlock) CardFault
blocks_of bytes = blocks_from (length bytes) 0 bytes

-- the blocks that were read, or none if there was a fault
abbrev pub blocks_or_none : Result (List FileBlock) CardFault → List FileBlock
blocks_or_none (Ok blocks) = blocks
blocks_or_none (Err fault) = []

-- ---- C2 to C5

-- the identifier of EF Driver_Activity_Data
abbrev pub activity_data : ℕ
activity_data = 0x0504

-- the identifier of EF Identification
abbrev pub identification : ℕ
identification = 0x0520

-- true if a block has this identifier and this kind
abbrev pub is_block : ℕ → ℕ → FileBlock → Bool
is_block identifier kind b = (b.identifier == identifier) && (b.kind == kind)

-- the value of the first block with this identifier and kind
abbrev pub value_of : ℕ → ℕ → List FileBlock → Option (List ℕ)
value_of identifier kind [] = None
value_of identifier kind (b ∷ blocks) = if is_block identifier kind b then Some b.value else value_of identifier kind blocks

-- true if the file may have a block with this identifier and kind only once: data of either generation, in either elementary file
abbrev pub is_once : FileBlock → Bool
is_once b = ((b.identifier == activity_data) || (b.identifier == identification)) && ((b.kind == 0) || (b.kind == 2))

-- true if one of the blocks has the identifier and the kind of this one
abbrev pub has : FileBlock → List FileBlock → Bool
has b [] = false
has b (first ∷ blocks) = is_block b.identifier b.kind first || has b blocks

-- the first block that repeats an earlier one, of those that the file may have only once; the blocks in `seen` come before
abbrev pub first_repeat : List FileBlock → List FileBlock → Option FileBlock
first_repeat seen [] = None
first_repeat seen (b ∷ blocks) = if is_once b && has b seen then Some b else first_repeat (seen ++ b ∷ []) blocks

-- the blocks, or C2 if one of them is repeated
abbrev pub no_repetition : Option FileBlock → List FileBlock → Result (List FileBlock) CardFault
no_repetition (Some b) blocks = Err (Twice b.identifier b.kind)
no_repetition None blocks = Ok blocks

-- cardIssuingMemberState and driverIdentification: the first 15 bytes of an identification
abbrev pub holder_in : List ℕ → List ℕ
holder_in value = take 15 value

-- C4: true if there is an identification, and it has fewer than 17 bytes
abbrev pub is_short : Option (List ℕ) → Bool
is_short None = false
is_short (Some value) = nat_lt (length value) 17

-- the holder that the identifications of the two generations name, or the first of C3, C4 and C5
abbrev pub holder_of : Option (List ℕ) → Option (List ℕ) → Result (List ℕ) CardFault
holder_of None None = Err NoIdentification
holder_of (Some first) None = if is_short (Some first) then Err ShortIdentification else Ok (holder_in first)
holder_of None (Some second) = if is_short (Some second) then Err ShortIdentification else Ok (holder_in second)
holder_of (Some first) (Some second) =
    if is_short (Some first) || is_short (Some second) then Err ShortIdentification
    else (if bytes_eq (holder_in first) (holder_in second) then Ok (holder_in first) else Err TwoCards)

-- the holder that a file's blocks name, or the first of C3, C4 and C5
abbrev pub file_holder : List FileBlock → Result (List ℕ) CardFault
file_holder blocks = holder_of (value_of identification 0 blocks) (value_of identification 2 blocks)

-- the blocks if they name a holder, else the fault
abbrev pub with_holder : List FileBlock → Result (List ℕ) CardFault → Result (List FileBlock) CardFault
with_holder blocks (Ok holder) = Ok blocks
with_holder blocks (Err fault) = Err fault

-- the blocks, or the first of C3 to C5
abbrev pub then_held : Result (List FileBlock) CardFault → Result (List FileBlock) CardFault
then_held (Ok blocks) = with_holder blocks (file_holder blocks)
then_held (Err fault) = Err fault

-- the blocks, or C2
abbrev pub then_single : Result (List FileBlock) CardFault → Result (List FileBlock) CardFault
then_single (Ok blocks) = no_repetition (first_repeat [] blocks) blocks
then_single (Err fault) = Err fault

-- the blocks of a card file, or the first of C1 to C5
abbrev pub card_file : List ℕ → Result (List FileBlock) CardFault
card_file bytes = then_held (then_single (blocks_of bytes))

-- ---- the parts

-- the data of a value, if there is a value, or the first of C7 and C8
abbrev pub read_value : Option (List ℕ) → Result (Option DriverActivity) CardFault
read_value None = Ok None
read_value (Some bytes) = read_some (driver_activity bytes)
  where
    read_some : Result DriverActivity CardFault → Result (Option DriverActivity) CardFault
    read_some (Ok block) = Ok (Some block)
    read_some (Err fault) = Err fault

-- the data of both values, or the first fault
abbrev pub both_read : Result (Option DriverActivity) CardFault → Result (Option DriverActivity) CardFault → Result (List (Option DriverActivity)) CardFault
both_read (Err fault) second = Err fault
both_read (Ok first) (Err fault) = Err fault
both_read (Ok first) (Ok second) = Ok (first ∷ second ∷ [])

-- the data of the chosen values, or C6 if there are none
abbrev pub some_chosen : Option (List ℕ) → Option (List ℕ) → Result (List (Option DriverActivity)) CardFault
some_chosen None None = Err NoActivity
some_chosen (Some first) second = both_read (read_value (Some first)) (read_value second)
some_chosen None (Some second) = both_read (Ok None) (read_value (Some second))

-- the data of the values that a part chooses, first generation before second, or the first of C6, C7 and C8
abbrev pub chosen_activity : Part → List FileBlock → Result (List (Option DriverActivity)) CardFault
chosen_activity part.First blocks = some_chosen (value_of activity_data 0 blocks) None
chosen_activity part.Second blocks = some_chosen None (value_of activity_data 2 blocks)
chosen_activity part.Both blocks = some_chosen (value_of activity_data 0 blocks) (value_of activity_data 2 blocks)

-- the data that are present
abbrev pub those_there : List (Option DriverActivity) → List DriverActivity
those_there [] = []
those_there (None ∷ chosen) = those_there chosen
those_there (Some activity ∷ chosen) = activity ∷ those_there chosen

-- the reading of chosen data, or the fault of choosing them
abbrev pub ReadsChosen : Result (List (Option DriverActivity)) CardFault → Result (List Span) CardFault → Type 0
ReadsChosen (Ok chosen) reading = IsReading (those_there chosen) reading
ReadsChosen (Err fault) reading = reading ≡ Err fault

-- the reading of a file by a part: the canonical list of what the chosen data give, or the first fault
abbrev pub ReadsFile : Part → List FileBlock → Result (List Span) CardFault → Type 0
ReadsFile p blocks reading = ReadsChosen (chosen_activity p blocks) reading
