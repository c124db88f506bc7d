-- Trusted: The reply of `holder` to an input.
use Rattle.std.specs.Prelude.{◌≡◌, ℕ, ◌<◌, ◌≤◌, ◌⊎◌, List, ◌++◌, Result, Ok, Err, length, codes, flat_map}
use Rattle.tacho_card.specs.declared.fault.CardFault.{CardFault}
use Rattle.tacho_card.specs.CardFile.{FileBlock, card_file, file_holder}
use Rattle.tacho_sheet.specs.Lines.{byte_digits}
use Rattle.tacho_sheet.specs.declared.fault.Fault.TheVariants as fault
use Rattle.tacho_cli.specs.Command.{Reply, failure_reply, card_reply}

-- the hexadecimal digits of a holder, and a line feed
abbrev pub holder_line : List ℕ → List ℕ
holder_line holder = flat_map byte_digits holder ++ codes "\n"

-- the holder in the blocks of a file, or the fault
abbrev pub blocks_holder : Result (List FileBlock) CardFault → Result (List ℕ) CardFault
blocks_holder (Ok blocks) = file_holder blocks
blocks_holder (Err f) = Err f

-- the holder of a card file, or the first of C1 to C5
abbrev pub card_holder : List ℕ → Result (List ℕ) CardFault
card_holder bytes = blocks_holder (card_file bytes)

-- the line of a holder, or the line of a fault
abbrev pub holder_reply : Result (List ℕ) CardFault → Reply
holder_reply (Ok holder) = record { text = holder_line holder; status = 0 }
holder_reply (Err f) = card_reply f

-- the reply to an input: the line of its holder or its fault, unless it is too large
abbrev pub IsHolder : List ℕ → Reply → Type 0
IsHolder input reply =
    ((262144 < length input) × (reply ≡ failure_reply fault.TooLarge))
    ⊎ ((length input ≤ 262144) × (reply ≡ holder_reply (card_holder input)))
