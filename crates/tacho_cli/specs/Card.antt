-- Trusted in part: The reply of `card` to a part's name and an input.
use Rattle.std.specs.Prelude.{◌≡◌, ℕ, ◌<◌, ◌≤◌, ◌⊎◌, List, Option, None, Some, Result, Ok, Err, length, flat_map}
use Rattle.tacho_time.specs.Text.{span_line}
use Rattle.tacho_card.specs.declared.fault.CardFault.{CardFault}
use Rattle.tacho_card.specs.declared.file.Part.{Part}
use Rattle.tacho_state.specs.Content.{FileTells}
use Rattle.tacho_state.specs.Steps.{Content}
use Rattle.tacho_desk.specs.Words.{part_of}
use Rattle.tacho_sheet.specs.declared.fault.Fault.TheVariants as fault
use Rattle.tacho_cli.specs.Command.{Reply, failure_reply, card_reply}

-- the lines of the spans of a file, or the line of its first fault
abbrev pub content_reply : Result Content CardFault → Reply
content_reply (Ok content) = record { text = flat_map span_line content.spans; status = 0 }
content_reply (Err f) = card_reply f

-- the text has the lines of the spans of the file, read by the part
abbrev pub IsListed : Part → List ℕ → List ℕ → Type 0
IsListed part bytes text = (content : Content) × FileTells part bytes (Ok content) × (text ≡ flat_map span_line content.spans)

-- the reply to an argument that names no part: P1
abbrev pub no_part_reply : Reply
no_part_reply = failure_reply fault.Part

-- the reply to an input, read by a part: the spans of the file or its fault, unless the file is too large
abbrev pub IsCardBy : Option Part → List ℕ → Reply → Type 0
IsCardBy None input reply = reply ≡ no_part_reply
IsCardBy (Some part) input reply =
    ((262144 < length input) × (reply ≡ failure_reply fault.TooLarge))
    ⊎ ((length input ≤ 262144) × ((content : Result Content CardFault) × FileTells part input content × (reply ≡ content_reply content)))

abbrev pub IsCard : List ℕ → List ℕ → Reply → Type 0
IsCard word = IsCardBy (part_of word)
