-- Trusted: The content of a card file for each part: a relation with exactly one solution.
use Rattle.std.specs.Prelude.{◌≡◌, ℕ, List, [], ◌∷◌, Result, Ok, Err}
use Rattle.tacho_card.specs.declared.fault.CardFault.{CardFault}
use Rattle.tacho_card.specs.declared.fault.CardFault.TheVariants as card
use Rattle.tacho_card.specs.declared.file.Part.{Part}
use Rattle.tacho_card.specs.CardFile.{FileBlock, card_file, file_holder, ReadsFile}
use Rattle.tacho_state.specs.declared.fault.StoreFault.{StoreFault}
use Rattle.tacho_state.specs.declared.fault.StoreFault.TheVariants.{Card, Memory}
use Rattle.tacho_state.specs.Numbers.{part_number}
use Rattle.tacho_state.specs.State.{Download}
use Rattle.tacho_state.specs.Steps.{Content}

-- the content of blocks is their holder and the spans of the part, or the fault in reading the part
abbrev pub BlocksTell : Part → List FileBlock → Result Content CardFault → Type 0
BlocksTell p blocks (Ok content) = (file_holder blocks ≡ Ok content.holder) × ReadsFile p blocks (Ok content.spans)
BlocksTell p blocks (Err fault) = ReadsFile p blocks (Err fault)

-- the content of blocks that were read, or the fault in reading them
abbrev pub ReadTells : Part → Result (List FileBlock) CardFault → Result Content CardFault → Type 0
ReadTells p (Ok blocks) content = BlocksTell p blocks content
ReadTells p (Err fault) content = content ≡ Err fault

-- the content of a file's bytes, or its first fault
abbrev pub FileTells : Part → List ℕ → Result Content CardFault → Type 0
FileTells p bytes content = ReadTells p (card_file bytes) content

-- the part with this number gives the file a content
abbrev pub HasContent : ℕ → List ℕ → Content → Type 0
HasContent number bytes content = (part : Part) × (part_number part ≡ number) × FileTells part bytes (Ok content)

-- the archive's fault for a fault in a card file: out of memory stays out of memory
abbrev pub fault_of_card : CardFault → StoreFault
fault_of_card card.Memory = Memory
fault_of_card fault = Card fault

-- each download's spans are what its file gives for its part
abbrev pub AreRead : List Download → Type 0
AreRead [] = Unit {0}
AreRead (d ∷ ds) =
    ((part : Part) × (holder : List ℕ) × (part_number part ≡ d.part) × FileTells part d.file (Ok (record { holder = holder; spans = d.spans }))) × AreRead ds
