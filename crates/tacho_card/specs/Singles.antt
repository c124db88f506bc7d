-- Private to tacho_card: The four blocks that a card file may have only once, by number.
use Rattle.std.specs.Prelude.{ℕ, Option, None, Some, if◌then◌else◌}
use Rattle.tacho_card.specs.CardFile.{FileBlock, activity_data, identification, is_block}

-- the number of a block, if it is one of the four
abbrev pub single_place : FileBlock → Option ℕ
single_place b =
    if is_block activity_data 0 b then Some 0
    else (if is_block activity_data 2 b then Some 1
    else (if is_block identification 0 b then Some 2
    else (if is_block identification 2 b then Some 3 else None)))
