use Rattle.tacho_reading.proofs.NearRowLemmas.{card_kept, held_kept}
use Rattle.tacho_reading.proofs.laws.rows_are_kept.Goals as goal

pub returns : goal.returns
returns c = record { card = card_kept; held = held_kept }
