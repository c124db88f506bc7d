use Rattle.tacho_reading.proofs.EntryLemmas.{entry_none, entry_some, entry_all}
use Rattle.tacho_reading.proofs.laws.entries_are_found.Goals as goal

pub returns : goal.returns
returns c = record { none = entry_none; some = entry_some; all = entry_all }
