use Rattle.std.proofs.Common.{◌≤◌, ◌-◌, Ok}
use Rattle.tacho_reading.specs.Calls.{Tells}
use Rattle.tacho_store.proofs.ListingLemmas.{AreListedTo}
use Rattle.tacho_store.proofs.files.files_in.Given as goal

-- the files before this number are listed, and nothing has changed
abbrev pub invariant-loop-number : goal.invariant-loop-number
invariant-loop-number g l =
    (1 ≤ l.number)
    × Tells g.S.Store l.fn.tx.conn l.tx.conn (Ok l.files)
    (λ _ s. AreListedTo l.driver (l.number - 1) l.stored.downloads l.files.items s)
