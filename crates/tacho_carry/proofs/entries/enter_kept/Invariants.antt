use Rattle.std.proofs.Common.{◌≡◌, Some}
use Rattle.std.specs.Vec.Iter.{into_iter_items}
use Rattle.tacho_state.specs.Batch.{IsBatch}
use Rattle.tacho_state.specs.State.{Driver, State, driver_of}
use Rattle.tacho_state.specs.Steps.{numbered_from}
use Rattle.tacho_carry.specs.Carrying.{IsAt}
use Rattle.tacho_carry.proofs.EntryLemmas.{IsEnteredUpTo}
use Rattle.tacho_carry.proofs.entries.enter_kept.Given as goal

-- the lines so far are a batch, and the driver has, with it, the entries so far that are carried
abbrev pub invariant-loop-entry : goal.invariant-loop-entry
invariant-loop-entry g l =
    let n = g.L.Keeper in
    record {
      clean : n.is_clean l.new → n.is_clean l.fn.new;
      batch : IsBatch l.batch.items;
      so_far : n.is_clean l.new → (t : State) (d x : Driver) → l.fn.entries.items ≡ numbered_from 1 d.entries
          → driver_of l.driver t ≡ Some x
          → IsAt (n.stands l.fn.new) (n.leaves l.fn.new) t
          → IsEnteredUpTo l.driver l.start (into_iter_items l.entry-iterator) l.batch.items d x t (IsAt (n.stands l.new) (n.leaves l.new));
    }
