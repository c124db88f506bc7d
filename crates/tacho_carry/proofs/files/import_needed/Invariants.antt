use Rattle.std.proofs.Common.{◌≡◌, Some, drop, map}
use Rattle.tacho_state.specs.Acts.{OnlyRead}
use Rattle.tacho_state.specs.Content.{AreRead}
use Rattle.tacho_state.specs.Files.{listed_from, told_file}
use Rattle.tacho_state.specs.State.{Driver, State, driver_of}
use Rattle.tacho_carry.specs.Carrying.{IsAt}
use Rattle.tacho_carry.proofs.FileLemmas.{IsImportedUpTo}
use Rattle.tacho_carry.proofs.files.import_needed.Given as goal

-- the old archive was only read, and the driver in the new one has the card files so far that are carried
abbrev pub invariant-loop-file : goal.invariant-loop-file
invariant-loop-file g l =
    let k = g.K.Keeper in
    let n = g.L.Keeper in
    record {
      read : OnlyRead k.stands k.is_clean k.leaves k.is_same l.fn.old l.old;
      live : k.is_clean l.old → k.is_live l.old → k.is_live l.fn.old;
      clean : n.is_clean l.new → n.is_clean l.fn.new;
      so_far : k.is_clean l.old → n.is_clean l.new → (s t : State) (d x : Driver) → k.stands l.fn.old s → driver_of l.driver s ≡ Some d
          → map told_file l.files ≡ listed_from 1 d.downloads → AreRead d.downloads → driver_of l.driver t ≡ Some x
          → IsAt (n.stands l.fn.new) (n.leaves l.fn.new) t
          → IsImportedUpTo l.driver l.start (drop l.file-index d.downloads) d x t (IsAt (n.stands l.new) (n.leaves l.new));
    }
