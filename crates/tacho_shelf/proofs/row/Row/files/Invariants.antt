use Rattle.std.proofs.Common.{◌≡◌, ◌+◌, ◌≤◌, ◌++◌, drop, length, map}
use Rattle.tacho_state.specs.Files.{listed_from, told_file}
use Rattle.tacho_shelf.proofs.row.Row.files.Given as goal

-- the files listed so far, followed by those of the remaining downloads; and the number of the next file
abbrev pub invariant-loop-download : goal.invariant-loop-download
invariant-loop-download l =
    (map told_file l.files.items ++ listed_from l.number (drop l.download-index l.download-items) ≡ listed_from 1 l.self.downloads)
    × (l.number ≡ l.download-index + 1) × (length l.download-items ≤ 1000000)
