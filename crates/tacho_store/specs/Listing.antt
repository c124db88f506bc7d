-- Private to tacho_store: What is listed of a driver's card files.
use Rattle.std.specs.Prelude.{◌≡◌, ℕ, Some}
use Rattle.tacho_state.specs.Files.{listed_file, told_file}
use Rattle.tacho_state.specs.State.{Download, Driver, download_from}
use Rattle.tacho_state.specs.declared.file.FileSummary.{FileSummary}

-- this is listed of the driver's card file with this number
abbrev pub IsFileOf : Driver → ℕ → FileSummary → Type 0
IsFileOf d number it = (x : Download) × (download_from 1 number d.downloads ≡ Some x) × (told_file it ≡ listed_file number x)
