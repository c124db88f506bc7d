use Rattle.tacho_reading.proofs.DownloadLemmas.{download_none, download_some}
use Rattle.tacho_reading.proofs.laws.downloads_are_found.Goals as goal

pub returns : goal.returns
returns c = record { none = download_none; some = download_some }
