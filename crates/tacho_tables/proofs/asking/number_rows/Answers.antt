use Rattle.tacho_tables.specs.Ask.{Show, number_shown}
use Rattle.tacho_tables.specs.Readable.{IsReadable}
use Rattle.tacho_tables.specs.Schema.{driver_rows}
use Rattle.tacho_tables.proofs.CallLemmas.{learns, plain_in}
use Rattle.tacho_tables.proofs.AskLemmas.{numbers_are, asked_numbers}
use Rattle.tacho_tables.proofs.asking.number_rows.Goals as goal

pub returns : goal.returns
returns g c =
    learns (λ rows. rows.items) c.read.ensures (λ layout db rows. IsReadable layout db → Show number_shown (db driver_rows) rows)
    (plain_in _ (λ layout. (numbers_are layout).plain) _)
    (λ is rows shown it. asked_numbers is.layout _ _ rows is.schema shown)
