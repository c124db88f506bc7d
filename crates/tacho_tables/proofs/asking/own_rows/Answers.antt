use Rattle.std.proofs.Common.{to_z-of_z}
use Rattle.tacho_tables.specs.Ask.{Show, own_in, shown_of}
use Rattle.tacho_tables.specs.Readable.{IsReadable}
use Rattle.tacho_tables.proofs.CallLemmas.{learns, plain_in}
use Rattle.tacho_tables.proofs.AskLemmas.{own_is_read, asked_own}
use Rattle.tacho_tables.proofs.asking.own_rows.Goals as goal

pub returns : goal.returns
returns g c =
    let table = c.args.table in
    learns (λ rows. rows.items) (rw (c.text_of.ensures, c.params-to_sql.ensures, to_z-of_z c.ranges.driver) at c.read.ensures)
    (λ layout db rows. IsReadable layout db → Show (shown_of table) (own_in layout db c.args.driver table) rows)
    (plain_in _ (λ layout. (own_is_read table layout).plain) _)
    (λ is rows shown. asked_own is.layout c.args.driver table _ _ rows is.schema shown)
