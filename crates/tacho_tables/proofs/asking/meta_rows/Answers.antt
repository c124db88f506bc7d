use Rattle.std.proofs.Common.{map}
use Rattle.tacho_tables.specs.Ask.{AreFirst, meta_shown}
use Rattle.tacho_tables.specs.Schema.{meta_rows}
use Rattle.tacho_tables.proofs.CallLemmas.{learns, plain_in}
use Rattle.tacho_tables.proofs.CurrentAskLemmas.{meta_is, asked_meta}
use Rattle.tacho_tables.proofs.asking.meta_rows.Goals as goal

pub returns : goal.returns
returns g c =
    learns (λ rows. rows.items) c.read.ensures (λ layout db rows. AreFirst 2 (map meta_shown (db meta_rows)) rows)
    (plain_in _ (λ layout. (meta_is layout).plain) _)
    (λ is rows shown. asked_meta is.layout _ _ rows is.schema shown)
