use Rattle.std.proofs.Common.{rules}
use Rattle.tacho_reading.proofs.TellLemmas.{tells_as, tells_rows}
use Rattle.tacho_store.proofs.ListingLemmas.{file_listed}
use Rattle.tacho_store.proofs.files.file_in.Goals as goal

pub returns-clause-told : goal.returns-clause-told
returns-clause-told g c = tells_as (tells_rows c.file.ensures c.in_ok-found.ensures.cases) (search rules) (λ db s stands read d is.
    file_listed db s c.args.driver c.args.number d c.in-Some.stored c.summary_of.result stands is (rw c.in-Some.is at read)
    c.summary_of.ensures.summary)
