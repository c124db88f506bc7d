use Rattle.std.proofs.lemmas.Result.{IfOk-weaker}
use Rattle.tacho_check.proofs.FileLemmas.{reading_is}
use Rattle.tacho_check.proofs.files.reading.Goals as goal

pub returns : goal.returns
returns c = IfOk-weaker c.content.result _ _
    (λ found told. reading_is c.args.holder.now c.args.row.now c.in-Some.part c.deref.result.now
    c.in-Some.ensures.some c.deref.ensures.value found told)
    c.content.ensures
