use Rattle.tacho_check.proofs.FileLemmas.{refused_is, own_is}
use Rattle.tacho_check.proofs.files.content.Goals as goal

pub returns-in-Err : goal.returns-in-Err
returns-in-Err c =
    refused_is c.args.holder.now c.args.part c.args.file.now c.in-Err.fault c.refused.result c.in-Err.ensures.told c.refused.ensures

pub returns-in-Ok : goal.returns-in-Ok
returns-in-Ok c =
    own_is c.args.holder.now c.args.part c.args.file.now c.in-Ok.content c.own_spans.result c.in-Ok.ensures.told c.own_spans.ensures
