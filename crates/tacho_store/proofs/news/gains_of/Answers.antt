use Rattle.tacho_store.proofs.NewsLemmas.{fault_is}
use Rattle.tacho_store.proofs.news.gains_of.Goals as goal

pub returns-in-Err : goal.returns-in-Err
returns-in-Err c =
    fault_is c.args.line.now c.args.spans.now c.in-Err.fault c.fault_of_line.result c.requires c.fault_of_line.ensures.contradiction c.fault_of_line.ensures.memory c.in-Err.ensures
