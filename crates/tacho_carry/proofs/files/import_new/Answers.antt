use Rattle.tacho_state.proofs.ContentLemmas.{some_content}
use Rattle.tacho_carry.proofs.files.import_new.Goals as goal

pub returns-in_err-import-clause-clean : goal.returns-in_err-import-clause-clean
returns-in_err-import-clause-clean g c =
    let it = some_content c.args.part c.args.file.now in
    (c.import.ensures.imported it.0 it.1).clean

pub returns-in-Added-clause-clean : goal.returns-in-Added-clause-clean
returns-in-Added-clause-clean g c =
    let it = some_content c.args.part c.args.file.now in
    (c.import.ensures.imported it.0 it.1).clean

pub returns-in-Repeated-clause-clean : goal.returns-in-Repeated-clause-clean
returns-in-Repeated-clause-clean g c =
    let it = some_content c.args.part c.args.file.now in
    (c.import.ensures.imported it.0 it.1).clean
