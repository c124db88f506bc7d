use Rattle.std.proofs.Common.{Ok, arith, rules}
use Rattle.tacho_state.specs.Content.{FileTells}
use Rattle.tacho_state.proofs.ContentLemmas.{some_content}
use Rattle.tacho_desk.specs.Tasks.{imported_told}
use Rattle.tacho_desk.specs.Told.{told_text}
use Rattle.tacho_desk.proofs.ServeLemmas.{import_asks, import_of_file, read_as, refused}
use Rattle.tacho_desk.proofs.commands.import.Goals as goal

pub returns-in_err-imported-clause-serves : goal.returns-in_err-imported-clause-serves
returns-in_err-imported-clause-serves g c =
    let content = some_content c.args.part c.args.input.now in
    let err = c.in_err-imported.ensures in
    read_as content.0 content.1
    (refused _ _ c.from_residual.ensures.1 (λ s g e. grind arith)
    (import_of_file (FileTells c.args.part c.args.input.now) err.unreadable err.readable) (err.imported content.0 content.1))

pub returns-in_err-imported-clause-asks : goal.returns-in_err-imported-clause-asks
returns-in_err-imported-clause-asks g c =
    let content = some_content c.args.part c.args.input.now in
    let err = c.in_err-imported.ensures in
    import_asks (FileTells c.args.part c.args.input.now) err.unreadable err.readable imported_told _ content.0 content.1 (search rules)

pub returns-clause-serves : goal.returns-clause-serves
returns-clause-serves g c =
    let content = some_content c.args.part c.args.input.now in
    let acts = c.in_ok-imported.ensures.imported content.0 content.1 in
    read_as content.0 content.1 (search rules)

pub returns-clause-asks : goal.returns-clause-asks
returns-clause-asks g c =
    let content = some_content c.args.part c.args.input.now in
    let ok = c.in_ok-imported.ensures in
    import_asks (FileTells c.args.part c.args.input.now) ok.unreadable ok.readable imported_told (Ok (told_text c.imported_text.result))
    content.0 content.1 (search rules)
