use Rattle.std.proofs.Common.{◌∙◌, ap, map, sym, arith}
use Rattle.std.proofs.lemmas.List.{at_drop_all, at_drop_more}
use Rattle.clap.specs.Words.{App, app_of, with_subcommand}
use Rattle.tacho_desk.specs.Commands.{row_of}
use Rattle.tacho_cli.specs.Words.{with_table}
use Rattle.tacho_cli.proofs.words.command_of.Goals as goal

pub loop-row-preserved : goal.loop-row-preserved
unfolding with_table
loop-row-preserved c =
    let before = app_of c.loop-row.command in
    let app = c.in_ok-command.ensures.shape c.in_ok-leaf.ensures.local
    ∙ ap (λ (a : App). with_subcommand before a.top) c.in_ok-leaf.ensures.app in
    rw app (sym (at_drop_more (λ rows. with_table before (map row_of rows)) c.args.table.now c.loop-row.row-index _ c.loop-row-test.true)
    ∙ c.loop-row.invariant)

pub returns : goal.returns
unfolding with_table
returns c =
    sym (at_drop_all (λ rows. with_table (app_of c.loop-row.command) (map row_of rows)) c.args.table.now c.loop-row.row-index (omega arith))
    ∙ c.loop-row.invariant
