use Rattle.std.proofs.Common.{◌≡◌, map, drop}
use Rattle.std.specs.Prelude.{codes}
use Rattle.clap.specs.Words.{app_of, new_app}
use Rattle.tacho_desk.specs.Commands.{row_of}
use Rattle.tacho_cli.specs.Words.{needs_subcommand, with_table}
use Rattle.tacho_cli.proofs.words.command_of.Given as goal

abbrev pub invariant-loop-row : goal.invariant-loop-row
invariant-loop-row l =
    with_table (app_of l.command) (map row_of (drop l.row-index l.table))
    ≡ with_table (needs_subcommand (new_app (codes "tacho"))) (map row_of l.table)
