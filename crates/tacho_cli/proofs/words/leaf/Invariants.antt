use Rattle.std.proofs.Common.{◌≡◌, false, map, drop}
use Rattle.clap.specs.Words.{app_of, new_app}
use Rattle.clap.specs.declared.builder.command.Command.TheViews.{out-Command}
use Rattle.tacho_desk.specs.Commands.{name_of}
use Rattle.tacho_cli.specs.Words.{with_words}
use Rattle.tacho_cli.proofs.words.leaf.Given as goal

abbrev pub invariant-loop-argument : goal.invariant-loop-argument
invariant-loop-argument l =
    (with_words (app_of l.command) (map name_of (drop l.argument-index l.arguments)) ≡ with_words (new_app l.fn.name) (map name_of l.arguments))
    × ((out-Command l.command).has_globals ≡ false)
