use Rattle.std.proofs.Common.{◌∙◌, ap, map, sym, refl, arith}
use Rattle.std.proofs.lemmas.List.{at_drop_all, at_drop_more}
use Rattle.clap.specs.Words.{app_of, with_rule}
use Rattle.tacho_desk.specs.Commands.{name_of}
use Rattle.tacho_cli.specs.Words.{with_words, word_rule}
use Rattle.tacho_cli.proofs.words.leaf.Goals as goal

pub loop-argument-preserved : goal.loop-argument-preserved
unfolding with_words
loop-argument-preserved c =
    let before = app_of c.loop-argument.command in
    let rule = c.word.ensures.rule ∙ ap word_rule c.name-id.ensures in
    let app = c.in_ok-command.ensures.shape c.word.ensures.global ∙ ap (with_rule before) rule in (
      rw app (sym (at_drop_more (λ given. with_words before (map name_of given)) c.args.arguments.now c.loop-argument.argument-index _
          c.loop-argument-test.true) ∙ c.loop-argument.invariant.0),
      rw (c.in_ok-command.ensures.globals, c.loop-argument.invariant.1, c.word.ensures.global) refl,
    )

pub returns-clause-app : goal.returns-clause-app
unfolding with_words
returns-clause-app c =
    sym (at_drop_all (λ given. with_words (app_of c.loop-argument.command) (map name_of given)) c.args.arguments.now
    c.loop-argument.argument-index (omega arith)) ∙ c.loop-argument.invariant.0
