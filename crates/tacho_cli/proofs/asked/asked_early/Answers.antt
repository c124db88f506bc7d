use Rattle.std.proofs.Common.{◌∙◌, sym}
use Rattle.std.proofs.lemmas.List.{take_rest}
use Rattle.std.specs.Prelude.{string_bytes}
use Rattle.tacho_cli.proofs.AskedLemmas.{more_early}
use Rattle.tacho_cli.proofs.asked.asked_early.Goals as goal

pub returns-in-len3-up : goal.returns-in-len3-up
returns-in-len3-up c =
    (rw (c.deref-in-len3-up.ensures, c.deref-in-len3-up-2.ensures, take_rest c.args.words.now 3) at c.asked_with.ensures)
    ∙ sym (more_early string_bytes c.args.words.now _ _ c.in-len3-up.len_at_least c.word-item-2.is c.next-item.is)
