use Rattle.std.proofs.Common.{◌≡◌, None, Some, inl, refl}
use Rattle.tacho_desk.specs.Words.{part_of}
use Rattle.tacho_cli.specs.Card.{no_part_reply}
use Rattle.tacho_cli.proofs.CommandLemmas.{any_input, unread_leaves, valid}
use Rattle.tacho_cli.proofs.commands.card.Goals as goal

pub returns-in_default-clause-told : goal.returns-in_default-clause-told
returns-in_default-clause-told g c =
    let none : part_of c.args.part.now ≡ None = cc in
    let i = any_input (g.R.Source.unread c.args.reader.now) in
    rw none (valid i.input no_part_reply (λ e. let sound = c.requires.reader in cc) i.told (inl refl) c.tell_fault.ensures)

pub returns-in-Err-clause-told : goal.returns-in-Err-clause-told
returns-in-Err-clause-told g c =
    let some : part_of c.args.part.now ≡ Some c.in-Some.part = cc in
    rw some (unread_leaves 262144 c.in-Err.fault _ (λ input large. inl (large, refl)) c.in-Err.ensures.large c.in-Err.ensures.failed
    c.from.ensures c.tell_fault-in-Err.ensures)
