use Rattle.std.proofs.Common.{inl, refl}
use Rattle.tacho_cli.proofs.CommandLemmas.{unread_leaves}
use Rattle.tacho_cli.proofs.commands.holder.Goals as goal

pub returns-in-Err : goal.returns-in-Err
returns-in-Err g c =
    unread_leaves 262144 c.in-Err.fault _ (λ input large. inl (large, refl)) c.in-Err.ensures.large c.in-Err.ensures.failed
    c.from.ensures c.tell_fault.ensures
