use Rattle.std.proofs.Common.{Err, inl, inr, refl, rules}
use Rattle.tacho_cli.proofs.CommandLemmas.{unread_leaves, valid}
use Rattle.tacho_cli.proofs.commands.dump.Goals as goal

pub returns-in-Err : goal.returns-in-Err
returns-in-Err g c =
    unread_leaves 65535 c.in-Err.fault _ (λ input large. inl (large, refl)) c.in-Err.ensures.large c.in-Err.ensures.failed
    c.from.ensures c.tell_fault.ensures

pub returns : goal.returns
returns g c = elim (rw c.deref.ensures.value at c.in-Err-dump_text.ensures) [
  | inl reads ↦
      valid c.in-Ok.input.items _ (λ e. let no = c.in-Ok.ensures.failed.1 e in cc) c.in-Ok.ensures.whole
      (inl (inr (c.in-Ok.ensures.within, (Err _, reads, refl))))
      (rw c.from-in-Err-dump_text.ensures at c.tell_fault-in-Err-dump_text.ensures)
  | inr memory ↦ search rules
]
