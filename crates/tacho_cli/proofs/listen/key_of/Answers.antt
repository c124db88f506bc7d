use Rattle.std.proofs.Common.{inl, inr}
use Rattle.std.proofs.lemmas.Result.{err_from_is_err_and}
use Rattle.tacho_cli.proofs.listen.key_of.Goals as goal

pub returns-in_err-key : goal.returns-in_err-key
returns-in_err-key g c =
    let p = err_from_is_err_and c.from_residual-in_err-key.result c.from_residual-in_err-key.ensures.1 in
    let is = rw c.deref.ensures.value at c.in_err-key.ensures in
    rw p.1 (inr (inl (c.in_ok-input.input.items, c.in_ok-input.ensures, (c.in_err-key.field-0.0, is, p.2))))
