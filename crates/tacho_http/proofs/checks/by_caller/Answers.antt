use Rattle.std.proofs.Common.{sym, inl, inr, refl}
use Rattle.tacho_http.specs.Asked.{asker_of}
use Rattle.tacho_http.proofs.AccessLemmas.{commands_are_posted}
use Rattle.tacho_http.proofs.RespondLemmas.{length_refused, nothing, some_left, wish_refused}
use Rattle.tacho_http.proofs.checks.by_caller.Goals as goal

pub returns-in_default-clause-responds : goal.returns-in_default-clause-responds
returns-in_default-clause-responds g c h is = nothing g.K.Keeper.same_self (some_left _) c.fixed.ensures refl (λ s. inr refl)

pub returns-in-Err-clause-responds : goal.returns-in-Err-clause-responds
returns-in-Err-clause-responds g c h is =
    let found = rw (c.read-method.ensures, is.method, is.path) at (sym c.in-Err.ensures) in
    rw found (nothing g.K.Keeper.same_self (some_left _) c.fixed-in-Err.ensures (wish_refused _ _ _ _ _ c.in-Err.ensures)
    (λ s. inl (refl, refl)))

pub returns-in-Err-body_length_of-clause-responds : goal.returns-in-Err-body_length_of-clause-responds
returns-in-Err-body_length_of-clause-responds g c h is =
    let found = rw (c.read-method.ensures, is.method, is.path) at (sym c.in-Ok.ensures) in
    let long = rw (c.read-method.ensures, c.takes_input-takes.ensures, is.method, is.fields) at (sym c.in-Err-body_length_of.ensures) in
    rw (found, long) (nothing g.K.Keeper.same_self (some_left _) c.fixed-in-Err-body_length_of.ensures
    (length_refused c.read-method.result c.takes_input-takes.result _ _ c.in-Err-body_length_of.ensures) (λ s. inl (refl, refl)))

pub returns-in-Ok-body_length_of-clause-responds : goal.returns-in-Ok-body_length_of-clause-responds
returns-in-Ok-body_length_of-clause-responds g c h is =
    let found = rw (c.read-method.ensures, is.method, is.path) at (sym c.in-Ok.ensures) in
    let long = rw (c.read-method.ensures, c.takes_input-takes.ensures, is.method, is.fields) at (sym c.in-Ok-body_length_of.ensures) in
    rw (← commands_are_posted (asker_of c.args.caller) h.method h.target _ found, found, long) c.run_task.ensures.responds

pub returns-in-Ok-body_length_of-clause-lacks : goal.returns-in-Ok-body_length_of-clause-lacks
returns-in-Ok-body_length_of-clause-lacks g c h key is has err =
    let found = rw (c.read-method.ensures, is.method, is.path) at (sym c.in-Ok.ensures) in
    let long = rw (c.read-method.ensures, c.takes_input-takes.ensures, is.method, is.fields) at (sym c.in-Ok-body_length_of.ensures) in
    let l = c.run_task.ensures.lacks err in
    search
