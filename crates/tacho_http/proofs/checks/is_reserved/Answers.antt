use Rattle.std.proofs.Common.{◌≡◌, ◌∙◌, bytes_eq, subst, true}
use Rattle.std.specs.Cmp.Lexicographic.{bytes_decides}
use Rattle.tacho_desk.specs.declared.task.Task.{Task}
use Rattle.tacho_sheet.proofs.ValueLemmas.{one_key}
use Rattle.tacho_http.specs.Serve.{IsReserved}
use Rattle.tacho_http.proofs.checks.is_reserved.Goals as goal

pub returns-in-Ok-clause-no : goal.returns-in-Ok-clause-no
returns-in-Ok-clause-no c other taken =
    let reserved = subst (λ (t : Task). IsReserved c.args.office_key.now t c.args.body.now) c.in-Key.is taken in
    let same : c.in-Ok.key.now ≡ c.args.office_key.now = one_key c.args.body.now c.in-Ok.key.now c.args.office_key.now c.in-Ok.ensures reserved in
    let yes : bytes_eq c.as_bytes.result.now c.args.office_key.now ≡ true = (bytes_decides c.as_bytes.result.now c.args.office_key.now).1 (c.as_bytes.ensures.value ∙ same) in
    cc
