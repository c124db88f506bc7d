use Rattle.std.proofs.Common.{rules, ◌≡◌, None}
use Rattle.tacho_ahead.proofs.UsedLemmas.{rest_never, rest_from}
use Rattle.tacho_ahead.proofs.used.rest_since.Goals as goal

pub returns-in_err-last : goal.returns-in_err-last
returns-in_err-last c base past j =
    let none : c.from_residual.result ≡ None = search rules in
    rw none (rest_never c.args.spans.now (search rules))

pub returns : goal.returns
returns c base past j =
    rest_from c.args.spans.now c.in_ok-last.last c.index-spans-last.result (search rules) (search rules) (search rules) base past j
