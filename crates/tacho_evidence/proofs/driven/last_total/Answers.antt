use Rattle.std.proofs.Common.{rules, ◌≡◌, ◌-◌, List, length, get_or, sym, ◌∙◌}
use Rattle.tacho_evidence.specs.declared.driven.DrivenSpan.{DrivenSpan}
use Rattle.tacho_evidence.proofs.TotalsLemmas.{no_span, total_at_last}
use Rattle.tacho_evidence.proofs.driven.last_total.Goals as goal

pub returns : goal.returns
returns c =
    let xs : List DrivenSpan = c.args.driven.now in
    let e : c.map_or.result ≡ (get_or xs (length xs - 1) no_span).total = search rules in
    e ∙ sym (total_at_last xs)
