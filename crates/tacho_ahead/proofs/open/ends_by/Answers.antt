use Rattle.std.proofs.Common.{rules, ◌≤◌, ◌↔◌}
use Rattle.std.specs.Prelude.{IsTrue}
use Rattle.std.specs.List.{All}
use Rattle.tacho_ahead.proofs.PlanLemmas.{none_from, all_by}
use Rattle.tacho_ahead.proofs.open.ends_by.Goals as goal

pub returns : goal.returns
returns c =
    let each : IsTrue c.all.result ↔ All (λ span. span.past ≤ c.args.minute) c.args.line.now = search rules in (
      λ t m l. none_from c.args.line.now c.args.minute m (each.0 t) l,
      λ none. each.1 (all_by c.args.line.now c.args.minute c.spans.ensures.canonical none),
    )
