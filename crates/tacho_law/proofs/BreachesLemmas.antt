-- There is one list of the breaches of each group (specs/Breaches).
use Rattle.std.proofs.Common.{◌≡◌, List, ◌<◌, subst}
use Rattle.std.specs.List.{All}
use Rattle.tacho_law.specs.declared.run.Run.{Run}
use Rattle.tacho_law.specs.declared.breach.Breach.{Breach}
use Rattle.tacho_law.specs.Breaks.{AreCompleteBreaks}
use Rattle.tacho_law.specs.Line.{Line}
use Rattle.tacho_law.specs.Order.{AreBreaches}
use Rattle.tacho_law.specs.Breaches.{IsBreakBreach, AreBreakBreaches}
use Rattle.tacho_law.proofs.BreaksLemmas.{one_complete_breaks}
use Rattle.tacho_law.proofs.OrderLemmas.{one_breaches}
use Rattle.tacho_law.proofs.RunsLemmas.{one_rest_runs, rest_runs_are}

-- there is one list of the breaches of the rule on breaks
pub one_break_breaches : (line : Line) (found others : List Breach)
    → AreBreakBreaches line found → AreBreakBreaches line others → found ≡ others
one_break_breaches line found others a b =
    let runs : a.runs ≡ b.runs = one_rest_runs line a.runs b.runs a.are_runs b.are_runs in
    let some : All (λ (run : Run). run.start < run.past) b.runs = (rest_runs_are line b.runs b.are_runs).some in
    let breaks : a.breaks ≡ b.breaks =
    one_complete_breaks b.runs a.breaks b.breaks some
    (subst (λ (x : List Run). AreCompleteBreaks x a.breaks) runs a.are_breaks) b.are_breaks in
    one_breaches (λ breach. IsBreakBreach line b.breaks breach.kind breach) found others
    (subst (λ (x : List Run). AreBreaches (λ breach. IsBreakBreach line x breach.kind breach) found)
    breaks a.exactly)
    b.exactly
