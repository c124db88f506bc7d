use Rattle.std.proofs.Common.{ℕ, List}
use Rattle.std.proofs.lemmas.Result.{on_ok_weaker}
use Rattle.tacho_time.specs.declared.span.Span.{Span}
use Rattle.tacho_law.specs.Line.{line_of, IsExamined}
use Rattle.tacho_rules.specs.Scan.{AreGathered, IsScanOf}
use Rattle.tacho_ahead.proofs.EndedLemmas.{all_found}
use Rattle.tacho_ahead.proofs.plan.end_at.Goals as goal

pub returns-clause-all : goal.returns-clause-all
returns-clause-all c =
    let new = c.end.new.found in
    on_ok_weaker c.end.result (λ (finds : (b : ℕ) (spans : List Span) → IsScanOf c.args.scan c.args.found.now b spans
    → IsExamined spans b c.args.minute → AreGathered (line_of spans) b c.args.minute new.breaches.items new.debts.items) plan base is ends.
    all_found c.args.scan c.args.found.now plan base c.args.minute is ends c.requires.within new finds) c.end.ensures.gathered
