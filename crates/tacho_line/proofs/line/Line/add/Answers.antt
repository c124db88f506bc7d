use Rattle.std.proofs.Common.{OnOk, List, subst}
use Rattle.tacho_time.specs.declared.span.Span.{Span}
use Rattle.tacho_time.specs.Spans.{SamePairs}
use Rattle.tacho_line.specs.Line.{Holds, Together}
use Rattle.tacho_line.proofs.line.Line.add.Goals as goal

pub returns-clause-held : goal.returns-clause-held
returns-clause-held c =
    subst (λ (x : List Span). OnOk c.add_to.result (SamePairs (Holds c.add_to.new.line.items) (Together x c.args.spans.now))) c.self.view_is c.add_to.ensures.held
