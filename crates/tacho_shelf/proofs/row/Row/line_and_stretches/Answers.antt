use Rattle.std.proofs.Common.{◌∙◌, ◌*◌, ap, map}
use Rattle.tacho_stretches.specs.Stretches.{judged_of}
use Rattle.tacho_stretches.proofs.MarkLemmas.{by_marks}
use Rattle.tacho_state.specs.State.{Driver, held_spans}
use Rattle.tacho_shelf.proofs.RowLemmas.{same_mark}
use Rattle.tacho_shelf.proofs.row.Row.line_and_stretches.Goals as goal

pub returns-clause-stretches : goal.returns-clause-stretches
returns-clause-stretches c =
    let d = c.args.self.now in
    let base = c.number.ensures.value ∙ ap (λ (x : Driver). x.base) c.self.view_is in
    by_marks c.in_ok-line.line (held_spans d) (1440 * d.base) (map judged_of c.in_ok-stretches.stretches.items)
    (rw base at c.in_ok-stretches.ensures.stretches) (λ m from. same_mark c.in_ok-line.line d c.in_ok-line.ensures.marks m)
