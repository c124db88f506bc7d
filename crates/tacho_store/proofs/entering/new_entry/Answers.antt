use Rattle.std.proofs.Common.{◌∙◌, ap}
use Rattle.tacho_reading.specs.Standing.{span_row}
use Rattle.tacho_store.proofs.EnteringLemmas.{line_entered}
use Rattle.tacho_store.proofs.entering.new_entry.Goals as goal

pub returns : goal.returns
returns c n =
    let is = line_entered n c.args.number c.args.line.now c.stored_row.result
    (c.stored_row.ensures n ∙ ap (span_row n) c.span_of_line.ensures) in
    rw (c.author.ensures, c.note.ensures) is
