use Rattle.std.proofs.Common.{◌∙◌}
use Rattle.tacho_reading.proofs.FaultyLemmas.{faulty_rows}
use Rattle.tacho_reading.proofs.spans.line_of_stored.Goals as goal

pub returns-clause-cause : goal.returns-clause-cause
returns-clause-cause c =
    faulty_rows c.args.rows.now c.deref.result.now c.in-Err.fault c.fault_of_rows.result
    (c.deref.ensures.value ∙ c.in_ok-spans.ensures.spans) c.in-Err.ensures c.fault_of_rows.ensures.cause
