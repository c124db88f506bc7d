use Rattle.tacho_sheet.proofs.OneLemmas.{one_gap_text, one_span_csv}
use Rattle.tacho_sheet.proofs.laws.one_text_of_a_month.Goals as goal

pub returns-clause-gaps : goal.returns-clause-gaps
returns-clause-gaps c = one_gap_text c.one_list_of_gaps.ensures

pub returns-clause-spans : goal.returns-clause-spans
returns-clause-spans c = one_span_csv c.one_canonical_list.ensures
