use Rattle.tacho_desk.proofs.OwnLemmas.{one_answer}
use Rattle.tacho_desk.proofs.laws.own_tasks_have_one_answer.Goals as goal

pub returns : goal.returns
returns c =
    one_answer c.one_content.ensures.one c.one_report.ensures c.one_text_of_a_month.ensures.gaps c.one_text_of_a_month.ensures.spans
    c.one_sheet_of_a_month.ensures c.one_list_of_stretches.ensures c.one_form.ensures
    c.one_chart_of_a_month.ensures c.one_why_of_a_month.ensures c.one_ahead_text.ensures.one
    c.one_ahead_text.ensures.in_time c.one_handover.ensures
