use Rattle.tacho_desk.specs.Told.{answer_of}
use Rattle.tacho_jobs.proofs.done.do_task.Goals as goal

pub returns-clause-done : goal.returns-clause-done
returns-clause-done g c = record {
  answer = answer_of c.answer_at_desk-answer.result;
  mid = c.answer_at_desk-answer.new.keeper;
  performed = c.answer_at_desk-answer.ensures.performed;
  ends = record { told = c.end-ended.ensures.told; fault = c.end-ended.ensures.fault };
  looked = record { read = c.has_short_key-is_short.ensures.read; short = c.has_short_key-is_short.ensures.short };
}
