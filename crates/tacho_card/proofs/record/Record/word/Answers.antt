use Rattle.std.proofs.Common.{◌∙◌, ap, ℕ, ◌+◌, ◌*◌}
use Rattle.tacho_card.specs.DailyRecord.{DailyRecord, word_at}
use Rattle.tacho_card.specs.DriverActivity.{number_at}
use Rattle.tacho_card.proofs.WrapLemmas.{word_at_reduced}
use Rattle.tacho_card.proofs.record.Record.word.Goals as goal

pub returns : goal.returns
returns c =
    let is = c.self.inside in
    c.of.ensures ∙ c.number_in.ensures
    ∙ ap (λ (i : ℕ). number_at is.buffer.now (is.place + 12 + 2 * i)) c.place_in-i.ensures.value
    ∙ word_at_reduced is.buffer.now is.place c.args.i ∙ ap (λ (r : DailyRecord). word_at r.buffer r.place c.args.i) c.self.view_is
