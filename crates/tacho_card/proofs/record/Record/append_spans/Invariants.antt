use Rattle.std.proofs.Common.{◌≡◌, ◌-◌, ◌++◌}
use Rattle.tacho_card.specs.DailyRecord.{word_at}
use Rattle.tacho_card.specs.RawSpans.{words_spans, record_spans}
use Rattle.tacho_card.proofs.record.Record.append_spans.Given as goal

-- the spans so far, followed by those of the remaining words, are those of all words
abbrev pub invariant-loop-i : goal.invariant-loop-i
invariant-loop-i l =
    record {
      next : l.word ≡ word_at l.self.buffer l.self.place l.i;
      same : l.spans.items ++ words_spans l.is_newest l.self l.i (l.self.count - l.i) ≡ l.fn.spans.items ++ record_spans l.is_newest l.self;
    }
