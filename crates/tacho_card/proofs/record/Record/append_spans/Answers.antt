use Rattle.std.proofs.Common.{◌≡◌, ◌+◌, ◌-◌, sym, ap, ◌∙◌, arith}
use Rattle.tacho_card.specs.ActivityChangeInfo.{mark_of}
use Rattle.tacho_card.specs.DailyRecord.{DailyRecord, record_day}
use Rattle.tacho_card.specs.RawSpans.{word_past, closed_mark}
use Rattle.tacho_card.proofs.RawLemmas.{word_begins, day_ends, last_past, next_past, open_mark, inner_mark, closed_word, all_words, append_word, no_words}
use Rattle.tacho_card.proofs.record.Record.append_spans.Goals as goal
use Rattle.tacho_card.proofs.record.Record.append_spans.Goals.{then-is_last, else-is_last, then-is_newest+then-is_last-2, else-is_newest, else-is_newest-via-then-is_newest+else-is_last-2, else-is_newest-via-else-is_newest}

pub loop-i-init : goal.loop-i-init
loop-i-init c = record { next = c.word-word.ensures; same = all_words c.args.is_newest c.args.self.now c.args.spans.now.items }

pub loop-i-preserved : goal.loop-i-preserved
loop-i-preserved c =
    let r = c.args.self.now in
    let i = c.loop-i.i in
    let day : c.number-midnight.result ≡ record_day r.buffer r.place = c.number-midnight.ensures.value ∙ c.day.ensures in
    let counts = ap (λ (x : DailyRecord). x.count) c.self.view_is in
    let past : c.if-is_last.past ≡ word_past r i (r.count - (i + 1)) = elim c.if-is_last.branch [
      | then-is_last w ↦ last_past r i _ (w.if-is_last.true ∙ counts) (day_ends r _ _ day (w.past-is ∙ w.new-past.ensures))
      | else-is_last w ↦ next_past r i _ (omega arith) (λ e. w.if-is_last.false (e ∙ sym counts)) (word_begins r (i + 1) _ _ _ day c.word-next.ensures (w.past-is ∙ w.minute_from-past.ensures))
    ] in
    let mark : c.if-is_newest.mark ≡ closed_mark c.args.is_newest r i (r.count - (i + 1)) = elim c.if-is_newest.branch [
      | then-is_newest+then-is_last-2 w ↦ open_mark r i _ _ (w.if-is_last-2.true ∙ counts) w.if-is_newest.true w.mark-is
      | else-is_newest w ↦
          let own = w.mark-is ∙ w.mark-mark.ensures ∙ ap mark_of c.loop-i.invariant.next in
          elim w.else-is_newest.branch [
            | else-is_newest-via-then-is_newest+else-is_last-2 v ↦ inner_mark r i _ _ (omega arith) (λ e. v.if-is_last-2.false (e ∙ sym counts)) own
            | else-is_newest-via-else-is_newest v ↦ closed_word r i _ _ v.if-is_newest.false own
          ]
    ] in
    record {
      next = c.word-next.ensures;
      same = append_word c.args.is_newest r i c.loop-i.spans.items c.append_marked.new.spans.items _ c.minute_from.result c.if-is_last.past c.if-is_newest.mark (omega arith) (word_begins r i _ _ _ day c.loop-i.invariant.next c.minute_from.ensures) past mark c.in_ok-append_marked.ensures c.loop-i.invariant.same;
    }

pub returns : goal.returns
returns c =
    let counts = ap (λ (r : DailyRecord). r.count) c.self.view_is in
    no_words c.args.is_newest c.args.self.now c.loop-i.i c.loop-i.spans.items _ (omega arith) c.loop-i.invariant.same
