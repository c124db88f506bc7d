use Rattle.std.proofs.Common.{◌≡◌, ◌-◌}
use Rattle.tacho_card.specs.DailyRecord.{words_fault}
use Rattle.tacho_card.proofs.record.fault_of_words.Given as goal

-- the fault of the remaining words is the fault of all words
abbrev pub invariant-loop-i : goal.invariant-loop-i
invariant-loop-i l = words_fault l.buffer l.place l.before l.i (l.count - l.i) ≡ words_fault l.buffer l.place 0 0 l.count
