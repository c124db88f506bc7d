use Rattle.tacho_evidence.proofs.MergeLemmas.{Merging}
use Rattle.tacho_evidence.proofs.breaks.append_by_time.Given as goal

abbrev pub invariant-loop-drive : goal.invariant-loop-drive
invariant-loop-drive l = Merging l.initial.lines.items l.drives l.rests l.drive-index l.rested l.lines.items
