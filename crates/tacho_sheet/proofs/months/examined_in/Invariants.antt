use Rattle.std.proofs.Common.{◌+◌, ◌≤◌, ℕ, drop, map}
use Rattle.tacho_stretches.specs.Stretches.{judged_of}
use Rattle.tacho_stretches.specs.Ranges.{parts, FollowOn}
use Rattle.tacho_sheet.proofs.MonthLemmas.{IsCounted}
use Rattle.tacho_sheet.proofs.months.examined_in.Given as goal

-- the count is that of the examined minutes before `from`, and at most the number of all minutes before `from`
abbrev pub invariant-loop-stretch : goal.invariant-loop-stretch
invariant-loop-stretch l = record {
  few : l.fn.start + l.examined ≤ l.from;
  early : l.from ≤ l.past;
  counted : (base end : ℕ) → FollowOn (parts (map judged_of l.stretches)) base end
      → IsCounted (map judged_of l.stretches) (map judged_of (drop l.stretch-index l.stretches)) l.fn.start l.from l.past l.examined end;
}
