use Rattle.std.proofs.Common.{◌≡◌, ◌*◌, ◌≤◌, length}
use Rattle.tests_libraries.proofs.Laying.{IsLaid}
use Rattle.tests_libraries.proofs.passes.driven.Given as goal

abbrev pub invariant-loop-end : goal.invariant-loop-end
invariant-loop-end l = record {
  place : l.midnight ≡ 1440 * l.end-index;
  within : l.end-index ≤ length l.ends;
  before : l.at ≤ l.midnight;
  laid : IsLaid l.spans.items l.at;
}
