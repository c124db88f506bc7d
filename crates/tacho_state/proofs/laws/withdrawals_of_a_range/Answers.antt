use Rattle.tacho_state.proofs.RangeLemmas.{range_one, range_refused, range_done}
use Rattle.tacho_state.proofs.laws.withdrawals_of_a_range.Goals as goal

pub returns : goal.returns
returns c = record {
  one = range_one;
  least = range_refused;
  done = λ n first last s d is low each. range_done n first last s d is each low;
}
