use Rattle.std.proofs.Common.{◌≤◌, [], map}
use Rattle.tacho_state.specs.Acts.{OnlyRead}
use Rattle.tacho_state.specs.State.{State}
use Rattle.tacho_state.specs.Summaries.{AreSummaries, told_summary}
use Rattle.tacho_carry.specs.Carrying.{IsAt, IsRead}
use Rattle.tacho_carry.proofs.EachLemmas.{IsCarriedUpTo}
use Rattle.tacho_carry.proofs.archive.carry_each.Given as goal

-- the old archive was only read, and the new one has the drivers so far who are carried
abbrev pub invariant-loop-driver : goal.invariant-loop-driver
invariant-loop-driver g l =
    let k = g.K.Keeper in
    let n = g.L.Keeper in
    record {
      read : OnlyRead k.stands k.is_clean k.leaves k.is_same l.fn.old l.old;
      live : k.is_clean l.old → k.is_live l.old → k.is_live l.fn.old;
      clean : n.is_clean l.new → n.is_clean l.fn.new;
      counted : l.carried ≤ l.driver-index;
      listed : k.is_clean l.old → (s : State) → k.stands l.fn.old s → AreSummaries s (map told_summary l.driver-items);
      so_far : k.is_clean l.old → n.is_clean l.new → (s : State) → k.stands l.fn.old s → IsRead s
          → IsAt (n.stands l.fn.new) (n.leaves l.fn.new) []
          → IsCarriedUpTo l.from s l.driver-items l.driver-index l.carried (IsAt (n.stands l.new) (n.leaves l.new));
    }
