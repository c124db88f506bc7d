use Rattle.std.proofs.Common.{map, string_bytes}
use Rattle.tacho_state.specs.State.{State}
use Rattle.tacho_state.specs.Summaries.{AreSummaries, told_summary}
use Rattle.tacho_sheet.specs.Months.{incident_head}
use Rattle.tacho_desk.proofs.AllLemmas.{AreIncidentsOf, IsSoFar}
use Rattle.tacho_state.specs.Acts.{OnlyRead}
use Rattle.tacho_desk.proofs.all.incidents.Given as goal

-- the archive was only read, and the text so far is the rows of the drivers so far
abbrev pub invariant-loop-driver : goal.invariant-loop-driver
invariant-loop-driver g l =
    let k = g.K.Keeper in
    record {
      read : OnlyRead k.stands k.is_clean k.leaves k.is_same l.fn.keeper l.keeper;
      live : k.is_clean l.keeper → k.is_live l.keeper;
      listed : k.is_clean l.keeper → (s : State) → k.stands l.fn.keeper s → AreSummaries s (map told_summary l.driver-items);
      rows : k.is_clean l.keeper → (s : State) → k.stands l.fn.keeper s
          → IsSoFar incident_head (AreIncidentsOf l.month) l.driver-items l.driver-index (string_bytes l.text) s;
    }
