-- Private to tacho_rests: A few debts and a few rests, from the slots that are used.
use Rattle.std.specs.Prelude.{List, take}
use Rattle.tacho_law.specs.declared.run.Run.{Run}
use Rattle.tacho_law.specs.declared.debt.Debt.{Debt}
use Rattle.tacho_rests.specs.declared.few.Debts.{Debts}
use Rattle.tacho_rests.specs.declared.few.Rests.{Rests}

-- the debts, by week
abbrev pub debts_in : Debts → List Debt
debts_in debts = take debts.count debts.slots

-- the rests, in order of time
abbrev pub rests_in : Rests → List Run
rests_in rests = take rests.count rests.slots
