-- Trusted in part: What a check of all drivers finds.
use Rattle.std.specs.Prelude.{◌≡◌, ℤ, List, Option, None, Some, Result, IfOk, OnOk, IsTrue}
use Rattle.std.specs.List.{AllByRecursion}
use Rattle.sqlite.specs.Held.{Held as Connection, state}
use Rattle.sqlite.specs.State.{HasCleanDisk, Survives}
use Rattle.sqlite.specs.Store.{Ghosts}
use Rattle.sqlite.specs.Tree.{Trees}
use Rattle.tacho_state.specs.declared.fault.StoreFault.{StoreFault}
use Rattle.tacho_state.specs.State.{State}
use Rattle.tacho_state.specs.Within.{AreWithinLimits}
use Rattle.tacho_tables.specs.Schema.{Layout}
use Rattle.tacho_tables.specs.Tables.{IsArchive}
use Rattle.tacho_tables.specs.declared.table.TableName.TheVariants.{Held}
use Rattle.tacho_reading.specs.Standing.{Represents}
use Rattle.tacho_check.specs.declared.table.Unsound.{Unsound}
use Rattle.tacho_check.specs.Check.{IsSoundAt, IsFirstUnsound}

-- the rows of each of these drivers are sound
abbrev pub AreSoundIn : Layout → Trees → List ℤ → Type 0
AreSoundIn layout db numbers = AllByRecursion (λ m. IsSoundAt layout db m Held) numbers

-- the rows represent a state within its limits, or these are the first that no such state has
abbrev pub IsChecked : Layout → Trees → Option Unsound → Type 0
IsChecked layout db None = (s : State) × Represents db s × AreWithinLimits s
IsChecked layout db (Some u) = IsFirstUnsound db u

-- A question to an archive, outside a transaction, whose answer is a fact of the stored rows. It changes nothing: the connection sees the
-- same rows, and a crash leaves what it would have left before the call.
pub record Checks {S : Type 0} (g : Ghosts S) (old new : Connection S) {A : Type 0} (result : Result A StoreFault)
    (fact : Layout → Trees → A → Type 0) : Type 0 where
  pub clean : HasCleanDisk (state g new) → HasCleanDisk (state g old)
  pub was_open : HasCleanDisk (state g new) → IsTrue (state g new).is_open → IsTrue (state g old).is_open
  pub live : HasCleanDisk (state g new) → OnOk result (IsTrue (state g new).is_open)
  pub same : HasCleanDisk (state g new) → IsTrue (state g new).is_open → IsArchive (state g old).now → (state g new).now ≡ (state g old).now
  pub survives : Survives (state g old) (state g new) (λ _. ⊥)
  pub found : HasCleanDisk (state g new) → (is : IsArchive (state g old).now) → IfOk result (fact is.layout (state g old).now.trees)
