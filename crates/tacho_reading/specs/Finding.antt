-- Private to tacho_reading: What look-ups find, in terms of the state: a driver by number, or that a call gave up.
use Rattle.std.specs.Prelude.{◌≡◌, ℕ, length, Option, Some, None, Result, Err, IfOk, IfErr, MatchOption, string_bytes}
use Rattle.tacho_state.specs.declared.fault.StoreFault.{StoreFault}
use Rattle.tacho_state.specs.declared.fault.StoreFault.TheVariants.{Memory, Store}
use Rattle.tacho_state.specs.State.{Driver, State, driver_of}
use Rattle.tacho_state.specs.Steps.{known_driver}
use Rattle.tacho_tables.specs.declared.rows.StoredDriver.{StoredDriver}

-- the fault is the step's answer, or the call gave up
abbrev pub IsFindingFault : {A : Type 0} → StoreFault → Result A StoreFault → Type 0
IsFindingFault Memory told = Unit {0}
IsFindingFault Store told = Unit {0}
IsFindingFault fault told = told ≡ Err fault

-- the stored row is that of the driver
pub record IsStored (it : StoredDriver) (d : Driver) : Type 0 where
  pub number : it.number ≡ d.number
  pub holder : it.holder.items ≡ d.holder
  pub base : it.base ≡ d.base
  pub name : string_bytes it.name ≡ d.name
  pub downloads : it.downloads ≡ length d.downloads
  pub entries : it.entries ≡ length d.entries

-- this is the driver's number, and the state finds the driver by it
pub record IsNumberOf (s : State) (n : ℕ) (d : Driver) : Type 0 where
  pub number : n ≡ d.number
  pub found : driver_of n s ≡ Some d

-- what a look-up of a driver found: this of the driver whom the state has, or nothing if it has none
abbrev pub IsOfDriver : {X : Type 0} → (X → Driver → Type 0) → Option Driver → Option X → Type 0
IsOfDriver is o found = MatchOption found (o ≡ None) (λ it. (d : Driver) × (o ≡ Some d) × is it d)

-- the value that a call found is as it should be; or its fault is what was to be told, or the call gave up
pub record IsFound {A B : Type 0} (is : A → Type 0) (told : Result B StoreFault) (result : Result A StoreFault) : Type 0 where
  pub found : IfOk result is
  pub refused : IfErr result (λ fault. IsFindingFault fault told)

-- the result is the stored row of the driver with this number; or S4, if nobody has it; or the call gave up
abbrev pub IsDriver : State → ℕ → Result StoredDriver StoreFault → Type 0
IsDriver s n result = IsFound (λ it. (d : Driver) × (driver_of n s ≡ Some d) × IsStored it d) (known_driver (driver_of n s)) result
