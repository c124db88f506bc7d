-- Private to tacho_store: What a change of a key consists of: the driver exists, and nobody else has the key.
use Rattle.std.specs.Prelude.{◌≡◌, ℕ, List, false, Some}
use Rattle.tacho_state.specs.State.{Driver, State, driver_of, driver_with_key}
use Rattle.tacho_state.specs.Steps.{is_another}

-- the driver has this number, and no driver with another number has the key
pub record CanHaveKey (s : State) (n : ℕ) (key : List ℕ) (d : Driver) : Type 0 where
  pub driver : driver_of n s ≡ Some d
  pub free : is_another n (driver_with_key key s) ≡ false
