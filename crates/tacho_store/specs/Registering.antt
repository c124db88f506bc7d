-- Private to tacho_store: What a registration consists of: nobody has the new driver's number, key or holder.
use Rattle.std.specs.Prelude.{◌≡◌, ℕ, List, None}
use Rattle.tacho_state.specs.State.{State, driver_of, driver_with_key, holding}

-- nobody has the number, the key or the holder
pub record AreFree (s : State) (number : ℕ) (key holder : List ℕ) : Type 0 where
  pub new_number : driver_of number s ≡ None
  pub new_key : driver_with_key key s ≡ None
  pub new_holder : holding holder s ≡ None
