-- Private to tacho_shelf: A state that is one of several.
use Rattle.std.specs.Prelude.{◌≡◌, ◌⊎◌, List, [], ◌∷◌}
use Rattle.tacho_state.specs.State.{State}

-- the state is one of these
abbrev pub IsAmong : State → List State → Type 0
IsAmong s [] = ⊥
IsAmong s (x ∷ xs) = (s ≡ x) ⊎ IsAmong s xs
