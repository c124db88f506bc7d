-- Trusted: Drivers with numbers, keys and holders of their own.
use Rattle.std.specs.Prelude.{◌≢◌, ℕ, List, [], ◌∷◌}
use Rattle.tacho_state.specs.State.{State}

-- no driver of the state has this number, this key, or this holder
abbrev pub HasNot : ℕ → State → Type 0
HasNot n [] = Unit {0}
HasNot n (d ∷ s) = (d.number ≢ n) × HasNot n s

abbrev pub HasNoKey : List ℕ → State → Type 0
HasNoKey key [] = Unit {0}
HasNoKey key (d ∷ s) = (d.key ≢ key) × HasNoKey key s

abbrev pub IsHolderFree : List ℕ → State → Type 0
IsHolderFree holder [] = Unit {0}
IsHolderFree holder (d ∷ s) = (d.holder ≢ holder) × IsHolderFree holder s

-- no two drivers have the same number, the same key or the same holder
abbrev pub AreDistinct : State → Type 0
AreDistinct [] = Unit {0}
AreDistinct (d ∷ s) = HasNot d.number s × HasNoKey d.key s × IsHolderFree d.holder s × AreDistinct s
