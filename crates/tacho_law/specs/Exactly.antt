-- Trusted: Ordered lists of exactly the things with a property. No Article prescribes this.
use Rattle.std.specs.Prelude.{◌≡◌, ℕ, ◌↔◌, List, Contains, AllPairs, length}

-- the list has exactly the things with the property, each before those that come after it
pub record AreExactly {T : Type 0} (P : T → Type 0) (Before : T → T → Type 0) (list : List T) : Type 0 where
  pub each : (x : T) → Contains list x ↔ P x
  pub in_order : AllPairs Before list

-- n things have the property: an ordered list of all of them has length n
pub record HasCount {T : Type 0} (P : T → Type 0) (Before : T → T → Type 0) (n : ℕ) : Type 0 where
  pub all : List T
  pub exactly : AreExactly P Before all
  pub count : length all ≡ n
