-- Trusted: Sets of weekly rests, described by whether they have one, two or a regular one.
use Rattle.std.specs.Prelude.{◌≡◌, ◌≢◌, ◌↔◌, Bool, true, Option, Some, None}
use Rattle.tacho_choice.specs.declared.counted.Counted.{Counted}
use Rattle.tacho_choice.specs.Step.{has_one, has_two, has_regular}

-- the set has this many rests, with or without a regular one
pub record AreCounted {R : Type 0} (is_regular : R → Bool) (P : R → Type 0) (counted : Counted) : Type 0 where
  pub one : (has_one counted ≡ true) ↔ ((r : R) × P r)
  pub two : (has_two counted ≡ true) ↔ ((r : R) × ((s : R) × (P r × P s × (r ≢ s))))
  pub long : (has_regular counted ≡ true) ↔ ((r : R) × (P r × (is_regular r ≡ true)))

-- the set has no rest, or has one that is regular or not
abbrev pub IsOneOf : {R : Type 0} → (R → Bool) → (R → Type 0) → Option Bool → Type 0
IsOneOf {R} is_regular E None = (r : R) → E r → ⊥
IsOneOf {R} is_regular E (Some regular) = (r : R) × (E r × (is_regular r ≡ regular))
