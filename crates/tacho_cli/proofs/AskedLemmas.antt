-- What arguments ask for, by how many there are.
use Rattle.std.proofs.Common.{◌≡◌, ◌<◌, ◌≤◌, ◌∷◌, ℕ, List, [], None, length, map, drop, get_or, refl, arith}
use Rattle.tacho_cli.specs.Asked.{early_of, early_with, help_on}

module _ {X : Type 0} (f : X → List ℕ) where
  -- without an argument
  pub none_early : (words : List X) → length words ≤ 1 → early_of (map f words) ≡ None
  none_early [] h = refl
  none_early (a ∷ []) h = refl
  none_early (a ∷ b ∷ words) h = absurd (omega arith)

  -- with several
  pub more_early : (words : List X) (word next : X) → 2 < length words → word ≡ get_or words 1 word → next ≡ get_or words 2 next
      → early_of (map f words) ≡ early_with (f word) (f next) (map f (drop 3 words))
  more_early [] word next h p q = absurd (omega arith)
  more_early (a ∷ []) word next h p q = absurd (omega arith)
  more_early (a ∷ b ∷ []) word next h p q = absurd (omega arith)
  more_early (a ∷ b ∷ c ∷ words) word next h p q = rw (p, q) refl

  -- `help` with a name, and more
  pub help_more : (name : List ℕ) (words : List X) → 0 < length words → help_on name (map f words) ≡ None
  help_more name [] h = absurd (omega arith)
  help_more name (word ∷ words) h = refl
