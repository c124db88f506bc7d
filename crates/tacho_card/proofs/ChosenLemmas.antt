-- Going over optional data, and those that are present.
use Rattle.std.proofs.Common.{◌≡◌, ℕ, zero, suc, ◌<◌, List, [], ◌∷◌, ◌++◌, length, take, drop, get_or, Option, Some, None, refl, ap, arith}
use Rattle.tacho_card.specs.DriverActivity.{DriverActivity}
use Rattle.tacho_card.specs.CardFile.{those_there}

-- data at a place come after the data present before it
pub those_more : (chosen : List (Option DriverActivity)) (i : ℕ) (d : Option DriverActivity) (activity : DriverActivity) → i < length chosen → get_or chosen i d ≡ Some activity → those_there (take (suc i) chosen) ≡ those_there (take i chosen) ++ activity ∷ []
those_more [] i d activity h e = absurd (omega arith)
those_more (None ∷ chosen) zero d activity h e = cc
those_more (Some first ∷ chosen) zero d activity h e = let same : first ≡ activity = cc in ap (λ (x : DriverActivity). x ∷ []) same
those_more (None ∷ chosen) (suc i) d activity h e = those_more chosen i d activity (omega arith) e
those_more (Some first ∷ chosen) (suc i) d activity h e = ap (λ xs. first ∷ xs) (those_more chosen i d activity (omega arith) e)

-- a place without data adds nothing
pub those_same : (chosen : List (Option DriverActivity)) (i : ℕ) (d : Option DriverActivity) → i < length chosen → get_or chosen i d ≡ None → those_there (take (suc i) chosen) ≡ those_there (take i chosen)
those_same [] i d h e = absurd (omega arith)
those_same (None ∷ chosen) zero d h e = refl
those_same (Some first ∷ chosen) zero d h e = cc
those_same (None ∷ chosen) (suc i) d h e = those_same chosen i d (omega arith) e
those_same (Some first ∷ chosen) (suc i) d h e = ap (λ xs. first ∷ xs) (those_same chosen i d (omega arith) e)

-- the data present are those before a place, that at the place, and those after it
pub those_split : (chosen : List (Option DriverActivity)) (i : ℕ) (d : Option DriverActivity) (activity : DriverActivity) → i < length chosen → get_or chosen i d ≡ Some activity → those_there (take i chosen) ++ activity ∷ those_there (drop (suc i) chosen) ≡ those_there chosen
those_split [] i d activity h e = absurd (omega arith)
those_split (None ∷ chosen) zero d activity h e = cc
those_split (Some first ∷ chosen) zero d activity h e = let same : activity ≡ first = cc in ap (λ (x : DriverActivity). x ∷ those_there chosen) same
those_split (None ∷ chosen) (suc i) d activity h e = those_split chosen i d activity (omega arith) e
those_split (Some first ∷ chosen) (suc i) d activity h e = ap (λ xs. first ∷ xs) (those_split chosen i d activity (omega arith) e)
