-- Rows that are taken one after another.
use Rattle.std.proofs.Common.{◌≡◌, ◌∙◌, List, [], ◌∷◌, ◌++◌, append_assoc, map, sym, ap, subst}
use Rattle.std.specs.List.{All}
use Rattle.std.proofs.lemmas.List.Elements.{All-head, All-tail}

module _ {W Z : Type 0} (shown : W → Z) (row : W) (left rest : List W) (taken : left ≡ row ∷ rest) where
  -- one value more is read, and one row fewer remains
  pub one_more : {Y : Type 0} (reads : Z → Y) (done more : List Y) (y : Y) (all : List Y) → more ≡ done ++ y ∷ [] → y ≡ reads (shown row)
      → done ++ map reads (map shown left) ≡ all → more ++ map reads (map shown rest) ≡ all
  one_more {Y = Y} reads done more y all pushed is whole =
      let back = map reads (map shown rest) in
      ap (λ (xs : List Y). xs ++ back) pushed
      ∙ append_assoc done (y ∷ []) back
      ∙ ap (λ (x : Y). done ++ (x ∷ back)) is
      ∙ ap (λ (xs : List W). done ++ map reads (map shown xs)) (sym taken)
      ∙ whole

  -- a fact about all remaining rows holds for the first and for the others
  pub all_left : (P : Z → Type 0) → All P (map shown left) → P (shown row) × All P (map shown rest)
  all_left P all =
      let both = subst (λ (xs : List W). All P (map shown xs)) taken all in
      (All-head P (shown row) (map shown rest) both, All-tail P (shown row) (map shown rest) both)
