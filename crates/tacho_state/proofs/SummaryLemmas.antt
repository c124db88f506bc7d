-- A sorted list stays sorted when its elements become the summaries of drivers.
use Rattle.std.proofs.Common.{◌≡◌, ◌∙◌, ◌+◌, ◌<◌, Bool, List, [], ◌∷◌, map, length, ap, arith}
use Rattle.std.specs.List.{slice_index_or}
use Rattle.std.specs.List.Sorted.{IsSortedBy}
use Rattle.std.proofs.lemmas.List.{get_or-map, length-map}

-- a map that keeps the comparison of elements keeps a list sorted
pub sorted_map : {X Y : Type 0} (f : X → Y) (less : Y → Y → Bool) (lt : X → X → Bool) (xs : List X)
    → ((x y : X) → less (f x) (f y) ≡ lt x y)
    → IsSortedBy lt xs → IsSortedBy less (map f xs)
sorted_map f less lt [] same h k d low high = absurd (omega (arith, high))
sorted_map f less lt (x ∷ xs) same h k d low high =
    let all = x ∷ xs in
    let high_2 : k + 1 < length all = (let as_many = length-map all f in omega (arith, high, as_many)) in
    ap (λ y. less y (slice_index_or (map f all) k d)) (get_or-map f all (k + 1) x d high_2)
    ∙ ap (λ y. less (f (slice_index_or all (k + 1) x)) y) (get_or-map f all k x d (omega (arith, high_2)))
    ∙ same (slice_index_or all (k + 1) x) (slice_index_or all k x)
    ∙ h k x low high_2
