-- Lines that are written one after the other.
use Rattle.std.proofs.Common.{◌≡◌, ◌<◌, ◌+◌, ◌++◌, ◌∷◌, ◌∙◌, ℕ, List, [], length, get_or, take, refl, sym, ap, append_assoc, arith, Result, Ok, Err, OnOk, Bool, true, false, if◌then◌else◌, map}
use Rattle.std.specs.Result.{is_ok}
use Rattle.std.proofs.lemmas.Grind.{flat_map-append, common_steps}
use Rattle.std.proofs.lemmas.List.{append-nil}
use Rattle.std.proofs.lemmas.List.Elements.{filter_more}
use Rattle.std.proofs.lemmas.List.Folds.{flat_map-map}
use Rattle.std.specs.List.{filter, flat_map}

pub take_more : {X : Type 0} (xs : List X) (i : ℕ) (d : X) → i < length xs → take (i + 1) xs ≡ take i xs ++ get_or xs i d ∷ []
take_more xs i d h = grind (arith, common_steps)

-- the lines that were written, and one more
pub one_more_line : {X A : Type 0} (f : X → List A) (xs : List X) (i : ℕ) (d : X) (before after : List A) → i < length xs
    → before ≡ flat_map f (take i xs) → after ≡ before ++ f (get_or xs i d) → after ≡ flat_map f (take (i + 1) xs)
one_more_line {A = A} f xs i d before after h e g =
    g ∙ ap (λ (t : List A). t ++ f (get_or xs i d)) e
    ∙ ap (λ (t : List A). flat_map f (take i xs) ++ t) (sym (append-nil (f (get_or xs i d))))
    ∙ sym (flat_map-append f (take i xs) (get_or xs i d ∷ []))
    ∙ sym (ap (λ t. flat_map f t) (take_more xs i d h))

-- likewise for the views of the items
pub one_more_told : {X Y A : Type 0} (f : Y → List A) (told : X → Y) (xs : List X) (i : ℕ) (x : X) (before after : List A) → i < length xs
    → x ≡ get_or xs i x → before ≡ flat_map f (map told (take i xs)) → after ≡ before ++ f (told x)
    → after ≡ flat_map f (map told (take (i + 1) xs))
one_more_told f told xs i x before after h is e g =
    one_more_line (λ y. f (told y)) xs i x before after h (e ∙ flat_map-map f told (take i xs))
    (g ∙ ap (λ y. before ++ f (told y)) is)
    ∙ sym (flat_map-map f told (take (i + 1) xs))

-- likewise after a head
pub one_more_row : {X : Type 0} (f : X → List ℕ) (xs : List X) (i : ℕ) (d : X) (head before after : List ℕ) → i < length xs
    → before ≡ head ++ flat_map f (take i xs) → after ≡ before ++ f (get_or xs i d) → after ≡ head ++ flat_map f (take (i + 1) xs)
one_more_row f xs i d head before after h e g =
    g ∙ ap (λ (t : List ℕ). t ++ f (get_or xs i d)) e ∙ append_assoc head (flat_map f (take i xs)) (f (get_or xs i d))
    ∙ ap (λ (t : List ℕ). head ++ t) (one_more_line f xs i d (flat_map f (take i xs)) (flat_map f (take i xs) ++ f (get_or xs i d)) h refl refl)

-- what was pushed, unless memory ran out
pub on_pushed : {A E Q : Type 0} (r : Result A E) {t : List ℕ} (pushed old : List ℕ) → t ≡ (if is_ok r then pushed else old) → (t ≡ pushed → Q) → OnOk r Q
on_pushed (Ok a) pushed old e f = f e
on_pushed (Err x) pushed old e f = tt

-- what follows from what was done, unless memory ran out
pub on_done : {A E P Q : Type 0} (r : Result A E) → OnOk r P → (P → Q) → OnOk r Q
on_done (Ok a) p f = f p
on_done (Err x) p f = tt

-- a text that was written piece by piece
pub pieces2 : (a b t t1 t2 : List ℕ) → t1 ≡ t ++ a → t2 ≡ t1 ++ b → t2 ≡ t ++ (a ++ b)
pieces2 a b t t1 t2 e1 e2 = e2 ∙ ap (λ (x : List ℕ). x ++ b) e1 ∙ append_assoc t a b

pub pieces3 : (a b c t t1 t2 t3 : List ℕ) → t1 ≡ t ++ a → t2 ≡ t1 ++ b → t3 ≡ t2 ++ c → t3 ≡ t ++ (a ++ (b ++ c))
pieces3 a b c t t1 t2 t3 e1 e2 e3 = pieces2 a (b ++ c) t t1 t3 e1 (pieces2 b c t1 t2 t3 e2 e3)

pub pieces4 : (a b c d t t1 t2 t3 t4 : List ℕ) → t1 ≡ t ++ a → t2 ≡ t1 ++ b → t3 ≡ t2 ++ c → t4 ≡ t3 ++ d → t4 ≡ t ++ (a ++ (b ++ (c ++ d)))
pieces4 a b c d t t1 t2 t3 t4 e1 e2 e3 e4 = pieces2 a (b ++ (c ++ d)) t t1 t4 e1 (pieces3 b c d t1 t2 t3 t4 e2 e3 e4)

pub pieces5 : (a b c d e t t1 t2 t3 t4 t5 : List ℕ) → t1 ≡ t ++ a → t2 ≡ t1 ++ b → t3 ≡ t2 ++ c → t4 ≡ t3 ++ d → t5 ≡ t4 ++ e
    → t5 ≡ t ++ (a ++ (b ++ (c ++ (d ++ e))))
pieces5 a b c d e t t1 t2 t3 t4 t5 e1 e2 e3 e4 e5 = pieces3 a b (c ++ (d ++ e)) t t1 t2 t5 e1 e2 (pieces3 c d e t2 t3 t4 t5 e3 e4 e5)

-- the lines of the items that pass a test, and one more
pub one_more_kept : {X : Type 0} (f : X → List ℕ) (p : X → Bool) (xs : List X) (i : ℕ) (d : X) (t before after : List ℕ) → i < length xs → p (get_or xs i d) ≡ true
    → before ≡ t ++ flat_map f (filter p (take i xs)) → after ≡ before ++ f (get_or xs i d) → after ≡ t ++ flat_map f (filter p (take (i + 1) xs))
one_more_kept f p xs i d t before after h k e g =
    let x = get_or xs i d in
    let front = filter p (take i xs) in
    simp (g, e, filter_more p xs i d h, k, flat_map-append f front (x ∷ []), append-nil (f x), append_assoc) refl

-- no line is added for an item that doesn't pass
pub none_more_kept : {X : Type 0} (f : X → List ℕ) (p : X → Bool) (xs : List X) (i : ℕ) (d : X) (t before after : List ℕ) → i < length xs → p (get_or xs i d) ≡ false
    → before ≡ t ++ flat_map f (filter p (take i xs)) → after ≡ before → after ≡ t ++ flat_map f (filter p (take (i + 1) xs))
none_more_kept f p xs i d t before after h k e g =
    let front = filter p (take i xs) in
    simp (g, e, filter_more p xs i d h, k, append-nil front) refl

-- the items that pass a test, and one more
pub one_more_of : {X : Type 0} (p : X → Bool) (xs : List X) (i : ℕ) (d : X) (t before after : List X) → i < length xs
    → p (get_or xs i d) ≡ true → before ≡ t ++ filter p (take i xs) → after ≡ before ++ get_or xs i d ∷ [] → after ≡ t ++ filter p (take (i + 1) xs)
one_more_of p xs i d t before after h k e g = simp (g, e, filter_more p xs i d h, k, append_assoc) refl

-- an item that doesn't pass isn't added
pub none_more_of : {X : Type 0} (p : X → Bool) (xs : List X) (i : ℕ) (d : X) (t before after : List X) → i < length xs
    → p (get_or xs i d) ≡ false → before ≡ t ++ filter p (take i xs) → after ≡ before → after ≡ t ++ filter p (take (i + 1) xs)
none_more_of p xs i d t before after h k e g = simp (g, e, filter_more p xs i d h, k, append-nil (filter p (take i xs))) refl
