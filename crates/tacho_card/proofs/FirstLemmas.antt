-- The first place with a property.
use Rattle.std.proofs.Common.{◌≡◌, ℕ, ◌+◌, ◌<◌, ◌≤◌, ◌⊎◌, inl, inr, nat_lt, Bool, true, false, Option, None, Some, refl, sym, ap, subst, arith}
use Rattle.std.proofs.lemmas.Bool.Decides.{nat_tests}

-- the result is what the first place from n on has, or none if no place from n on has anything
abbrev pub FirstFrom : {X : Type 0} → (ℕ → X → Type 0) → ℕ → Option X → Type 0
FirstFrom {X} P n None = (place : ℕ) (x : X) → n ≤ place → ¬ (P place x)
FirstFrom {X} P n (Some x) =
    (place : ℕ) × (n ≤ place) × P place x × ((earlier : ℕ) (other : X) → n ≤ earlier → earlier < place → ¬ (P earlier other))

-- the place n has something, so it is the first
pub first_here : {X : Type 0} (P : ℕ → X → Type 0) (n : ℕ) (x : X) → P n x → FirstFrom P n (Some x)
first_here P n x h = (n, omega arith, h, λ earlier other l u. absurd (omega arith))

-- a place that is at least n is n or after it
here_or_after : (n place : ℕ) → n ≤ place → (n ≡ place) ⊎ (n + 1 ≤ place)
here_or_after n place l = go (nat_lt n place) refl where
  go : (t : Bool) → nat_lt n place ≡ t → (n ≡ place) ⊎ (n + 1 ≤ place)
  go true h = inr (grind (arith, nat_tests))
  go false h = inl (grind (arith, nat_tests))

-- if place n and the places after it have nothing, no place from n on has anything
none_from : {X : Type 0} (P : ℕ → X → Type 0) (n place : ℕ) (x : X) → ((other : X) → ¬ (P n other)) → n ≤ place → (n + 1 ≤ place → ¬ (P place x)) → ¬ (P place x)
none_from P n place x none l behind h = go (here_or_after n place l) where
  go : (n ≡ place) ⊎ (n + 1 ≤ place) → ⊥
  go (inl e) = none x (subst (λ (i : ℕ). P i x) (sym e) h)
  go (inr k) = behind k h

-- if place n has nothing, the first place from n + 1 on is the first from n on
pub first_after : {X : Type 0} (P : ℕ → X → Type 0) (n : ℕ) (o : Option X) → ((other : X) → ¬ (P n other)) → FirstFrom P (n + 1) o → FirstFrom P n o
first_after P n None none rest = λ place x l. none_from P n place x none l (rest place x)
first_after P n (Some x) none rest = (
  rest.0,
  omega (arith, rest.1),
  rest.2,
  λ earlier other l u. none_from P n earlier other none l (λ k. rest.3 earlier other k u),
)

-- if nothing was found, no place has anything
pub none_there : {X : Type 0} (P : ℕ → X → Type 0) (o : Option X) → FirstFrom P 0 o → o ≡ None → (place : ℕ) (x : X) → ¬ (P place x)
none_there P o h e place x = subst (FirstFrom P 0) e h place x (omega arith)

-- if no place has anything, nothing is found
pub finds_none : {X : Type 0} (P : ℕ → X → Type 0) (o : Option X) → FirstFrom P 0 o → ((place : ℕ) (x : X) → ¬ (P place x)) → o ≡ None
finds_none P None h none = refl
finds_none P (Some x) h none = absurd (none h.0 x h.2)

-- no place before the first one has anything
not_before : {X : Type 0} (P : ℕ → X → Type 0) (i j : ℕ) (x : X) → ((earlier : ℕ) (other : X) → earlier < i → ¬ (P earlier other)) → P j x → i ≤ j
not_before P i j x first h = go (nat_lt j i) refl where
  go : (t : Bool) → nat_lt j i ≡ t → i ≤ j
  go true e = absurd (first j x (grind (arith, nat_tests)) h)
  go false e = grind (arith, nat_tests)

-- what the first place has is found, if the place has nothing else
pub finds_first : {X : Type 0} (P : ℕ → X → Type 0) (o : Option X) → FirstFrom P 0 o → (place : ℕ) (x : X) → P place x →
    ((earlier : ℕ) (other : X) → earlier < place → ¬ (P earlier other)) → ((other : X) → P place other → other ≡ x) → o ≡ Some x
finds_first P None h place x there first one = absurd (h place x (omega arith) there)
finds_first P (Some y) h place x there first one =
    let a = not_before P h.0 place x (λ earlier other l. h.3 earlier other (omega arith) l) there in
    let b = not_before P place h.0 y first h.2 in
    let same : h.0 ≡ place = omega (arith, a, b) in
    ap Some (one y (subst (λ (i : ℕ). P i y) same h.2))
