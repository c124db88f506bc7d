-- The breaches of debts as they are put (specs/Paying, overdue_of).
use Rattle.std.proofs.Common.{◌≡◌, ℕ, zero, suc, ◌<◌, ◌≤◌, Bool, true, false, Option, None, Some, List, [], ◌∷◌, ◌++◌}
use Rattle.std.proofs.Common.{refl, sym, ap, ap₂, subst, ◌∙◌, arith, nat_le, if◌then◌else◌, ◌&&◌}
use Rattle.std.specs.Prelude.{IsTrue}
use Rattle.std.specs.Option.{option_map_or}
use Rattle.std.specs.List.{All, AllPairs, Contains}
use Rattle.std.proofs.lemmas.Bool.Decides.{nat_tests}
use Rattle.std.proofs.lemmas.List.{append-nil, append_assoc}
use Rattle.std.proofs.lemmas.List.Elements.{All-nil, All-cons}
use Rattle.tacho_law.specs.declared.breach.Breach.{Breach}
use Rattle.tacho_law.specs.declared.debt.Debt.{Debt}
use Rattle.tacho_law.specs.Debts.{EarlierWeek}
use Rattle.tacho_law.specs.SoFar.{AreCollected}
use Rattle.tacho_law.specs.Breaches.{IsOverdue}
use Rattle.tacho_law.proofs.ExactlyLemmas.{head_first, tail_order}
use Rattle.tacho_law.proofs.OverdueLemmas.{OverdueFound, overdue_none, overdue_skip, overdue_add, overdue_all}
use Rattle.tacho_pass.specs.Kinds.{is_b10}
use Rattle.tacho_rests.specs.Paying.{overdue_breach, is_overdue, overdue_of}

-- all breaches have the kind B10
kinds_if : (b : Bool) (x : Breach) (xs : List Breach) → is_b10 x.kind ≡ true
    → All (λ (y : Breach). IsTrue (is_b10 y.kind)) xs
    → All (λ (y : Breach). IsTrue (is_b10 y.kind)) (if b then x ∷ xs else xs)
kinds_if true x xs e h = All-cons (λ (y : Breach). IsTrue (is_b10 y.kind)) x xs e h
kinds_if false x xs e h = h

pub overdue_kinds : (by : ℕ) (debts : List Debt) → All (λ (x : Breach). IsTrue (is_b10 x.kind)) (overdue_of by debts)
overdue_kinds by [] = All-nil (λ (x : Breach). IsTrue (is_b10 x.kind))
overdue_kinds by (x ∷ xs) = kinds_if (is_overdue by x) (overdue_breach x) (overdue_of by xs) refl (overdue_kinds by xs)

-- the breaches of debts followed by other debts
more_if : (b : Bool) (x : Breach) (xs ys : List Breach)
    → (if b then x ∷ (xs ++ ys) else xs ++ ys) ≡ (if b then x ∷ xs else xs) ++ ys
more_if true x xs ys = refl
more_if false x xs ys = refl

pub overdue_append : (by : ℕ) (debts others : List Debt)
    → overdue_of by (debts ++ others) ≡ overdue_of by debts ++ overdue_of by others
overdue_append by [] others = refl
overdue_append by (x ∷ xs) others =
    ap (λ (ys : List Breach). if is_overdue by x then overdue_breach x ∷ ys else ys) (overdue_append by xs others)
    ∙ more_if (is_overdue by x) (overdue_breach x) (overdue_of by xs) (overdue_of by others)

-- if all deadlines have been reached, a later minute gives the same breaches
pub overdue_same : (by end : ℕ) (debts : List Debt) → by ≤ end
    → ((debt : Debt) → Contains debts debt → debt.deadline ≤ by) → overdue_of by debts ≡ overdue_of end debts
overdue_same by end [] le due = refl
overdue_same by end (x ∷ xs) le due =
    let first : x.deadline ≤ by = due x (0, omega arith, refl) in
    let one : nat_le x.deadline by ≡ true = grind (arith, nat_tests) in
    let two : nat_le x.deadline end ≡ true = grind (arith, nat_tests) in
    let others : overdue_of by xs ≡ overdue_of end xs =
    overdue_same by end xs le (λ d in'. due d (suc in'.0, omega arith, in'.2)) in
    ap₂ (λ (b : Bool) (ys : List Breach). if option_map_or (λ start. false) x.paid_by true && b then overdue_breach x ∷ ys
    else ys) (one ∙ sym two) others

-- going over the debts in order, as the code does
has_next : (xs : List Debt) (x : Debt) (ys : List Debt) → Contains (xs ++ x ∷ ys) x
has_next [] x ys = (0, omega arith, refl)
has_next (z ∷ xs) x ys = let rest : Contains (xs ++ x ∷ ys) x = has_next xs x ys in (suc rest.0, omega arith, rest.2)

order_to : (xs : List Debt) (x : Debt) (ys : List Debt) → AllPairs EarlierWeek (xs ++ x ∷ ys) → (other : Debt)
    → Contains xs other → EarlierWeek other x
order_to [] x ys order other (k, within, is) = absurd (omega arith)
order_to (z ∷ xs) x ys order other (zero, within, is) =
    subst (λ (d : Debt). EarlierWeek d x) is (head_first EarlierWeek z (xs ++ x ∷ ys) x order (has_next xs x ys))
order_to (z ∷ xs) x ys order other (suc k, within, is) =
    order_to xs x ys (tail_order EarlierWeek z (xs ++ x ∷ ys) order) other (k, omega arith, is)

is_due : (horizon : ℕ) (p : Option ℕ) (deadline : ℕ)
    → (option_map_or (λ start. false) p true && nat_le deadline horizon) ≡ true → (p ≡ None) × (deadline ≤ horizon)
is_due horizon None deadline e = (refl, let f : deadline ≤ horizon = grind (arith, nat_tests) in f)
is_due horizon (Some s) deadline e = absurd (let f : false ≡ true = e in cc)

not_due : (horizon : ℕ) (p : Option ℕ) (deadline : ℕ)
    → (option_map_or (λ start. false) p true && nat_le deadline horizon) ≡ false → p ≡ None → deadline ≤ horizon → ⊥
not_due horizon None deadline e none le = let f : horizon < deadline = grind (arith, nat_tests) in omega arith
not_due horizon (Some s) deadline e none le = absurd (let f : Some s ≡ None = none in cc)

overdue_step : (horizon : ℕ) (seen : List Debt) (debt : Debt) (found : List Breach) (b : Bool)
    → is_overdue horizon debt ≡ b → OverdueFound horizon seen found
    → ((other : Debt) → Contains seen other → EarlierWeek other debt)
    → OverdueFound horizon (seen ++ debt ∷ []) (found ++ (if b then overdue_breach debt ∷ [] else []))
overdue_step horizon seen debt found true e r earlier =
    let due : (debt.paid_by ≡ None) × (debt.deadline ≤ horizon) = is_due horizon debt.paid_by debt.deadline e in
    overdue_add horizon seen debt found r earlier (overdue_breach debt)
    (record { kind = refl; unpaid = due.0; due = due.1; moment = refl; since = refl; amount = refl })
overdue_step horizon seen debt found false e r earlier =
    subst (λ (xs : List Breach). OverdueFound horizon (seen ++ debt ∷ []) xs) (sym (append-nil found))
    (overdue_skip horizon seen debt found r (not_due horizon debt.paid_by debt.deadline e))

cons_if : (b : Bool) (x : Breach) (found xs : List Breach)
    → (found ++ (if b then x ∷ [] else [])) ++ xs ≡ found ++ (if b then x ∷ xs else xs)
cons_if true x found xs = append_assoc found (x ∷ []) xs
cons_if false x found xs = ap (λ (ys : List Breach). ys ++ xs) (append-nil found)

overdue_rest : (horizon : ℕ) (seen debts : List Debt) (found : List Breach) → AllPairs EarlierWeek (seen ++ debts)
    → OverdueFound horizon seen found → OverdueFound horizon (seen ++ debts) (found ++ overdue_of horizon debts)
overdue_rest horizon seen [] found order r =
    subst (λ (ds : List Debt). OverdueFound horizon ds (found ++ [])) (sym (append-nil seen))
    (subst (λ (xs : List Breach). OverdueFound horizon seen xs) (sym (append-nil found)) r)
overdue_rest horizon seen (debt ∷ debts) found order r =
    let here : List Breach = if is_overdue horizon debt then overdue_breach debt ∷ [] else [] in
    let step : OverdueFound horizon (seen ++ debt ∷ []) (found ++ here) =
    overdue_step horizon seen debt found (is_overdue horizon debt) refl r (order_to seen debt debts order) in
    let rest : OverdueFound horizon ((seen ++ debt ∷ []) ++ debts) ((found ++ here) ++ overdue_of horizon debts) =
    overdue_rest horizon (seen ++ debt ∷ []) debts (found ++ here)
    (subst (λ (ds : List Debt). AllPairs EarlierWeek ds) (sym (append_assoc seen (debt ∷ []) debts)) order) step in
    subst (λ (xs : List Breach). OverdueFound horizon (seen ++ debt ∷ debts) xs)
    (cons_if (is_overdue horizon debt) (overdue_breach debt) found (overdue_of horizon debts))
    (subst (λ (ds : List Debt). OverdueFound horizon ds ((found ++ here) ++ overdue_of horizon debts))
    (append_assoc seen (debt ∷ []) debts) rest)

-- these are exactly the breaches of the debts
pub overdue_are : (horizon : ℕ) (debts : List Debt)
    → AllPairs EarlierWeek debts → AreCollected (IsOverdue horizon debts) (overdue_of horizon debts)
overdue_are horizon debts order =
    overdue_all horizon debts (overdue_of horizon debts)
    (overdue_rest horizon [] debts [] order (overdue_none horizon))
