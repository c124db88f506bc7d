-- The breaches of the rules on weekly rests are together those of the pass (`rests`).
use Rattle.std.proofs.Common.{◌≡◌, ℕ, ◌⊎◌, inl, inr, List, ◌++◌, refl, sym, subst, ◌∙◌}
use Rattle.std.specs.Prelude.{◌↔◌}
use Rattle.std.specs.List.{AllPairs, Contains}
use Rattle.tacho_law.specs.declared.breach.Breach.{Breach}
use Rattle.tacho_law.specs.declared.debt.Debt.{Debt}
use Rattle.tacho_law.specs.declared.breach.Kind.{Kind}
use Rattle.tacho_law.specs.declared.breach.Kind.TheVariants.{B1, B2, B3, B4, B5, B6, B7, B8, B9, B10}
use Rattle.tacho_law.specs.Line.{Line}
use Rattle.tacho_law.specs.Debts.{AreDebts}
use Rattle.tacho_law.specs.Order.{Agree, Earlier, AreBreaches}
use Rattle.tacho_law.specs.SoFar.{AreCollected}
use Rattle.tacho_law.specs.Breaches.{IsRestBreach, IsLate, IsLacking, IsOverdue}
use Rattle.tacho_plain.proofs.DayBreachesLemmas.{all_join}

-- a breach of a late weekly rest, or of weeks that lack weekly rests
abbrev pub IsWeeklyKind : Line → ℕ → ℕ → Breach → Type 0
IsWeeklyKind line base horizon b = IsLate line b ⊎ IsLacking line base horizon b

-- the breaches of both kinds in one list
pub weekly_join : (line : Line) (base horizon : ℕ) (xs ys : List Breach) → AreCollected (IsLate line) xs
    → AreCollected (IsLacking line base horizon) ys → AreCollected (IsWeeklyKind line base horizon) (xs ++ ys)
weekly_join line base horizon xs ys p q = all_join (IsLate line) (IsLacking line base horizon) xs ys p q
    (λ a b (k, h) (k', h') g. (let e : B8 ≡ B9 = sym k ∙ (g.kind ∙ k') in cc))

-- such a breach, or the breach of a debt that nothing pays
abbrev pub IsRestKind : Line → ℕ → ℕ → List Debt → Breach → Type 0
IsRestKind line base horizon debts b = IsWeeklyKind line base horizon b ⊎ IsOverdue horizon debts b

-- a debt's breach has another kind
kinds_differ : (line : Line) (base horizon : ℕ) (debts : List Debt) (a b : Breach)
    → IsWeeklyKind line base horizon a → IsOverdue horizon debts b → Agree a b → ⊥
kinds_differ line base horizon debts a b p q g = elim p [
  | inl late ↦ let e : B8 ≡ B10 = sym late.0 ∙ (g.kind ∙ q.0) in cc
  | inr lacking ↦ let e : B9 ≡ B10 = sym lacking.0 ∙ (g.kind ∙ q.0) in cc
]

-- the breaches of all three kinds in one list
pub rests_join : (line : Line) (base horizon : ℕ) (debts : List Debt) (xs ys : List Breach)
    → AreCollected (IsWeeklyKind line base horizon) xs → AreCollected (IsOverdue horizon debts) ys
    → AreCollected (IsRestKind line base horizon debts) (xs ++ ys)
rests_join line base horizon debts xs ys p q =
    all_join (IsWeeklyKind line base horizon) (IsOverdue horizon debts) xs ys p q (kinds_differ line base horizon debts)

-- the breaches of debts up to a horizon, for an equal horizon and equal debts
pub due_as : (line : Line) (horizon other : ℕ) (debts owed : List Debt) (found : List Breach)
    → other ≡ horizon → owed ≡ debts → AreDebts line horizon debts
    → ((x : Line) → AreDebts x other owed → AreCollected (IsOverdue other owed) found)
    → AreCollected (IsOverdue horizon debts) found
due_as line horizon other debts owed found e f are given =
    subst (λ (x : ℕ). AreCollected (IsOverdue x debts) found) e
    (subst (λ (xs : List Debt). AreCollected (IsOverdue other xs) found) f
    (given line
    (subst (λ (xs : List Debt). AreDebts line other xs) (sym f)
    (subst (λ (x : ℕ). AreDebts line x debts) (sym e) are))))

-- a breach of the rules on weekly rests has one of these kinds
of_kind : (line : Line) (base horizon : ℕ) (debts : List Debt) (kind : Kind) (b : Breach)
    → b.kind ≡ kind → IsRestBreach line base horizon debts kind b → IsRestKind line base horizon debts b
of_kind line base horizon debts B1 b e h = absurd h
of_kind line base horizon debts B2 b e h = absurd h
of_kind line base horizon debts B3 b e h = absurd h
of_kind line base horizon debts B4 b e h = absurd h
of_kind line base horizon debts B5 b e h = absurd h
of_kind line base horizon debts B6 b e h = absurd h
of_kind line base horizon debts B7 b e h = absurd h
of_kind line base horizon debts B8 b e h = inl (inl (e, h))
of_kind line base horizon debts B9 b e h = inl (inr (e, h))
of_kind line base horizon debts B10 b e h = inr (e, h)

-- a breach of one of these kinds is a breach of the rules on weekly rests
from_kind : (line : Line) (base horizon : ℕ) (debts : List Debt) (b : Breach)
    → IsRestKind line base horizon debts b → IsRestBreach line base horizon debts b.kind b
from_kind line base horizon debts b h = elim h [
  | inl weekly ↦ elim weekly [
    | inl x ↦ subst (λ (kind : Kind). IsRestBreach line base horizon debts kind b) (sym x.0) x.1
    | inr x ↦ subst (λ (kind : Kind). IsRestBreach line base horizon debts kind b) (sym x.0) x.1
  ]
  | inr x ↦ subst (λ (kind : Kind). IsRestBreach line base horizon debts kind b) (sym x.0) x.1
]

-- these breaches, put in order, are those of the rules on weekly rests
pub rests_exactly : (line : Line) (base horizon : ℕ) (debts : List Debt) (xs ys : List Breach)
    → AreCollected (IsRestKind line base horizon debts) xs → ((b : Breach) → Contains ys b ↔ Contains xs b)
    → AllPairs Earlier ys → AreBreaches (λ b. IsRestBreach line base horizon debts b.kind b) ys
rests_exactly line base horizon debts xs ys all same order = record {
  each = λ b. (
    λ h. from_kind line base horizon debts b ((all.each b).0 ((same b).0 h)),
    λ h. (same b).1 ((all.each b).1 (of_kind line base horizon debts b.kind b refl h)),
  );
  in_order = order;
}
