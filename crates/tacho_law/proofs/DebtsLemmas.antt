-- A line has one list of debts (`laws::one_list_of_debts`), and so one list of breaches of the rules on weekly rests
-- (`laws::one_list_of_rest_breaches`).
use Rattle.std.proofs.Common.{◌≡◌, ℕ, suc, ◌+◌, ◌-◌, ◌<◌, ◌≤◌, inl, inr, Option, None, Some}
use Rattle.std.proofs.Common.{List, [], ◌∷◌, ◌++◌, refl, sym, ap, subst, ◌∙◌, arith, take, min}
use Rattle.std.specs.Prelude.{slice_get, MatchOption}
use Rattle.std.specs.List.{AllPairs, Contains}
use Rattle.std.proofs.lemmas.Bool.{cases_lt}
use Rattle.std.proofs.lemmas.List.{append-nil, append_assoc}
use Rattle.tacho_law.specs.declared.run.Run.{Run}
use Rattle.tacho_law.specs.declared.breach.Breach.{Breach}
use Rattle.tacho_law.specs.declared.debt.Debt.{Debt}
use Rattle.tacho_law.specs.Runs.{IsRestRun, Before}
use Rattle.tacho_law.specs.Line.{Line}
use Rattle.tacho_law.specs.Weeks.{week_start}
use Rattle.tacho_law.specs.Debts.{minutes_before, paid_from, IsMainRest, CanPay}
use Rattle.tacho_law.specs.Debts.{Pays, IsSettled, EarlierWeek, AreDebts}
use Rattle.tacho_law.specs.Breaches.{IsRestBreach, AreRestBreaches}
use Rattle.tacho_law.specs.Order.{AreBreaches}
use Rattle.tacho_law.proofs.ExactlyLemmas.{contains_head, contains_tail, contains_cases, head_first, tail_order}
use Rattle.tacho_law.proofs.OrderLemmas.{one_breaches}

-- debts that are equal except for who pays them
pub record Alike (a b : Debt) : Type 0 where
  pub week : a.week ≡ b.week
  pub amount : a.amount ≡ b.amount
  pub deadline : a.deadline ≡ b.deadline

alike_back : (a b : Debt) → Alike a b → Alike b a
alike_back a b e = record { week = sym e.week; amount = sym e.amount; deadline = sym e.deadline }

-- a rest run that starts earlier ends before the other starts
pub separate : (line : Line) (a b : Run) → IsRestRun line a → IsRestRun line b → a.start < b.start → Before a b
separate line a b r s earlier = elim (cases_lt a.past b.start) [
  | inl before ↦ before
  | inr behind ↦ elim s.from [
    | inl none ↦ absurd (omega arith)
    | inr busy ↦ absurd (busy (b.start - 1) (omega arith) (r.rest (b.start - 1) (omega arith) (omega arith)))
  ]
]

-- a run that can pay a debt can also pay one that is alike
pub can_alike : (line : Line) (horizon : ℕ) (earlier : List Debt) (a b : Debt) (run : Run)
    → Alike a b → CanPay line horizon earlier a run → CanPay line horizon earlier b run
can_alike line horizon earlier a b run e c = record {
  main = c.main;
  is = subst (λ (w : ℕ). IsMainRest line horizon w c.main) e.week c.is;
  rests = c.rests;
  after = c.after;
  room = record {
    kept = c.room.kept;
    keeps = c.room.keeps;
    room =
        subst (λ (n : ℕ). c.room.kept + paid_from run earlier + n ≤ minutes_before (min horizon b.deadline) run)
        e.amount
        (subst (λ (d : ℕ). c.room.kept + paid_from run earlier + a.amount ≤ minutes_before (min horizon d) run)
        e.deadline c.room.room);
  };
}

-- debts that are alike have the same payer
same_payer : (line : Line) (horizon : ℕ) (earlier : List Debt) (a b : Debt) (p q : Option ℕ) → Alike a b
    → MatchOption p ((run : Run) → CanPay line horizon earlier a run → ⊥) (λ start. Pays line horizon earlier a start)
    → MatchOption q ((run : Run) → CanPay line horizon earlier b run → ⊥) (λ start. Pays line horizon earlier b start)
    → p ≡ q
same_payer line horizon earlier a b None None e s t = refl
same_payer line horizon earlier a b None (Some other) e s t =
    absurd (s t.payer (can_alike line horizon earlier b a t.payer (alike_back a b e) t.can))
same_payer line horizon earlier a b (Some start) None e s t =
    absurd (t s.payer (can_alike line horizon earlier a b s.payer e s.can))
same_payer line horizon earlier a b (Some start) (Some other) e s t =
    elim (cases_lt s.payer.start t.payer.start) [
      | inl earlier' ↦
          absurd (t.first s.payer (separate line s.payer t.payer s.can.rests t.can.rests earlier')
          (can_alike line horizon earlier a b s.payer e s.can))
      | inr not_earlier ↦ elim (cases_lt t.payer.start s.payer.start) [
        | inl later ↦
            absurd (s.first t.payer (separate line t.payer s.payer t.can.rests s.can.rests later)
            (can_alike line horizon earlier b a t.payer (alike_back a b e) t.can))
        | inr not_later ↦ ap Some (sym s.is ∙ (let same : s.payer.start ≡ t.payer.start = omega arith in same) ∙ t.is)
      ]
    ]

-- each debt is settled, given those before it
pub Settled : Line → ℕ → List Debt → List Debt → Type 0
Settled line horizon before debts =
    (i : ℕ) (debt : Debt) → slice_get debts i ≡ Some debt → IsSettled line horizon (before ++ take i debts) debt

pub settled_head : (line : Line) (horizon : ℕ) (before : List Debt) (x : Debt) (xs : List Debt)
    → Settled line horizon before (x ∷ xs) → IsSettled line horizon before x
unfolding Settled
settled_head line horizon before x xs s =
    subst (λ (ds : List Debt). IsSettled line horizon ds x) (append-nil before) (s 0 x refl)

pub settled_tail : (line : Line) (horizon : ℕ) (before : List Debt) (x : Debt) (xs : List Debt)
    → Settled line horizon before (x ∷ xs) → Settled line horizon (before ++ x ∷ []) xs
unfolding Settled
settled_tail line horizon before x xs s i debt is =
    subst (λ (ds : List Debt). IsSettled line horizon ds debt)
    (sym (append_assoc before (x ∷ []) (take i xs))) (s (suc i) debt is)

-- each debt of one list has a debt alike in the other
Matches : List Debt → List Debt → Type 0
Matches debts others = (debt : Debt) → Contains debts debt → (other : Debt) × Contains others other × Alike debt other

-- debts with the same week, amount, deadline and payer are equal
same_debt : (a b : Debt) → Alike a b → a.paid_by ≡ b.paid_by → a ≡ b
same_debt a b e p = rw (e.week, e.amount, e.deadline, p) refl

-- the first debts of two ordered lists that match are alike
heads_alike : (x y : Debt) (xs ys : List Debt) → AllPairs EarlierWeek (x ∷ xs)
    → AllPairs EarlierWeek (y ∷ ys) → Matches (x ∷ xs) (y ∷ ys) → Matches (y ∷ ys) (x ∷ xs) → Alike x y
unfolding Matches
heads_alike x y xs ys o p f g =
    let m : (other : Debt) × Contains (y ∷ ys) other × Alike x other = f x (contains_head x xs) in
    elim (contains_cases y ys m.0 m.1) [
      | inl same ↦ subst (λ (z : Debt). Alike x z) (sym same) m.2
      | inr later ↦
          let n : (other : Debt) × Contains (x ∷ xs) other × Alike y other = g y (contains_head y ys) in
          let after : y.week < m.0.week = head_first EarlierWeek y ys m.0 p later in
          let e : x.week ≡ m.0.week = m.2.week in
          let e' : y.week ≡ n.0.week = n.2.week in
          elim (contains_cases x xs n.0 n.1) [
            | inl same ↦ absurd (let w : x.week ≡ n.0.week = ap (λ (d : Debt). d.week) same in omega arith)
            | inr later' ↦ absurd (let w : x.week < n.0.week = head_first EarlierWeek x xs n.0 o later' in omega arith)
          ]
    ]

-- the rest of the first list matches that of the second
tails_match : (x y : Debt) (xs ys : List Debt) → AllPairs EarlierWeek (x ∷ xs)
    → Alike x y → Matches (x ∷ xs) (y ∷ ys) → Matches xs ys
unfolding Matches
tails_match x y xs ys o e f debt in' =
    let m : (other : Debt) × Contains (y ∷ ys) other × Alike debt other = f debt (contains_tail x xs debt in') in
    let after : x.week < debt.week = head_first EarlierWeek x xs debt o in' in
    let e' : x.week ≡ y.week = e.week in
    let w : debt.week ≡ m.0.week = m.2.week in
    elim (contains_cases y ys m.0 m.1) [
      | inl same ↦ absurd (let v : y.week ≡ m.0.week = ap (λ (d : Debt). d.week) same in omega arith)
      | inr later ↦ (m.0, later, m.2)
    ]

-- a nonempty list doesn't match an empty one
no_match : (x : Debt) (xs : List Debt) → Matches (x ∷ xs) [] → ⊥
unfolding Matches
no_match x xs f =
    let m : (other : Debt) × Contains [] other × Alike x other = f x (contains_head x xs) in
    let k : m.1.0 < 0 = m.1.1 in
    omega arith

-- ordered lists that match, and are settled after the same debts, are equal
one_after : (line : Line) (horizon : ℕ) (before debts others : List Debt) → AllPairs EarlierWeek debts
    → AllPairs EarlierWeek others → Matches debts others → Matches others debts
    → Settled line horizon before debts → Settled line horizon before others → debts ≡ others
one_after line horizon before [] [] o p f g s t = refl
one_after line horizon before [] (y ∷ ys) o p f g s t = absurd (no_match y ys g)
one_after line horizon before (x ∷ xs) [] o p f g s t = absurd (no_match x xs f)
one_after line horizon before (x ∷ xs) (y ∷ ys) o p f g s t =
    let e : Alike x y = heads_alike x y xs ys o p f g in
    let paid : x.paid_by ≡ y.paid_by =
    same_payer line horizon before x y x.paid_by y.paid_by e
    (settled_head line horizon before x xs s) (settled_head line horizon before y ys t) in
    let same : x ≡ y = same_debt x y e paid in
    let o' : AllPairs EarlierWeek xs = tail_order EarlierWeek x xs o in
    let p' : AllPairs EarlierWeek ys = tail_order EarlierWeek y ys p in
    let s' : Settled line horizon (before ++ y ∷ []) xs =
    subst (λ (d : Debt). Settled line horizon (before ++ d ∷ []) xs)
    same (settled_tail line horizon before x xs s) in
    let rest : xs ≡ ys =
    one_after line horizon (before ++ y ∷ []) xs ys o' p' (tails_match x y xs ys o e f)
    (tails_match y x ys xs p (alike_back x y e) g) s' (settled_tail line horizon before y ys t) in
    ap (λ (z : Debt). z ∷ xs) same ∙ ap (λ (zs : List Debt). y ∷ zs) rest

-- two lists of a line's debts match
debts_match : (line : Line) (horizon : ℕ) (debts others : List Debt)
    → AreDebts line horizon debts → AreDebts line horizon others → Matches debts others
unfolding Matches
debts_match line horizon debts others a b debt in' =
    let m : (other : Debt) × Contains others other × (other.week ≡ debt.week) × (other.amount ≡ debt.amount) =
    (b.are_owed.owed debt.week debt.amount).0 ((a.are_owed.owed debt.week debt.amount).1 (debt, in', refl, refl)) in
    let deadline : debt.deadline ≡ m.0.deadline =
    a.are_owed.deadlines debt in' ∙ ap (λ (w : ℕ). week_start (w + 4)) (sym m.2) ∙ sym (b.are_owed.deadlines m.0 m.1) in
    (m.0, m.1, record { week = sym m.2; amount = sym m.3; deadline = deadline })

pub settled : (line : Line) (horizon : ℕ) (debts : List Debt)
    → AreDebts line horizon debts → Settled line horizon [] debts
unfolding Settled
settled line horizon debts a = a.settled

-- a line has one list of debts
pub one_debts : (line : Line) (horizon : ℕ) (debts others : List Debt)
    → AreDebts line horizon debts → AreDebts line horizon others → debts ≡ others
one_debts line horizon debts others a b =
    one_after line horizon [] debts others a.are_owed.in_order b.are_owed.in_order
    (debts_match line horizon debts others a b) (debts_match line horizon others debts b a)
    (settled line horizon debts a) (settled line horizon others b)

-- a line has one list of breaches of the rules on weekly rests
pub one_rest_breaches : (line : Line) (base horizon : ℕ) (found others : List Breach) (debts debts' : List Debt)
    → AreRestBreaches line base horizon found debts → AreRestBreaches line base horizon others debts' → found ≡ others
one_rest_breaches line base horizon found others debts debts' a b =
    let same : debts ≡ debts' = one_debts line horizon debts debts' a.are_debts b.are_debts in
    one_breaches (λ breach. IsRestBreach line base horizon debts' breach.kind breach) found others
    (subst (λ (ds : List Debt). AreBreaches (λ breach. IsRestBreach line base horizon ds breach.kind breach) found)
    same a.exactly)
    b.exactly
