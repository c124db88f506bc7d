-- One search for the limits of all rules but B3.
use Rattle.std.proofs.Common.{◌≡◌, ℕ, ◌+◌, ◌<◌, ◌≤◌, inl, inr, ap, List, Option, None, Some, refl, sym, subst, ◌∙◌, arith, true}
use Rattle.std.proofs.lemmas.Bool.{cases_lt}
use Rattle.tacho_time.specs.declared.span.Span.{Span}
use Rattle.tacho_law.specs.declared.breach.Breach.{Breach}
use Rattle.tacho_law.specs.declared.breach.Kind.{Kind}
use Rattle.tacho_law.specs.declared.breach.Kind.TheVariants.{B1, B2, B3, B4, B5, B6, B7, B8, B9, B10}
use Rattle.tacho_law.specs.Weeks.{week_start}
use Rattle.tacho_pass.specs.declared.found.Found.{Found}
use Rattle.tacho_pass.specs.Found.{Appends}
use Rattle.tacho_pass.specs.Kinds.{is_any}
use Rattle.tacho_rules.specs.declared.scan.Scan.{Scan}
use Rattle.tacho_ahead.specs.declared.limits.Limits.{Limits}
use Rattle.tacho_ahead.specs.Plans.{plan_for}
use Rattle.tacho_ahead.specs.Ahead.{Breaks, BreaksNone, IsReach, IsWithinReach, IsWeekEnd, IsLimit, limit_of}
use Rattle.tacho_ahead.specs.Fed.{IsKnown, HasSame, HasNew, IsPicked, IsFedTo, GoesToRest, AreReported}
use Rattle.tacho_ahead.proofs.PlanLemmas.{same_known, same_then, rests_reported, breaks_some, breaks_none}

-- ---- reach

-- the ends of weeks are in order
one_week_end : (n m p q : ℕ) → IsWeekEnd n m p → IsWeekEnd n m q → p ≡ q
one_week_end n m p q (v, (al, ar), ae) (w, (bl, br), be) =
    let same : v ≡ w = omega (arith, al, ar, bl, br) in
    ae ∙ ap (λ (x : ℕ). week_start (x + n)) same ∙ sym be

pub one_reach : (start : ℕ) (k : Kind) (p q : ℕ) → IsReach start k p → IsReach start k q → p ≡ q
one_reach start B1 p q a b = a ∙ sym b
one_reach start B2 p q a b = a ∙ sym b
one_reach start B3 p q a b = a ∙ sym b
one_reach start B4 p q a b = a ∙ sym b
one_reach start B5 p q a b = a ∙ sym b
one_reach start B6 p q a b = one_week_end 1 start p q a b
one_reach start B7 p q a b = one_week_end 1 start p q a b
one_reach start B8 p q a b = a ∙ sym b
one_reach start B9 p q a b = one_week_end 2 start p q a b
one_reach start B10 p q a b = a ∙ sym b

-- each rule has a reach, and none is greater than that of B9
pub some_reach : (start far : ℕ) → IsReach start B9 far → (k : Kind) → (past : ℕ) × IsReach start k past × (past ≤ far)
some_reach start far (week, (above, below), end) = go where
  day : start + 1440 ≤ far
  day = omega (arith, below, end)

  first : (past : ℕ) × IsWeekEnd 1 start past × (past ≤ far)
  first = (week_start (week + 1), (week, (above, below), refl), omega (arith, end))

  go : (k : Kind) → (past : ℕ) × IsReach start k past × (past ≤ far)
  go B1 = (start + 1440, refl, day)
  go B2 = (start + 1440, refl, day)
  go B3 = (start + 1440, refl, day)
  go B4 = (start + 1440, refl, day)
  go B5 = (start + 1440, refl, day)
  go B6 = first
  go B7 = first
  go B8 = (start + 10080, refl, omega (arith, below, end))
  go B9 = (far, (week, (above, below), end), omega arith)
  go B10 = (start, refl, omega (arith, day))

-- ---- what was tried

-- a rule's limit is known; or driving to before no minute up to `until` breaks it within reach
abbrev pub TriedTo : List Span → ℕ → ℕ → Kind → ℕ → Option ℕ → Type 0
TriedTo held base start k until None = (past : ℕ) → IsReach start k past → (x : ℕ) → start < x → x ≤ until → x ≤ past
    → Breaks held base start k x → ⊥
TriedTo held base start k until (Some u) = (start ≤ u) × IsWithinReach start k u × BreaksNone held base start k u × Breaks held base start k (u + 1)

module _ (held : List Span) (base start : ℕ) (k : Kind) (until : ℕ) (forward : start ≤ until) (breaches had : List Breach)
    (some : HasNew breaches had k → Breaks held base start k (until + 1))
    (none : Breaks held base start k (until + 1) → HasNew breaches had k) where
  pub tried_next : (o o' : Option ℕ) → TriedTo held base start k until o → IsPicked start k until breaches had o o'
      → TriedTo held base start k (until + 1) o'
  tried_next (Some u) o' t e = subst (TriedTo held base start k (until + 1)) (sym e) t
  tried_next None None t (p, r, inl le) = λ past reach x above below within b.
      let e : p ≡ past = one_reach start k p past r reach in
      t past reach x above (omega (arith, e, le, within)) within b
  tried_next None None t (p, r, inr not) = λ past reach x above below within b. elim (cases_lt until x) [
    | inl lt ↦
        let e : x ≡ until + 1 = omega (arith, lt, below) in
        not (none (subst (Breaks held base start k) e b))
    | inr ge ↦ t past reach x above ge within b
  ]
  tried_next None (Some u) t (p, r, lt, e, new) =
      subst (TriedTo held base start k (until + 1)) (sym (ap (λ (n : ℕ). Some n) e)) (
        forward,
        (p, r, lt),
        λ x above below b. t p r x above below (omega (arith, below, lt)) b,
        some new,
      )

-- all rules but B3 were tried up to `until`
pub record IsTried (s : Scan) (was found : Found) (had : List Breach) (start until : ℕ) (limits : Limits) : Type 0 where
  pub same : HasSame was found
  pub tried : (held : List Span) (base : ℕ) → IsKnown s was had held base start → (k : Kind) → (k ≡ B3 → ⊥)
      → TriedTo held base start k until (limit_of limits k)

-- nothing was tried
pub tried_none : (s : Scan) (f : Found) (had : List Breach) (start until : ℕ) (l : Limits) → until ≡ start
    → ((k : Kind) → limit_of l k ≡ None) → IsTried s f f had start until l
tried_none s f had start until l e empty = record {
  same = record { breaches = refl; debts = refl };
  tried = λ held base known k not.
      subst (TriedTo held base start k until) (sym (empty k))
      (λ past reach x above below within b. absurd (omega (arith, e, above, below)));
}

-- all was tried
pub tried_all : (held : List Span) (base start far : ℕ) → IsReach start B9 far → (k : Kind) (until : ℕ) → far ≤ until → (o : Option ℕ)
    → TriedTo held base start k until o → IsLimit held base start k o
tried_all held base start far reaches k until all (Some u) t = t
tried_all held base start far reaches k until all None t =
    let (past, reach, le) = some_reach start far reaches k in
    (past, reach, λ x above below b. t past reach x above (omega (arith, below, le, all)) below b)

-- one more minute
module _ (s : Scan) (was found all new : Found) (had : List Breach) (start until : ℕ) (l l' : Limits)
    (is : IsTried s was found had start until l) (appends : Appends is_any true found all)
    (from : start ≤ until) (early : until + 1 + 50400 ≤ 68374080)
    (finds : (p : List Span) (b : ℕ) → IsFedTo s found p b start → GoesToRest p start (until + 1) → AreReported p b all.breaches.items)
    (picked : (k : Kind) → (k ≡ B3 → ⊥) → IsPicked start k until appends.breaches had (limit_of l k) (limit_of l' k))
    (same : HasSame found new) where
  pub tried_more : IsTried s was new had start (until + 1) l'
  tried_more = record {
    same = same_then was found new is.same same;
    tried = λ held base known k not.
        let known' : IsKnown s found had held base start = same_known s was found had held base start is.same known in
        let reported : AreReported (plan_for k held start (until + 1)) base all.breaches.items =
        rests_reported s found held base start known'.ready (until + 1) (omega (arith, from)) early k not all.breaches.items finds in
        tried_next held base start k until from appends.breaches had
        (λ n. breaks_some s found had held base start known' k (until + 1) all.breaches.items appends.breaches appends.longer reported n.0
        n.1 n.2 n.3)
        (λ b. breaks_none s found had held base start known' k (until + 1) all.breaches.items appends.breaches appends.longer reported b)
        (limit_of l k) (limit_of l' k) (is.tried held base known k not) (picked k not);
  }
