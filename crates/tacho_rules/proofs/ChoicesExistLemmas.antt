-- There is a list of the weeks that lack their weekly rests: what choices leave of each week decides whether a choice serves the weeks.
use Rattle.std.proofs.Common.{◌≡◌, ℕ, zero, suc, ◌+◌, ◌-◌, ◌<◌, ◌≤◌, ◌⊎◌, inl, inr, Bool, true, false}
use Rattle.std.proofs.Common.{refl, sym, ap, subst, ◌∙◌, arith}
use Rattle.std.specs.Prelude.{not, ◌&&◌, is_some}
use Rattle.tacho_law.specs.declared.breach.Kind.TheVariants.{B9}
use Rattle.tacho_law.specs.declared.breach.Breach.{Breach}
use Rattle.tacho_law.specs.Line.{Line}
use Rattle.tacho_law.specs.Weeks.{week_start, IsWeeklyRest}
use Rattle.tacho_law.specs.Choice.{CanServe}
use Rattle.tacho_law.specs.Anew.{EndedBy, FailsFrom, Fails}
use Rattle.tacho_law.specs.Anew.Fails.{at_first, anew}
use Rattle.tacho_law.specs.Breaches.{IsB9}
use Rattle.tacho_law.proofs.AnewLemmas.{ended_by}
use Rattle.tacho_law.proofs.LackingWeekLemmas.{serves_less}
use Rattle.tacho_choice.specs.declared.counted.Counted.{Counted}
use Rattle.tacho_choice.specs.declared.outcome.Outcome.{Outcome}
use Rattle.tacho_choice.specs.declared.week.WeekOfRests.{WeekOfRests}
use Rattle.tacho_choice.specs.declared.weekly_rests.WeeklyRests.{WeeklyRests}
use Rattle.tacho_choice.specs.Step.{IsNext, IsFirst, may, counted_of, serves, place_of}
use Rattle.tacho_choice.specs.Weeks.{IsInWeeks, IsWeekOfRests, CanReach, IsPairAsked}
use Rattle.tacho_choice.proofs.LawfulLemmas.{reach_law, start_law, serve_law}
use Rattle.tacho_choice.proofs.OutcomesLemmas.{place_below, place_only, at_place}
use Rattle.tacho_choice.proofs.SeenLemmas.{seen_all, seen_whole, in_weeks, asks_is}
use Rattle.tacho_rules.proofs.FiniteLemmas.{Decided, decide_both, decide_either, decide_not, decide_if, decide_as}
use Rattle.tacho_rules.proofs.FiniteLemmas.{decide_lt, decide_le, decide_eq, decide_some, decide_all, IsFinite}
use Rattle.tacho_rules.proofs.FiniteLemmas.{finite_one, finite_as, finite_of, finite_when, finite_below}
use Rattle.tacho_rules.proofs.RunsExistLemmas.{IsQuiet, rest_runs, decide_true}
use Rattle.tacho_rules.proofs.HoursExistLemmas.{IsTold, finite_told, told_only}

-- ---- outcomes

abbrev HasPlace : Outcome → Type 0
HasPlace s = (k : ℕ) × (k < 10) × (place_of s ≡ k)

has_place : (s : Outcome) → HasPlace s
has_place s = (place_of s, place_below s, refl)

finite_outcomes : IsFinite HasPlace
finite_outcomes = finite_of (λ (k : ℕ). k < 10) (λ k s. place_of s ≡ k) (finite_below 10)
    (λ k l. (let s = at_place k l in finite_one (λ (o : Outcome). place_of o ≡ k) s.0 s.1 (λ o e. place_only s.0 o (s.1 ∙ sym e))))

-- whether some outcome satisfies `P` is decided
decide_outcome : (P : Outcome → Type 0) → ((s : Outcome) → Decided (P s)) → Decided ((s : Outcome) × P s)
decide_outcome P decided = decide_as (λ h. (h.0, h.1.1)) (λ h. (h.0, (has_place h.0, h.1)))
    (decide_some HasPlace P finite_outcomes (λ s h. decided s))

-- an outcome of what is counted
outcome_of : Counted → Outcome
outcome_of c = record { counted = c; crossing = false }

decide_counted : (a b : Counted) → Decided (a ≡ b)
unfolding outcome_of
decide_counted a b = elim (decide_eq (place_of (outcome_of a)) (place_of (outcome_of b))) [
  | inl e ↦ inl (ap (λ (o : Outcome). o.counted) (place_only (outcome_of a) (outcome_of b) e))
  | inr none ↦ inr (λ e. none (ap (λ (c : Counted). place_of (outcome_of c)) e))
]

decide_next : (week : WeeklyRests) (asks : Bool) (old new : Outcome) → Decided (IsNext week asks old new)
decide_next week asks old new =
    decide_as (λ h. record { allowed = h.0; counted = h.1.0; served = h.1.1 }) (λ n. (n.allowed, (n.counted, n.served)))
    (decide_both (decide_true (may week old.crossing new.crossing))
    (decide_both (decide_counted new.counted (counted_of week old.crossing new.crossing))
    (decide_if (decide_true asks) (decide_true (serves old.counted new.counted)))))

-- `new` is an outcome of the first week, with the rest that enters it counted before iff `before`
abbrev FirstBy : WeeklyRests → Outcome → Bool → Type 0
FirstBy week new before =
    (before ≡ true → is_some week.entering ≡ true)
    × ((may week before new.crossing ≡ true) × (new.counted ≡ counted_of week before new.crossing))

decide_first_by : (week : WeeklyRests) (new : Outcome) (before : Bool) → Decided (FirstBy week new before)
decide_first_by week new before =
    decide_both (decide_if (decide_true before) (decide_true (is_some week.entering)))
    (decide_both (decide_true (may week before new.crossing))
    (decide_counted new.counted (counted_of week before new.crossing)))

decide_first : (week : WeeklyRests) (new : Outcome) → Decided (IsFirst week new)
decide_first week new =
    decide_as
    (λ h. elim h [ inl f ↦ made true f | inr f ↦ made false f ])
    (λ is. which is.before (is.comes, (is.allowed, is.counted)))
    (decide_either (decide_first_by week new true) (decide_first_by week new false)) where
      made : (b : Bool) → FirstBy week new b → IsFirst week new
      made b f = record { before = b; comes = f.0; allowed = f.1.0; counted = f.1.1 }

      which : (b : Bool) → FirstBy week new b → FirstBy week new true ⊎ FirstBy week new false
      which true f = inl f
      which false f = inr f

-- ---- weeks

module _ (line : Line) (base horizon : ℕ) (quiet : IsQuiet line base horizon) where
  is_in_weeks : IsInWeeks line
  is_in_weeks =
      let runs = rest_runs line base horizon quiet in
      in_weeks line runs.0 runs.1 (λ m l. quiet.before m (let f = quiet.from in omega (arith, l, f)))

  -- each week has a `WeekOfRests`
  week_of : (w : ℕ) → (week : WeekOfRests) × IsWeekOfRests (IsWeeklyRest line) w week
  week_of = seen_all line is_in_weeks

  asks_of : (v : ℕ) → v ≤ 7000 → IsPairAsked line v (not (week_of v).0.whole && not (week_of (v + 1)).0.whole)
  asks_of v early =
      asks_is line v (week_of v).0.whole (week_of (v + 1)).0.whole
      (seen_whole line v (week_of v).0 (omega (arith, early)) (week_of v).1)
      (seen_whole line (v + 1) (week_of (v + 1)).0 (omega (arith, early)) (week_of (v + 1)).1)

  -- ---- what choices leave of a week

  decide_reach : (n first u : ℕ) (left : Outcome) → u ≡ first + n → u ≤ 7000 → Decided (CanReach line first u left)
  decide_reach zero first u left e early =
      let same : first ≡ u = omega (arith, e) in
      let law = start_law line u (week_of u).0.rests left is_in_weeks (week_of u).1.rests in
      subst (λ (f : ℕ). Decided (CanReach line f u left)) (sym same)
      (decide_as law.1 law.0 (decide_first (week_of u).0.rests left))
  decide_reach (suc n) first u left e early =
      let v : ℕ = first + n in
      let next : v + 1 ≡ u = omega (arith, e) in
      let asks : Bool = not (week_of v).0.whole && not (week_of (v + 1)).0.whole in
      let law = reach_law line first v (week_of v).0.rests (week_of (v + 1)).0.rests asks left is_in_weeks (omega arith)
      (week_of v).1.rests (week_of (v + 1)).1.rests (asks_of v (omega (arith, e, early))) in
      subst (λ (w : ℕ). Decided (CanReach line first w left)) next
      (decide_as law.1 law.0
      (decide_outcome (λ before. CanReach line first v before × IsNext (week_of (v + 1)).0.rests asks before left)
      (λ before. decide_both (decide_reach n first v before refl (omega (arith, e, early)))
      (decide_next (week_of (v + 1)).0.rests asks before left))))

  decide_serve : (first u : ℕ) → first ≤ u → u ≤ 7000 → Decided (CanServe line first u)
  decide_serve first u order early =
      let law = serve_law line first u (week_of u).0.rests is_in_weeks (week_of u).1.rests in
      decide_as law.1 law.0
      (decide_outcome (λ left. CanReach line first u left)
      (λ left. decide_reach (u - first) first u left (omega (arith, order)) early))

  -- ---- weeks at which the rule is broken

  decide_from : (first u : ℕ) → Decided (FailsFrom (CanServe line) (EndedBy horizon) first u)
  decide_from first u = elim (decide_both (decide_lt first u) (decide_le (week_start (u + 1)) horizon)) [
    | inr none ↦ inr (λ f. none (f.later, f.ended))
    | inl h ↦
        let later = h.0 in
        let ended = h.1 in
        let until = quiet.until in
        decide_as (λ d. record { later = h.0; ended = h.1; none = d.0; before = λ v from below. d.1 v below from })
        (λ f. (f.none, λ v below from. f.before v from below))
        (decide_both (decide_not (decide_serve first u (omega (arith, later)) (omega (arith, ended, until))))
        (decide_all (λ (v : ℕ). v < u) (λ v. first ≤ v → CanServe line first v) (finite_below u)
        (λ v l. elim (decide_le first v) [
          | inl from ↦ elim (decide_serve first v from (omega (arith, ended, until, l))) [
            | inl s ↦ inl (λ f. s)
            | inr none ↦ inr (λ f. none (f from))
          ]
          | inr none ↦ inl (λ f. absurd (none f))
        ])))
  ]

  came_from : (first u : ℕ) → Fails (CanServe line) (EndedBy horizon) first u
      → FailsFrom (CanServe line) (EndedBy horizon) first u
      ⊎ ((a : ℕ) × ((a < u) × (Fails (CanServe line) (EndedBy horizon) first a × FailsFrom (CanServe line) (EndedBy horizon) a u)))
  came_from first u (at_first f) = inl f
  came_from first u (anew {a = a} h f) = inr (a, (f.later, (h, f)))

  decide_fails : (n first u : ℕ) → u < n → Decided (Fails (CanServe line) (EndedBy horizon) first u)
  decide_fails zero first u below = absurd (omega (arith, below))
  decide_fails (suc n) first u below = elim (decide_from first u) [
    | inl f ↦ inl (at_first f)
    | inr none ↦ elim (decide_some (λ (a : ℕ). a < u)
        (λ a. Fails (CanServe line) (EndedBy horizon) first a × FailsFrom (CanServe line) (EndedBy horizon) a u) (finite_below u)
        (λ a l. decide_both (decide_fails n first a (omega (arith, below, l))) (decide_from a u))) [
          | inl h ↦ inl (anew h.1.1.0 h.1.1.1)
          | inr never ↦ inr (λ f. elim (came_from first u f) [ inl g ↦ none g | inr g ↦ never g ])
        ]
  ]

  -- a week at which the rule is broken has ended
  early_fail : (first w : ℕ) → Fails (CanServe line) (EndedBy horizon) first (w + 1) → w < horizon
  early_fail first w f =
      let l : week_start (w + 1 + 1) ≤ horizon = ended_by (CanServe line) (EndedBy horizon) first (serves_less line) (w + 1) f in
      omega (arith, l)

  pub finite_b9 : (first : ℕ) → base ≡ week_start first
      → IsFinite (λ (breach : Breach). (breach.kind ≡ B9) × IsB9 line base horizon breach)
  finite_b9 first monday =
      finite_as
      (λ breach. (w : ℕ) × (w < horizon) × (Fails (CanServe line) (EndedBy horizon) first (w + 1)
      × IsTold B9 (week_start (w + 2)) (week_start w) 0 0 breach))
      (λ breach. (breach.kind ≡ B9) × IsB9 line base horizon breach)
      (λ breach. (
        λ h.
            let t = h.2.1 in
            let e = t.1.1.1 in (
              t.0,
              record {
                first = first;
                week = h.0;
                monday = monday;
                fails = h.2.0;
                moment = t.1.0;
                since = t.1.1.0;
                amount = omega (arith, e);
              },
            ),
        λ h.
            let is = h.1 in
            let e = is.amount in
            let m : base ≡ week_start is.first = is.monday in
            let same : is.first ≡ first = omega (arith, m, monday) in
            let f : Fails (CanServe line) (EndedBy horizon) first (is.week + 1) =
            subst (λ (a : ℕ). Fails (CanServe line) (EndedBy horizon) a (is.week + 1)) same is.fails in
            (is.week, early_fail first is.week f, (f, (h.0, (is.moment, (is.since, omega (arith, e)))))),
      ))
      (finite_of (λ (w : ℕ). w < horizon)
      (λ w breach. Fails (CanServe line) (EndedBy horizon) first (w + 1) × IsTold B9 (week_start (w + 2)) (week_start w) 0 0 breach)
      (finite_below horizon)
      (λ w l. finite_when (Fails (CanServe line) (EndedBy horizon) first (w + 1)) (IsTold B9 (week_start (w + 2)) (week_start w) 0 0)
      (decide_fails (w + 2) first (w + 1) (omega arith))
      (λ f. finite_told B9 (week_start (w + 2)) (week_start w) 0 0)))

  pub b9_only : (x y : Breach) → x.kind ≡ B9 → y.kind ≡ B9 → IsB9 line base horizon x → IsB9 line base horizon y
      → x.since ≡ y.since → x ≡ y
  b9_only x y e f p q same =
      let a : x.since ≡ week_start p.week = p.since in
      let b : y.since ≡ week_start q.week = q.since in
      let c : x.amount ≡ 0 = p.amount in
      let d : y.amount ≡ 0 = q.amount in
      let one : p.week ≡ q.week = omega (arith, a, b, same) in
      told_only B9 (week_start (q.week + 2)) (week_start q.week) 0 0 x y
      (subst (λ (w : ℕ). IsTold B9 (week_start (w + 2)) (week_start w) 0 0 x) one (e, (p.moment, (p.since, omega (arith, c)))))
      (f, (q.moment, (q.since, omega (arith, d))))
