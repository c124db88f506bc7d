-- From each base there is a report.
use Rattle.std.proofs.Common.{◌≡◌, ℕ, zero, suc, ◌+◌, ◌<◌, ◌≤◌, ◌⊎◌, inl, inr, Option, None, Some, Bool, true, false}
use Rattle.std.proofs.Common.{List, [], ◌∷◌, get_or, refl, sym, ap, subst, ◌∙◌, arith}
use Rattle.std.specs.List.{All, Contains}
use Rattle.std.proofs.lemmas.Bool.{cases_lt}
use Rattle.std.proofs.lemmas.Bool.Decides.{nat_tests}
use Rattle.tacho_time.specs.declared.span.Mark.{Mark}
use Rattle.tacho_time.specs.declared.span.Span.{Span}
use Rattle.tacho_line.specs.declared.horizon.Cause.{Cause}
use Rattle.tacho_line.specs.declared.horizon.Cause.TheVariants.{Unknown, Crew}
use Rattle.tacho_line.specs.declared.horizon.Horizon.{Horizon}
use Rattle.tacho_line.specs.Line.{mark_at, IsSingle, IsCause, IsHorizon}
use Rattle.tacho_law.specs.declared.run.Run.{Run}
use Rattle.tacho_law.specs.declared.debt.Debt.{Debt}
use Rattle.tacho_law.specs.declared.breach.Kind.{Kind}
use Rattle.tacho_law.specs.declared.breach.Kind.TheVariants.{B1, B2, B3, B4, B5, B6, B7, B8, B9, B10}
use Rattle.tacho_law.specs.declared.breach.Breach.{Breach}
use Rattle.tacho_law.specs.Line.{Line, IsBase}
use Rattle.tacho_law.specs.Runs.{AreRestRuns}
use Rattle.tacho_law.specs.Breaks.{AreCompleteBreaks}
use Rattle.tacho_law.specs.Weeks.{week_start}
use Rattle.tacho_law.specs.Debts.{AreDebts}
use Rattle.tacho_law.specs.Order.{Earlier, AreBreaches, place_of_kind}
use Rattle.tacho_law.specs.Breaches.{IsBreach}
use Rattle.tacho_law.proofs.OrderLemmas.{earlier_trans}
use Rattle.tacho_rules.specs.Report.{examined_line, IsReport}
use Rattle.tacho_rules.proofs.SliceLemmas.{before_end, early_horizon}
use Rattle.tacho_rules.proofs.FiniteLemmas.{IsFinite, finite_as, finite_of, finite_in, listed}
use Rattle.tacho_rules.proofs.RunsExistLemmas.{IsQuiet, rest_runs, complete_breaks}
use Rattle.tacho_rules.proofs.HoursExistLemmas.{finite_b1, finite_b2, finite_b3, finite_b4, finite_b5, finite_b6}
use Rattle.tacho_rules.proofs.HoursExistLemmas.{finite_b7, finite_b8, b1_only, b2_only, b3_only, b4_only, b5_only}
use Rattle.tacho_rules.proofs.HoursExistLemmas.{b6_only, b7_only, b8_only}
use Rattle.tacho_rules.proofs.DebtsExistLemmas.{debts_of, finite_b10, b10_only}
use Rattle.tacho_rules.proofs.ChoicesExistLemmas.{finite_b9, b9_only}

-- ---- the horizon

single_or : (o : Option Mark) → IsSingle o ⊎ ((cause : Cause) × IsCause o cause)
single_or None = inr (Unknown, refl)
single_or (Some mark) = go mark.crew refl where
  go : (b : Bool) → mark.crew ≡ b → IsSingle (Some mark) ⊎ ((cause : Cause) × IsCause (Some mark) cause)
  go true e = inr (Crew, e)
  go false e = inl e

-- if all minutes before `m` are single, and `m` is, then all minutes up to `m` are
one_more : (held : List Span) (base m : ℕ) → ((k : ℕ) → base ≤ k → k < m → IsSingle (mark_at held k)) → IsSingle (mark_at held m)
    → (k : ℕ) → base ≤ k → k < m + 1 → IsSingle (mark_at held k)
one_more held base m single here k above below = elim (cases_lt k m) [
  | inl l ↦ single k above l
  | inr l ↦ let e : m ≡ k = omega (arith, l, below) in subst (λ (x : ℕ). IsSingle (mark_at held x)) e here
]

-- if all minutes before `m` are single, there is a horizon at or after `m`
horizon_from : (n : ℕ) (held : List Span) (base last m : ℕ) → All (λ (s : Span). s.past ≤ last) held → base ≤ m → last < m + n
    → ((k : ℕ) → base ≤ k → k < m → IsSingle (mark_at held k)) → (h : Horizon) × IsHorizon held base h
horizon_from zero held base last m ended from fuel single = elim (single_or (mark_at held m)) [
  | inl here ↦ absurd (let l : m < last = before_end held last m ended here in omega (arith, l, fuel))
  | inr stops ↦ (
    record { minute = m; cause = stops.0 },
    record {
      from = from;
      single = λ k within. single k within.0 within.1;
      cause = stops.1;
    },
  )
]
horizon_from (suc n) held base last m ended from fuel single = elim (single_or (mark_at held m)) [
  | inl here ↦ horizon_from n held base last (m + 1) ended (omega (arith, from)) (omega (arith, fuel)) (one_more held base m single here)
  | inr stops ↦ (
    record { minute = m; cause = stops.0 },
    record {
      from = from;
      single = λ k within. single k within.0 within.1;
      cause = stops.1;
    },
  )
]

horizon_of : (held : List Span) (last base : ℕ) → All (λ (s : Span). s.past ≤ last) held → (h : Horizon) × IsHorizon held base h
horizon_of held last base ended =
    horizon_from (last + 1) held base last base ended (omega arith) (omega arith) (λ k above below. absurd (omega (arith, above, below)))

-- ---- kinds

kinds : List Kind
kinds = B1 ∷ B1 ∷ B2 ∷ B3 ∷ B4 ∷ B5 ∷ B6 ∷ B7 ∷ B8 ∷ B9 ∷ B10 ∷ []

kind_is : (k : Kind) → get_or kinds (place_of_kind k) B1 ≡ k
unfolding kinds
kind_is B1 = refl
kind_is B2 = refl
kind_is B3 = refl
kind_is B4 = refl
kind_is B5 = refl
kind_is B6 = refl
kind_is B7 = refl
kind_is B8 = refl
kind_is B9 = refl
kind_is B10 = refl

same_kind : (a b : Kind) → place_of_kind a ≡ place_of_kind b → a ≡ b
same_kind a b e = sym (kind_is a) ∙ ap (λ (n : ℕ). get_or kinds n B1) e ∙ kind_is b

among_kinds : (k : Kind) → Contains kinds k
unfolding kinds
among_kinds B1 = (0, omega arith, refl)
among_kinds B2 = (2, omega arith, refl)
among_kinds B3 = (3, omega arith, refl)
among_kinds B4 = (4, omega arith, refl)
among_kinds B5 = (5, omega arith, refl)
among_kinds B6 = (6, omega arith, refl)
among_kinds B7 = (7, omega arith, refl)
among_kinds B8 = (8, omega arith, refl)
among_kinds B9 = (9, omega arith, refl)
among_kinds B10 = (10, omega arith, refl)

-- ---- breaches

module _ (line : Line) (base horizon : ℕ) (quiet : IsQuiet line base horizon) (runs breaks : List Run)
    (are : AreRestRuns line runs) (complete : AreCompleteBreaks runs breaks) (debts : List Debt)
    (owed : AreDebts line horizon debts) (first : ℕ) (monday : base ≡ week_start first) where
  -- a breach of this kind
  abbrev OfKind : Kind → Breach → Type 0
  OfKind kind breach = (breach.kind ≡ kind) × IsBreach line base horizon breaks debts kind breach

  of_kind : (kind : Kind) → IsFinite (OfKind kind)
  of_kind B1 = finite_b1 line base horizon quiet breaks
  of_kind B2 = finite_b2 line base horizon quiet
  of_kind B3 = finite_b3 line base horizon quiet
  of_kind B4 = finite_b4 line base horizon quiet
  of_kind B5 = finite_b5 line base horizon quiet
  of_kind B6 = finite_b6 line base horizon quiet
  of_kind B7 = finite_b7 line base horizon quiet
  of_kind B8 = finite_b8 line base horizon quiet
  of_kind B9 = finite_b9 line base horizon quiet first monday
  of_kind B10 = finite_b10 line base horizon quiet debts

  -- a breach of its own kind
  abbrev Is : Breach → Type 0
  Is breach = IsBreach line base horizon breaks debts breach.kind breach

  finite_all : IsFinite Is
  finite_all =
      finite_as (λ breach. (kind : Kind) × Contains kinds kind × OfKind kind breach) Is
      (λ breach. (
        λ h. subst (λ (kind : Kind). IsBreach line base horizon breaks debts kind breach) (sym h.2.0) h.2.1,
        λ p. (breach.kind, among_kinds breach.kind, (refl, p)),
      ))
      (finite_of (λ kind. Contains kinds kind) OfKind (finite_in kinds) (λ kind h. of_kind kind))

  only : (kind : Kind) (x y : Breach) → x.kind ≡ kind → y.kind ≡ kind → IsBreach line base horizon breaks debts kind x
      → IsBreach line base horizon breaks debts kind y → x.moment ≡ y.moment → x.since ≡ y.since → x ≡ y
  only B1 x y e f p q moments same =
      b1_only line base horizon quiet breaks (λ run h. (are.each run).0 ((complete.each run).0 h).0) x y e f p q same
  only B2 x y e f p q moments same = b2_only line base horizon quiet x y e f p q same
  only B3 x y e f p q moments same = b3_only line base horizon quiet x y e f p q moments same
  only B4 x y e f p q moments same = b4_only line base horizon quiet x y e f p q same
  only B5 x y e f p q moments same = b5_only line base horizon quiet x y e f p q same
  only B6 x y e f p q moments same = b6_only line base horizon quiet x y e f p q same
  only B7 x y e f p q moments same = b7_only line base horizon quiet x y e f p q same
  only B8 x y e f p q moments same = b8_only line base horizon quiet x y e f p q same
  only B9 x y e f p q moments same = b9_only line base horizon quiet x y e f p q same
  only B10 x y e f p q moments same = b10_only line base horizon quiet debts owed.are_owed.in_order x y e f p q same

  breaches_order : (x y : Breach) → Is x → Is y → (x ≡ y) ⊎ (Earlier x y ⊎ Earlier y x)
  breaches_order x y p q = elim (cases_lt x.moment y.moment) [
    | inl l ↦ inr (inl (inl l))
    | inr l ↦ elim (cases_lt y.moment x.moment) [
      | inl k ↦ inr (inr (inl k))
      | inr k ↦ let e : x.moment ≡ y.moment = omega (arith, l, k) in
          elim (cases_lt (place_of_kind x.kind) (place_of_kind y.kind)) [
            | inl i ↦ inr (inl (inr (e, inl i)))
            | inr i ↦ elim (cases_lt (place_of_kind y.kind) (place_of_kind x.kind)) [
              | inl j ↦ inr (inr (inr (sym e, inl j)))
              | inr j ↦ let f : place_of_kind x.kind ≡ place_of_kind y.kind = omega (arith, i, j) in
                  elim (cases_lt x.since y.since) [
                    | inl a ↦ inr (inl (inr (e, inr (f, a))))
                    | inr a ↦ elim (cases_lt y.since x.since) [
                      | inl b ↦ inr (inr (inr (sym e, inr (sym f, b))))
                      | inr b ↦
                          let kind : x.kind ≡ y.kind = same_kind x.kind y.kind f in
                          inl (only y.kind x y kind refl
                          (subst (λ (k : Kind). IsBreach line base horizon breaks debts k x) kind p) q e (omega (arith, a, b)))
                    ]
                  ]
            ]
          ]
    ]
  ]

  breaches : (found : List Breach) × AreBreaches Is found
  breaches = listed Is Earlier breaches_order (λ x y z p q r e f. earlier_trans x y z e f) finite_all

-- ---- the report

-- the examined line is at rest before the base and from the horizon on
quiet_examined : (held : List Span) (base horizon : ℕ) → 15780960 ≤ base → base ≤ horizon → horizon ≤ 68374080
    → IsQuiet (examined_line held base horizon) base horizon
quiet_examined held base horizon from order until = record {
  before = λ m l. grind (arith, nat_tests);
  after = λ m l. grind (arith, nat_tests);
  from = from;
  order = order;
  until = until;
}

-- there is a report from this base
pub record HasReport (held : List Span) (base : ℕ) : Type 0 where
  pub horizon : Horizon
  pub breaches : List Breach
  pub debts : List Debt
  pub report : IsReport held base horizon breaches debts

pub each_report : (held : List Span) (base : ℕ) → All (λ (s : Span). s.past ≤ 68374080) held → IsBase base → base ≤ 68374080
    → HasReport held base
each_report held base ended is early =
    let h = horizon_of held 68374080 base ended in
    let end : ℕ = h.0.minute in
    let line : Line = examined_line held base end in
    let quiet : IsQuiet line base end =
    quiet_examined held base end is.from h.1.from (early_horizon held base h.0 h.1 early ended) in
    let runs = rest_runs line base end quiet in
    let breaks = complete_breaks line runs.0 runs.1 in
    let debts = debts_of line base end quiet runs.0 runs.1 in
    let found = breaches line base end quiet runs.0 breaks.0 runs.1 breaks.1 debts.0 debts.1 is.week is.monday in
    record {
      horizon = h.0;
      breaches = found.0;
      debts = debts.0;
      report = record {
        is_horizon = h.1;
        runs = runs.0;
        breaks = breaks.0;
        are_runs = runs.1;
        are_breaks = breaks.1;
        are_debts = debts.1;
        exactly = found.1;
      };
    }

-- from each base there is a report, in the words of the law
pub some_report : (held : List Span) (base : ℕ) → All (λ (s : Span). s.past ≤ 68374080) held → IsBase base → base ≤ 68374080
    → (horizon : Horizon) × (found : List Breach) × (debts : List Debt) × IsReport held base horizon found debts
some_report held base ended is early =
    let has : HasReport held base = each_report held base ended is early in
    (has.horizon, has.breaches, has.debts, has.report)
